-- The outcome of a key call by its cases, in the replies' order; and no second outcome fits. An accepted insert, from
-- what was found and written: proofs/Call/Replied.antt.
use Prim.Native.Nat.{ℕ, suc, ◌+◌}
use Rattle.std.specs.Prelude.{◌≡◌, Bool, true, false, not, ◌&&◌, leb, ltb, eqb, length}
use Rattle.std.proofs.Math.Path.{refl, ap, ap₂}
use Rattle.std.proofs.Common.{sym, ◌∙◌, eq-eqb, ne_eqb, eqb-true}
use mathlib.Core.List.{List}
use Rattle.std.proofs.Math.Numerals.{add-one}
use Rattle.std.proofs.lemmas.Bool.{not-true, not-false}
use Rattle.address.specs.declared.Image.{Image}
use Rattle.layout.specs.Bytes.Tests.{and_left, and_right}
use Rattle.layout.specs.Replies.{reply}
use Rattle.bucket.specs.Region.{count_of, ride_at, slot_of}
use Rattle.client.specs.Table.{image_of, with_image}
use Rattle.file.specs.File.{region_of, with_ride}
use Rattle.file.specs.declared.Header.{Header}
use Rattle.answer.specs.Answer.{block, no_payload}
use Rattle.route.specs.declared.walk.Walk.{Walk}
use Rattle.route.specs.Way.{early, on_way, way_of, own_of, held, full, noted, adjusted_by}
use Rattle.route.specs.Way.Own.{held_is, full_is}
use Rattle.route.specs.Way.Reach.{OnWay, AtOwn, way_refused}
use Rattle.ride.specs.Call.{Outcome, adjusted_table, routed, searched, search, placed, insert, inserted}
use Rattle.ride.specs.Call.{count_then}

-- ---- up to the key's own bucket

module _ (file table : List ℕ) (client key : ℕ) (answer : List ℕ) (reached : Outcome) where
  pub routed_block : record { answer = 14; block = answer; table = table; file = file }
      ≡ routed false file table client key answer reached
  unfolding routed
  routed_block = refl

  module _ {walk : Walk} {r : ℕ} (way : OnWay file table client key walk r) where
    pub routed_refused : (r ≡ 0 → ⊥) → {left : List ℕ} → left ≡ block r (noted walk) 0 no_payload
        → record { answer = r; block = left; table = table; file = file }
        ≡ routed true file table client key answer reached
    unfolding routed
    routed_refused some el = rw (ne_eqb (reply (on_way file table client key) 0) 0 (λ e. some (way.is ∙ e)))
        (λ i.
        record {
          answer = way.is i;
          block = (el ∙ ap₂ (λ (n : ℕ) (l : List ℕ). block n l 0 no_payload) way.is way.met) i;
          table = table;
          file = file;
        })

    pub routed_reached : r ≡ 0 → {o : Outcome} → o ≡ reached → o ≡ routed true file table client key answer reached
    unfolding routed
    routed_reached none eo = rw (eq-eqb (reply (on_way file table client key) 0) 0 (sym way.is ∙ none)) eo

-- a search's ways out, test by test
module _ (file table : List ℕ) (client key : ℕ) (answer : List ℕ) where
  search_is : (fits : Bool) → eqb (length answer) 24 ≡ fits
      → routed fits file table client key answer (searched file table client key) ≡ search file table client key answer
  unfolding search
  search_is fits e = ap (λ (t : Bool). routed t file table client key answer (searched file table client key)) (sym e)

  pub search_unfit : (length answer ≡ 24 → ⊥) → record { answer = 14; block = answer; table = table; file = file }
      ≡ search file table client key answer
  search_unfit h = routed_block file table client key answer _ ∙ search_is false (ne_eqb (length answer) 24 h)

  pub search_walked : length answer ≡ 24 → {o : Outcome}
      → o ≡ routed true file table client key answer (searched file table client key)
      → o ≡ search file table client key answer
  search_walked long eo = eo ∙ search_is true (eq-eqb (length answer) 24 long)

  pub search_refused : length answer ≡ 24 → {r : ℕ} → r ≡ reply (early file table client) 0 → (walk : Walk)
      → walk.count ≡ 0 → {left : List ℕ} → (r ≡ 0 → ⊥) → left ≡ block r (noted walk) 0 no_payload
      → record { answer = r; block = left; table = table; file = file } ≡ search file table client key answer
  search_refused long er walk zero some el =
      search_walked long
      (routed_refused file table client key answer _ (way_refused er {walk = walk} some zero) some el)

pub search_single : (file table : List ℕ) (client key : ℕ) (answer : List ℕ) (o p : Outcome)
    → o ≡ search file table client key answer → p ≡ search file table client key answer → o ≡ p
search_single file table client key answer o p eo ep = eo ∙ sym ep

-- an insert's
module _ (file table : List ℕ) (client key : ℕ) (payload answer : List ℕ) where
  insert_is : (fits : Bool) → (eqb (length answer) 24 && eqb (length payload) 14) ≡ fits
      → routed fits file table client key answer (placed file table client key payload)
      ≡ insert file table client key payload answer
  unfolding insert
  insert_is fits e = ap (λ (t : Bool). routed t file table client key answer (placed file table client key payload))
      (sym e)

  pub insert_unfit : not (eqb (length answer) 24 && eqb (length payload) 14) ≡ true
      → record { answer = 14; block = answer; table = table; file = file }
      ≡ insert file table client key payload answer
  insert_unfit h = routed_block file table client key answer _ ∙ insert_is false (not-true _ h)

  pub insert_walked : not (eqb (length answer) 24 && eqb (length payload) 14) ≡ false → {o : Outcome}
      → o ≡ routed true file table client key answer (placed file table client key payload)
      → o ≡ insert file table client key payload answer
  insert_walked fits eo = eo ∙ insert_is true (not-false _ fits)

  pub insert_refused : not (eqb (length answer) 24 && eqb (length payload) 14) ≡ false → {r : ℕ}
      → r ≡ reply (early file table client) 0 → (walk : Walk) → walk.count ≡ 0 → {left : List ℕ} → (r ≡ 0 → ⊥)
      → left ≡ block r (noted walk) 0 no_payload
      → record { answer = r; block = left; table = table; file = file } ≡ insert file table client key payload answer
  insert_refused fits er walk zero some el =
      insert_walked fits
      (routed_refused file table client key answer _ (way_refused er {walk = walk} some zero) some el)

pub insert_single : (file table : List ℕ) (client key : ℕ) (payload answer : List ℕ) (o p : Outcome)
    → o ≡ insert file table client key payload answer → p ≡ insert file table client key payload answer → o ≡ p
insert_single file table client key payload answer o p eo ep = eo ∙ sym ep

-- the lengths that fit
pub fits_answer : (x y : ℕ) → not (eqb x 24 && eqb y 14) ≡ false → x ≡ 24
fits_answer x y h = eqb-true x 24 (and_left (eqb x 24) (eqb y 14) (not-false _ h))

pub fits_payload : (x y : ℕ) → not (eqb x 24 && eqb y 14) ≡ false → y ≡ 14
fits_payload x y h = eqb-true y 14 (and_right (eqb x 24) (eqb y 14) (not-false _ h))

pub both_fit : (x y : ℕ) → x ≡ 24 → y ≡ 14 → not (eqb x 24 && eqb y 14) ≡ false
both_fit x y ex ey = rw (eq-eqb x 24 ex, eq-eqb y 14 ey)

pub unfit_answer : (x y : ℕ) → (x ≡ 24 → ⊥) → not (eqb x 24 && eqb y 14) ≡ true
unfit_answer x y h = rw (ne_eqb x 24 h)

pub unfit_payload : (x y : ℕ) → (y ≡ 14 → ⊥) → not (eqb x 24 && eqb y 14) ≡ true
unfit_payload x y h = rw (ne_eqb y 14 h) (go (eqb x 24))
  where
    go : (b : Bool) → not (b && false) ≡ true
    go true = refl
    go false = refl

-- ---- at the key's own bucket

-- the count then held, and one ride more, in the own bucket
module _ (file : List ℕ) (key a : ℕ) (own : a ≡ own_of file key) where
  pub count_is : {n : ℕ} → n ≡ count_of (region_of file a) → n + 1 ≡ count_then file key
  unfolding count_then
  count_is {n} en = add-one n ∙ ap suc (en ∙ ap (λ (x : ℕ). count_of (region_of file x)) own)

  pub inserted_is : (payload next : List ℕ) → next ≡ with_ride file a (record { key = key; payload = payload })
      → next ≡ inserted file key payload
  unfolding inserted
  inserted_is payload next en = en ∙ ap (λ (x : ℕ). with_ride file x (record { key = key; payload = payload })) own

-- a search's two outcomes, and an insert's three
module _ (file table : List ℕ) (client key : ℕ) where
  pub searched_held : held file key ≡ true
      → record {
        answer = 0;
        block = block 0 (way_of file (image_of table client) key) 0
            (ride_at (region_of file (own_of file key)) (slot_of (region_of file (own_of file key)) key)).payload;
        table = adjusted_table file table client key;
        file = file;
      } ≡ searched file table client key
  unfolding searched
  searched_held h = rw h

  pub searched_absent : held file key ≡ false
      → record {
        answer = 1;
        block = block 1 (way_of file (image_of table client) key) 0 no_payload;
        table = adjusted_table file table client key;
        file = file;
      } ≡ searched file table client key
  unfolding searched
  searched_absent h = rw h

  module _ (payload : List ℕ) where
    pub placed_held : held file key ≡ true
        → record {
          answer = 8;
          block = block 8 (way_of file (image_of table client) key) 0 no_payload;
          table = adjusted_table file table client key;
          file = file;
        } ≡ placed file table client key payload
    unfolding placed
    placed_held h = rw h

    pub placed_full : held file key ≡ false → full file key ≡ true
        → record {
          answer = 9;
          block = block 9 (way_of file (image_of table client) key) 0 no_payload;
          table = adjusted_table file table client key;
          file = file;
        } ≡ placed file table client key payload
    unfolding placed
    placed_full h l = rw (h, l)

    pub placed_done : held file key ≡ false → full file key ≡ false
        → record {
          answer = 0;
          block = block 0 (way_of file (image_of table client) key) (count_then file key) no_payload;
          table = adjusted_table file table client key;
          file = inserted file key payload;
        } ≡ placed file table client key payload
    unfolding placed
    placed_done h l = rw (h, l)

-- from what was found there and what was written
module _ {file table : List ℕ} {client key : ℕ} {header : Header} {image : Image} {walk : Walk} {a place : ℕ}
    (own : AtOwn file table client key header image walk a place) {after : List ℕ}
    (et : after ≡ with_image table client (adjusted_by header.state image walk)) {count : ℕ}
    (en : count ≡ count_of (region_of file a)) where
  pub adjusted_is : after ≡ adjusted_table file table client key
  unfolding adjusted_table
  adjusted_is = et ∙ ap (with_image table client) own.after

  pub held_at : {b : Bool} → ltb place count ≡ b → held file key ≡ b
  held_at h = sym (held_is file key a own.own place count own.slot en) ∙ h

  pub full_at : {b : Bool} → leb header.slots count ≡ b → full file key ≡ b
  full_at h = sym (full_is file key a own.own header.slots count own.known.slots en) ∙ h

  -- a block of the route, with no payload
  shown : (r : ℕ) {left : List ℕ} → left ≡ block r (noted walk) 0 no_payload
      → left ≡ block r (way_of file (image_of table client) key) 0 no_payload
  shown r el = el ∙ ap (λ (l : List ℕ). block r l 0 no_payload) own.way

  pub search_found : {left : List ℕ} → ltb place count ≡ true
      → left ≡ block 0 (noted walk) 0 (ride_at (region_of file a) place).payload
      → record { answer = 0; block = left; table = after; file = file } ≡ searched file table client key
  search_found h el =
      (λ i. record { answer = 0; block = (el ∙ found) i; table = adjusted_is i; file = file })
      ∙ searched_held file table client key (held_at h)
    where
      found : block 0 (noted walk) 0 (ride_at (region_of file a) place).payload
          ≡ block 0 (way_of file (image_of table client) key) 0
          (ride_at (region_of file (own_of file key)) (slot_of (region_of file (own_of file key)) key)).payload
      found = ap₂ (λ (l : List ℕ) (k : ℕ). block 0 l 0 (ride_at (region_of file a) k).payload) own.way own.slot
          ∙ ap (λ (x : ℕ). block 0 (way_of file (image_of table client) key) 0
          (ride_at (region_of file x) (slot_of (region_of file x) key)).payload) own.own

  pub search_absent : {left : List ℕ} → ltb place count ≡ false → left ≡ block 1 (noted walk) 0 no_payload
      → record { answer = 1; block = left; table = after; file = file } ≡ searched file table client key
  search_absent h el = (λ i. record { answer = 1; block = shown 1 el i; table = adjusted_is i; file = file })
      ∙ searched_absent file table client key (held_at h)

  module _ (payload : List ℕ) {left : List ℕ} where
    pub insert_held : ltb place count ≡ true → left ≡ block 8 (noted walk) 0 no_payload
        → record { answer = 8; block = left; table = after; file = file } ≡ placed file table client key payload
    insert_held h el = (λ i. record { answer = 8; block = shown 8 el i; table = adjusted_is i; file = file })
        ∙ placed_held file table client key payload (held_at h)

    pub insert_full : ltb place count ≡ false → leb header.slots count ≡ true
        → left ≡ block 9 (noted walk) 0 no_payload
        → record { answer = 9; block = left; table = after; file = file } ≡ placed file table client key payload
    insert_full h l el = (λ i. record { answer = 9; block = shown 9 el i; table = adjusted_is i; file = file })
        ∙ placed_full file table client key payload (held_at h) (full_at l)

-- the block of a ride that was placed
pub placed_block : (walk : Walk) (count : ℕ) {left : List ℕ} {n : ℕ} → n ≡ count + 1
    → left ≡ block 0 (noted walk) n no_payload → left ≡ block 0 (noted walk) (count + 1) no_payload
placed_block walk count en el = el ∙ ap (λ (x : ℕ). block 0 (noted walk) x no_payload) en
