-- A key call's two ways out: it is refused before the key's own bucket, and table and file are as they were, or it
-- reaches that bucket. And its reply, as document 01 lists it.
use Rattle.std.specs.Prelude.{ℕ, ◌≤◌, ◌≡◌, Bool, not, ◌&&◌, List, [], ◌∷◌, ◌++◌, ◌⊎◌, length}
use Rattle.std.proofs.Math.Path.{refl, sym, ap}
use Rattle.std.proofs.Common.{subst, ◌∙◌, ⊎_elim, arith}
use Rattle.std.proofs.Math.Bool.{true, false, cond, true≢false}
use Rattle.std.proofs.Math.Logic.{inl, inr}
use borrow.Author.Tests.{eqb-true, eqb-false}
use Rattle.std.proofs.Math.Dec.{eqb}
use Rattle.layout.specs.Replies.{Refusal, refuse, reply, reply_is, reply_none, reply_here, reply_past}
use Rattle.bucket.specs.Region.{ride_at, slot_of, every}
use Rattle.client.specs.Table.{image_of}
use Rattle.file.specs.File.{bucket_sound_in, region_of}
use Rattle.answer.specs.Answer.{block, no_payload}
use Rattle.route.specs.Way.{early, on_way, met_on, way_of, own_of, held, full}
use Rattle.route.specs.Way.Reach.{way_before, way_range, way_passes, way_passed}
use Rattle.ride.specs.Call.{Outcome, adjusted_table, routed, searched, search, count_then, inserted, placed, insert}
use Rattle.ride.specs.Call.Replied.{searched_held, searched_absent, placed_held, placed_full, placed_done}

-- a call that reaches the key's own bucket has passed 14, 2 to 6 and 7
pub record Through (fits : Bool) (file table : List ℕ) (client key : ℕ) : Type 0 where
  pub fit : fits ≡ true
  pub none : reply (early file table client) 0 ≡ 0
  pub sound : every (bucket_sound_in file) (way_of file (image_of table client) key) ≡ true

-- a refusal before it: not 8 nor 9, table and file as they were, and with 14 the answer block too
pub record Refused (fits : Bool) (file table : List ℕ) (client key : ℕ) (answer : List ℕ) (o : Outcome) : Type 0 where
  pub why : Through fits file table client key → ⊥
  pub some : 2 ≤ o.answer
  pub before : (o.answer ≡ 8 → ⊥) × (o.answer ≡ 9 → ⊥)
  pub table_left : o.table ≡ table
  pub file_left : o.file ≡ file
  pub block_left : o.answer ≡ 14 → o.block ≡ answer

module _ (fits : Bool) (file table : List ℕ) (client key : ℕ) (answer : List ℕ) (reached : Outcome) where
  r : ℕ
  r = reply (on_way file table client key) 0

  left : Bool → Bool → Outcome
  left x y = cond (not x) (record { answer = 14; block = answer; table = table; file = file })
      (cond y reached
      (record { answer = r; block = block r (met_on file table client key) 0 no_payload; table = table; file = file }))

  left_is : left fits (eqb r 0) ≡ routed fits file table client key answer reached
  unfolding left r routed
  left_is = refl

  pub routed_ways : Refused fits file table client key answer (routed fits file table client key answer reached)
      ⊎ (Through fits file table client key × (reached ≡ routed fits file table client key answer reached))
  unfolding left r routed
  routed_ways = go fits refl (eqb r 0) refl
    where
      go : (x : Bool) → fits ≡ x → (y : Bool) → eqb r 0 ≡ y
          → Refused fits file table client key answer (left x y)
          ⊎ (Through fits file table client key × (reached ≡ left x y))
      go false ex y ey = inl
          (record {
            why = λ t. true≢false (sym t.fit ∙ ex);
            some = omega arith;
            before = (λ e. omega (arith, e), λ e. omega (arith, e));
            table_left = refl;
            file_left = refl;
            block_left = λ e. refl;
          })
      go true ex false ey =
          let range = way_range file table client key (eqb-false r 0 ey) in
          inl (record {
            why = λ t. eqb-false r 0 ey (way_passed file table client key t.none t.sound);
            some = range.0;
            before = (λ e. omega (arith, e, range.1), λ e. omega (arith, e, range.1));
            table_left = refl;
            file_left = refl;
            block_left = λ e. absurd (omega (arith, e, range.1));
          })
      go true ex true ey =
          let passed = way_passes file table client key (eqb-true r 0 ey) in
          inr (record { fit = ex; none = passed.0; sound = passed.1 }, refl)

  -- 14, 2 to 6, 7, then the reply at the key's own bucket
  pub routed_reply : (rest : List Refusal) → reached.answer ≡ reply rest 0
      → (routed fits file table client key answer reached).answer
      ≡ reply
      (refuse 14 (not fits)
      ∷ (early file table client
      ++ (refuse 7 (not (every (bucket_sound_in file) (way_of file (image_of table client) key))) ∷ rest))) 0
  unfolding left r
  routed_reply rest e = sym (ap (λ (o : Outcome). o.answer) left_is) ∙ go fits (eqb r 0)
      ∙ sym (reply_is 14 (not fits) _ 0 ∙ ap (cond (not fits) 14) (way_before file table client key rest))
    where
      go : (x y : Bool) → (left x y).answer ≡ cond (not x) 14 (cond y (reply rest 0) r)
      go false y = refl
      go true false = refl
      go true true = e

-- at the key's own bucket: a search finds the key or not, an insert is refused by 8, by 9, or done
module _ (file table : List ℕ) (client key : ℕ) where
  searched_ways : (P : Outcome → Type 0)
      → (held file key ≡ true → P (record {
        answer = 0;
        block = block 0 (way_of file (image_of table client) key) 0
            (ride_at (region_of file (own_of file key)) (slot_of (region_of file (own_of file key)) key)).payload;
        table = adjusted_table file table client key;
        file = file;
      }))
      → (held file key ≡ false → P
      (record {
        answer = 1;
        block = block 1 (way_of file (image_of table client) key) 0 no_payload;
        table = adjusted_table file table client key;
        file = file;
      }))
      → P (searched file table client key)
  searched_ways P found absent = go (held file key) refl
    where
      go : (b : Bool) → held file key ≡ b → P (searched file table client key)
      go true e = subst P (searched_held file table client key e) (found e)
      go false e = subst P (searched_absent file table client key e) (absent e)

  placed_ways : (payload : List ℕ) (P : Outcome → Type 0)
      → (held file key ≡ true → P
      (record {
        answer = 8;
        block = block 8 (way_of file (image_of table client) key) 0 no_payload;
        table = adjusted_table file table client key;
        file = file;
      }))
      → (held file key ≡ false → full file key ≡ true
      → P (record {
        answer = 9;
        block = block 9 (way_of file (image_of table client) key) 0 no_payload;
        table = adjusted_table file table client key;
        file = file;
      }))
      → (held file key ≡ false → full file key ≡ false → P (record {
        answer = 0;
        block = block 0 (way_of file (image_of table client) key) (count_then file key) no_payload;
        table = adjusted_table file table client key;
        file = inserted file key payload;
      }))
      → P (placed file table client key payload)
  placed_ways payload P there whole done = go (held file key) refl (full file key) refl
    where
      go : (x : Bool) → held file key ≡ x → (y : Bool) → full file key ≡ y → P (placed file table client key payload)
      go true eh y ef = subst P (placed_held file table client key payload eh) (there eh)
      go false eh true ef = subst P (placed_full file table client key payload eh ef) (whole eh ef)
      go false eh false ef = subst P (placed_done file table client key payload eh ef) (done eh ef)

-- so what holds of every way out holds of the call
pub search_ways : (file table : List ℕ) (client key : ℕ) (answer : List ℕ) (P : Outcome → Type 0)
    → ((o : Outcome) → Refused (eqb (length answer) 24) file table client key answer o → P o)
    → (Through (eqb (length answer) 24) file table client key → held file key ≡ true → P (record {
      answer = 0;
      block = block 0 (way_of file (image_of table client) key) 0
          (ride_at (region_of file (own_of file key)) (slot_of (region_of file (own_of file key)) key)).payload;
      table = adjusted_table file table client key;
      file = file;
    }))
    → (Through (eqb (length answer) 24) file table client key → held file key ≡ false
    → P (record {
      answer = 1;
      block = block 1 (way_of file (image_of table client) key) 0 no_payload;
      table = adjusted_table file table client key;
      file = file;
    }))
    → P (search file table client key answer)
unfolding search
search_ways file table client key answer P refused found absent = ⊎_elim
    (refused _)
    (λ w. subst P w.1 (searched_ways file table client key P (found w.0) (absent w.0)))
    (routed_ways (eqb (length answer) 24) file table client key answer (searched file table client key))

pub insert_ways : (file table : List ℕ) (client key : ℕ) (payload answer : List ℕ) (P : Outcome → Type 0)
    → ((o : Outcome) → Refused (eqb (length answer) 24 && eqb (length payload) 14) file table client key answer o → P o)
    → (Through (eqb (length answer) 24 && eqb (length payload) 14) file table client key → held file key ≡ true
    → P (record {
      answer = 8;
      block = block 8 (way_of file (image_of table client) key) 0 no_payload;
      table = adjusted_table file table client key;
      file = file;
    }))
    → (Through (eqb (length answer) 24 && eqb (length payload) 14) file table client key → held file key ≡ false
    → full file key ≡ true
    → P (record {
      answer = 9;
      block = block 9 (way_of file (image_of table client) key) 0 no_payload;
      table = adjusted_table file table client key;
      file = file;
    }))
    → (Through (eqb (length answer) 24 && eqb (length payload) 14) file table client key → held file key ≡ false
    → full file key ≡ false → P (record {
      answer = 0;
      block = block 0 (way_of file (image_of table client) key) (count_then file key) no_payload;
      table = adjusted_table file table client key;
      file = inserted file key payload;
    }))
    → P (insert file table client key payload answer)
unfolding insert
insert_ways file table client key payload answer P refused there whole done = ⊎_elim
    (refused _)
    (λ w. subst P w.1 (placed_ways file table client key payload P (there w.0) (whole w.0) (done w.0)))
    (routed_ways (eqb (length answer) 24 && eqb (length payload) 14) file table client key answer
    (placed file table client key payload))

-- the reply, as document 01 lists it
pub search_reply : (file table : List ℕ) (client key : ℕ) (answer : List ℕ)
    → (search file table client key answer).answer
    ≡ reply (refuse 14 (not (eqb (length answer) 24)) ∷ (early file table client
    ++ (refuse 7 (not (every (bucket_sound_in file) (way_of file (image_of table client) key)))
    ∷ refuse 1 (not (held file key)) ∷ []))) 0
unfolding search
search_reply file table client key answer = routed_reply (eqb (length answer) 24) file table client key answer
    (searched file table client key) last
    (searched_ways file table client key (λ o. o.answer ≡ reply last 0)
    (λ e. sym (reply_past 1 (not (held file key)) [] 0 (ap not e) ∙ reply_none 0))
    (λ e. sym (reply_here 1 (not (held file key)) [] 0 (ap not e))))
  where
    last : List Refusal
    last = refuse 1 (not (held file key)) ∷ []

pub insert_reply : (file table : List ℕ) (client key : ℕ) (payload answer : List ℕ)
    → (insert file table client key payload answer).answer
    ≡ reply (refuse 14 (not (eqb (length answer) 24 && eqb (length payload) 14)) ∷ (early file table client
    ++ (refuse 7 (not (every (bucket_sound_in file) (way_of file (image_of table client) key)))
    ∷ refuse 8 (held file key)
    ∷ refuse 9 (full file key) ∷ []))) 0
unfolding insert
insert_reply file table client key payload answer =
    routed_reply (eqb (length answer) 24 && eqb (length payload) 14) file table client key answer
    (placed file table client key payload) last
    (placed_ways file table client key payload (λ o. o.answer ≡ reply last 0)
    (λ e. sym (reply_here 8 (held file key) _ 0 e))
    (λ e f. sym (reply_past 8 (held file key) _ 0 e ∙ reply_here 9 (full file key) [] 0 f))
    (λ e f. sym (reply_past 8 (held file key) _ 0 e ∙ reply_past 9 (full file key) [] 0 f ∙ reply_none 0)))
  where
    last : List Refusal
    last = refuse 8 (held file key) ∷ refuse 9 (full file key) ∷ []
