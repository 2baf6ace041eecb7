-- The outcome of load control by its ways out, up to the key's own bucket; and no second outcome fits.
use Rattle.std.specs.Prelude.{ℕ, ◌≤◌, ◌≡◌, Bool, true, false, ◌&&◌, length}
use Rattle.std.proofs.Math.Path.{refl, ap}
use Rattle.std.proofs.Common.{sym, ◌∙◌, arith}
use Rattle.std.proofs.Math.Bool.{not}
use mathlib.Core.List.{List}
use borrow.Author.Tests.{leb-true, not-true, not-false}
use Rattle.std.proofs.Math.Dec.{leb, eqb}
use Rattle.address.specs.Limits.{no_bucket}
use Rattle.address.specs.Load.{percent, threshold_fits}
use Rattle.address.specs.Load.Laws.{threshold_is}
use Rattle.layout.specs.Bytes.Tests.{and_right}
use Rattle.layout.specs.Replies.{reply}
use Rattle.route.specs.declared.walk.Walk.{Walk}
use Rattle.route.specs.Way.{early, noted}
use Rattle.route.specs.Way.Noted.{noted_none}
use Rattle.route.specs.Way.Reach.{OnWay}
use Rattle.answer.specs.Answer.{block, no_payload}
use Rattle.ride.specs.Call.{routed, placed, insert}
use Rattle.ride.specs.Call.Replied.{routed_refused, routed_reached, insert_unfit, insert_refused, insert_walked}
use Rattle.load.specs.declared.Control.{Control}
use Rattle.load.specs.declared.Control.TheVariants.{NotDue}
use Rattle.load.specs.Load.{Loaded, controlled, unranged, insert_split}
use Rattle.load.specs.Load.Own.{as_loaded, refused_as}

-- a threshold in range is at most the whole
pub ranged_low : (t : ℕ) → not (leb 1 t && leb t percent) ≡ false → t ≤ percent
ranged_low t ranged = leb-true t percent (and_right (leb 1 t) _ (not-false _ ranged))

module _ (file table : List ℕ) (client key t : ℕ) where
  module _ (payload answer : List ℕ) where
    -- up to the key's own bucket
    module _ {walk : Walk} {reply : ℕ} (way : OnWay file table client key walk reply) where
      pub load_stopped : (reply ≡ 0 → ⊥) → {left : List ℕ} → left ≡ block reply (noted walk) 0 no_payload
          → {r o n : ℕ} {c : Control} → r ≡ reply → c ≡ NotDue → o ≡ no_bucket → n ≡ no_bucket
          → record { answer = r; split = c; old = o; new = n; block = left; table = table; file = file }
          ≡ controlled file table client key t
          (routed true file table client key answer (placed file table client key payload))
      load_stopped some el = refused_as file table client key t _
          (routed_refused file table client key answer _ way some el) some

      pub load_reached : reply ≡ 0 → {o : Loaded}
          → o ≡ controlled file table client key t (placed file table client key payload)
          → o ≡ controlled file table client key t
          (routed true file table client key answer (placed file table client key payload))
      load_reached none eo = eo
          ∙ ap (controlled file table client key t) (routed_reached file table client key answer _ way none refl)

    -- from its lengths on
    fits : Bool
    fits = eqb (length answer) 24 && eqb (length payload) 14

    by_insert : (fits && not (threshold_fits t)) ≡ false
        → controlled file table client key t (insert file table client key payload answer)
        ≡ insert_split file table client key payload t answer
    unfolding insert_split fits
    by_insert h = rw h

    pub load_unfit : not (eqb (length answer) 24 && eqb (length payload) 14) ≡ true
        → {r o n : ℕ} {c : Control} → r ≡ 14 → c ≡ NotDue → o ≡ no_bucket → n ≡ no_bucket
        → record { answer = r; split = c; old = o; new = n; block = answer; table = table; file = file }
        ≡ insert_split file table client key payload t answer
    unfolding fits
    load_unfit h er ec eo en = refused_as file table client key t _
        (insert_unfit file table client key payload answer h)
        (λ z. omega (arith, z))
        er ec eo en
        ∙ by_insert (ap (λ (b : Bool). b && not (threshold_fits t)) (not-true fits h))

    module _ (right : not (eqb (length answer) 24 && eqb (length payload) 14) ≡ false) where
      pub load_unranged : not (leb 1 t && leb t percent) ≡ true → (walk : Walk) → walk.count ≡ 0
          → {left : List ℕ} → left ≡ block 15 (noted walk) 0 no_payload
          → {r o n : ℕ} {c : Control} → r ≡ 15 → c ≡ NotDue → o ≡ no_bucket → n ≡ no_bucket
          → record { answer = r; split = c; old = o; new = n; block = left; table = table; file = file }
          ≡ insert_split file table client key payload t answer
      unfolding insert_split unranged
      load_unranged h walk none el er ec eo en = rw
          (not-false (eqb (length answer) 24 && eqb (length payload) 14) right, ap not (threshold_is t) ∙ h)
          (as_loaded er ec eo en (el ∙ ap (λ (w : List ℕ). block 15 w 0 no_payload) (noted_none walk none)) refl refl)

      module _ (ranged : not (leb 1 t && leb t percent) ≡ false) where
        within : (fits && not (threshold_fits t)) ≡ false
        unfolding fits
        within = ap (λ (b : Bool). fits && not b)
            (threshold_is t ∙ not-false (leb 1 t && leb t percent) ranged)
            ∙ ap (λ (b : Bool). b && false) (not-false fits right)

        pub load_low : t ≤ percent
        load_low = ranged_low t ranged

        pub load_refused : {why : ℕ} → why ≡ reply (early file table client) 0 → (walk : Walk)
            → walk.count ≡ 0 → {left : List ℕ} → (why ≡ 0 → ⊥) → left ≡ block why (noted walk) 0 no_payload
            → {r o n : ℕ} {c : Control} → r ≡ why → c ≡ NotDue → o ≡ no_bucket → n ≡ no_bucket
            → record { answer = r; split = c; old = o; new = n; block = left; table = table; file = file }
            ≡ insert_split file table client key payload t answer
        load_refused e walk none some el er ec eo en =
            refused_as file table client key t _
            (insert_refused file table client key payload answer right e walk none some el) some er ec eo
            en
            ∙ by_insert within

        pub load_walked : {o : Loaded}
            → o ≡ controlled file table client key t
            (routed true file table client key answer (placed file table client key payload))
            → o ≡ insert_split file table client key payload t answer
        load_walked eo = eo
            ∙ ap (controlled file table client key t) (insert_walked file table client key payload answer right refl)
            ∙ by_insert within

-- no second outcome fits
pub load_single : (file table : List ℕ) (client key : ℕ) (payload : List ℕ) (t : ℕ) (answer : List ℕ) (o p : Loaded)
    → o ≡ insert_split file table client key payload t answer → p ≡ insert_split file table client key payload t answer
    → o ≡ p
load_single file table client key payload t answer o p eo ep = eo ∙ sym ep
