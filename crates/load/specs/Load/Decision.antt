-- Load control's decision by its cases, the number of each, and that a split is done only where there is room.
use Rattle.std.specs.Prelude.{ℕ, ◌≤◌, ◌<◌, ◌≡◌, refl, Bool, true, false, cond, not, ◌&&◌, List, leb, eqb}
use Rattle.std.proofs.Math.Path.{sym}
use Rattle.std.proofs.Common.{ap, ◌∙◌, arith}
use borrow.Author.Tests.{le-leb, lt-leb, leb-false, not-true, not-false}
use Rattle.address.specs.Limits.{first_buckets}
use Rattle.address.specs.Load.{overfull, due}
use Rattle.address.specs.Load.Laws.{overfull_no, overfull_yes}
use Rattle.address.specs.declared.Image.{Image}
use Rattle.address.specs.Rules.{buckets}
use Rattle.file.specs.File.{most_of, state_of, buckets_of}
use Rattle.file.specs.File.Judge.{existing}
use Rattle.load.specs.declared.Control.{Control}
use Rattle.load.specs.declared.Control.TheVariants.{NotDue, Done, NoRoom}
use Rattle.load.specs.Load.{number, decision, decision_on}

-- not overfull, not due, no room, or done
module _ (state : Image) (b M s x t : ℕ) where
  pub decide_below : x ≤ b → NotDue ≡ decision state b M s x t
  unfolding decision
  decide_below h = rw (overfull_no b x h)

  module _ (over : b < x) {owed : Bool} (is : owed ≡ due first_buckets state b s x t) where
    pub decide_not : not owed ≡ true → NotDue ≡ decision state b M s x t
    unfolding decision
    decide_not h = rw (overfull_yes b x over, sym is ∙ not-true owed h)

    module _ (owing : not owed ≡ false) {m : ℕ} (em : m ≡ buckets first_buckets state) where
      pub decide_no_room : M ≤ m → NoRoom ≡ decision state b M s x t
      unfolding decision
      decide_no_room h = rw (
        overfull_yes b x over,
        sym is ∙ not-false owed owing,
        le-leb M (buckets first_buckets state) (omega (arith, em)),
      )

      pub decide_done : m < M → Done ≡ decision state b M s x t
      unfolding decision
      decide_done h = rw (
        overfull_yes b x over,
        sym is ∙ not-false owed owing,
        lt-leb M (buckets first_buckets state) (omega (arith, em)),
      )

-- the number of each case
pub number_zero : {c : Control} → c ≡ NotDue → 0 ≡ number c
unfolding number
number_zero e = sym (ap number e)

pub number_one : {c : Control} → c ≡ Done → 1 ≡ number c
unfolding number
number_one e = sym (ap number e)

pub number_two : {c : Control} → c ≡ NoRoom → 2 ≡ number c
unfolding number
number_two e = sym (ap number e)

-- so they differ
number_is : {c d : Control} → c ≡ d → number c ≡ number d
number_is e = ap number e

pub not_due_done : NotDue ≡ Done → ⊥
unfolding number
not_due_done e = omega (arith, number_is e)

pub no_room_done : NoRoom ≡ Done → ⊥
unfolding number
no_room_done e = omega (arith, number_is e)

pub done_number : eqb (number Done) 1 ≡ true
unfolding number
done_number = refl

pub other_number : (c : Control) → (c ≡ Done → ⊥) → eqb (number c) 1 ≡ false
unfolding number
other_number NotDue other = refl
other_number NoRoom other = refl
other_number Done other = absurd (other refl)

pub decision_room : (state : Image) (b M s x t : ℕ) → decision state b M s x t ≡ Done → buckets first_buckets state < M
unfolding decision
decision_room state b M s x t = go (overfull b x && due first_buckets state b s x t)
    (leb M (buckets first_buckets state)) refl
  where
    go : (asked room : Bool) → leb M (buckets first_buckets state) ≡ room
        → cond asked (cond room NoRoom Done) NotDue ≡ Done → buckets first_buckets state < M
    go false room er e = absurd (not_due_done e)
    go true true er e = absurd (no_room_done e)
    go true false er e = leb-false M (buckets first_buckets state) er

pub room_on : (file : List ℕ) (key t : ℕ) → decision_on file key t ≡ Done → buckets_of file < most_of file
unfolding decision_on
room_on file key t e = omega (arith, existing file, decision_room (state_of file) _ (most_of file) _ _ t e)
