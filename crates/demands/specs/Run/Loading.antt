-- Load control in a sound file: it is refused only as insert is, and it leaves what its insert and its split leave.
use Rattle.std.specs.Prelude.{ℕ, ◌≡◌, Bool, true, eqb}
use Rattle.std.proofs.Math.Path.{refl, ap, subst}
use Rattle.std.proofs.Common.{sym, ◌∙◌}
use Rattle.std.proofs.Math.Bool.{cond}
use mathlib.Core.List.{List, [], ◌∷◌}
use Rattle.std.proofs.Math.Logic.{by_cases}
use Rattle.std.proofs.Math.Decide.{ℕ_discrete}
use Rattle.address.specs.Limits.{first_buckets}
use Rattle.address.specs.Load.{threshold_fits}
use Rattle.address.specs.Rules.{splitting, newborn}
use Rattle.file.specs.File.{state_of, file_sound, split}
use Rattle.file.specs.File.Keeping.{sound_split}
use Rattle.ride.specs.Call.{Outcome, insert}
use Rattle.load.specs.declared.Control.{Control}
use Rattle.load.specs.declared.Control.TheVariants.{NotDue, Done, NoRoom}
use Rattle.load.specs.Load.{number, decision_on, Loaded, alone, together, insert_split}
use Rattle.load.specs.Load.Left.{together_done, load_refused_as, load_alone, load_together}
use Rattle.load.specs.Load.Decision.{not_due_done, no_room_done, done_number, other_number, room_on}
use Rattle.demands.specs.Run.{Memory, Call, Insert, InsertSplit, Split, left, left_loaded, after, answered, run}
use Rattle.demands.specs.Run.{replied, parts}

module _ (m : Memory) (sound : file_sound m.file ≡ true) (client key : ℕ) (payload : List ℕ) (t : ℕ)
    (answer : List ℕ) (ranged : threshold_fits t ≡ true) where
  inserting : Outcome
  inserting = insert m.file m.table client key payload answer

  -- it is insert's outcome, or that and a split of the file that the insert left
  sound_ways : (P : Loaded → Type 0) → ((control : Control) → (control ≡ Done → ⊥) → P (alone control inserting))
      → (inserting.answer ≡ 0
      → P (record {
        answer = 0;
        split = Done;
        old = splitting (state_of m.file);
        new = newborn first_buckets (state_of m.file);
        block = inserting.block;
        table = inserting.table;
        file = (split inserting.file).file;
      }))
      → P (insert_split m.file m.table client key payload t answer)
  unfolding inserting
  sound_ways P single both = by_cases (ℕ_discrete inserting.answer 0) accepted
      (λ some. subst P (load_refused_as m.file m.table client key payload t answer ranged some)
      (single NotDue not_due_done))
    where
      accepted : inserting.answer ≡ 0 → P (insert_split m.file m.table client key payload t answer)
      accepted none = go (decision_on m.file key t) refl
        where
          lone : (control : Control) → decision_on m.file key t ≡ control → (control ≡ Done → ⊥)
              → P (insert_split m.file m.table client key payload t answer)
          lone control e other = subst P
              (load_alone m.file m.table client key payload t answer ranged none control e other)
              (single control other)

          go : (control : Control) → decision_on m.file key t ≡ control
              → P (insert_split m.file m.table client key payload t answer)
          go NotDue e = lone NotDue e not_due_done
          go NoRoom e = lone NoRoom e no_room_done
          go Done e = subst P
              (together_done m.file m.table client key inserting _ refl
              ∙ ap (together m.file m.table client key inserting)
              (sound_split m.file sound (room_on m.file key t e))
              ∙ load_together m.file m.table client key payload t answer ranged none e)
              (both none)

  -- so it is refused only as insert is, with insert's answer block and table
  pub load_as_insert :
      (replied m (InsertSplit client key payload t answer) ≡ replied m (Insert client key payload answer))
      × ((insert_split m.file m.table client key payload t answer).block
      ≡ (insert m.file m.table client key payload answer).block)
      × ((insert_split m.file m.table client key payload t answer).table
      ≡ (insert m.file m.table client key payload answer).table)
  unfolding replied answered inserting
  load_as_insert = sound_ways
      (λ o. (o.answer ≡ inserting.answer) × (o.block ≡ inserting.block) × (o.table ≡ inserting.table))
      (λ control other. (refl, refl, refl)) (λ none. (sym none, refl, refl))

  -- and leaves what its parts leave, one after the other
  pub load_parts : after m (InsertSplit client key payload t answer) ≡ run m (parts m client key payload t answer)
  unfolding after left left_loaded answered run parts inserting
  load_parts = sound_ways
      (λ o. left_loaded o ≡ run m (Insert client key payload answer ∷ cond (eqb (number o.split) 1) (Split ∷ []) []))
      (λ control other. ap (λ (calls : List Call). run m (Insert client key payload answer ∷ calls))
      (ap (λ (b : Bool). cond b (Split ∷ []) []) (sym (other_number control other))))
      (λ none. ap (λ (calls : List Call). run m (Insert client key payload answer ∷ calls))
      (ap (λ (b : Bool). cond b (Split ∷ []) []) (sym done_number)))
