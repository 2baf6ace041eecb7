-- What the call leaves, by its ways out: what holds of every way out holds of the call. And that it is insert's
-- outcome, followed by split's on the file that the insert left.
use Rattle.std.specs.Prelude.{ℕ, ◌≡◌, Bool, ◌&&◌, List, true, false, not, eqb, length}
use Rattle.std.proofs.Common.{refl, sym, ap, subst, ◌∙◌, arith}
use Rattle.std.proofs.Math.Bool.{true≢false}
use borrow.Author.Tests.{not-false}
use Rattle.layout.specs.Bytes.{Bytes}
use Rattle.layout.specs.Bytes.Tests.{and_right}
use Rattle.bucket.specs.Region.{Whole}
use Rattle.address.specs.Load.{threshold_fits}
use Rattle.client.specs.Table.{image_of}
use Rattle.file.specs.File.{split}
use Rattle.answer.specs.Answer.{block, no_payload}
use Rattle.route.specs.Way.{way_of, held, full}
use Rattle.route.specs.Way.Keeping.{passed, own_sound}
use Rattle.ride.specs.Call.{adjusted_table, insert, inserted}
use Rattle.ride.specs.Call.Left.{Through, insert_ways}
use Rattle.load.specs.declared.Control.{Control}
use Rattle.load.specs.declared.Control.TheVariants.{NotDue, Done}
use Rattle.load.specs.Load.{decision_on, Loaded, alone, together, controlled, insert_split}
use Rattle.load.specs.Load.Left.{Spared, Passing, Accepting, accepted, divided, unranged_spared, load_is, accepted_ways}
use Rattle.load.specs.Load.Left.{together_same, load_together}
use Rattle.load.specs.Load.Decision.{room_on}
use Rattle.load.specs.Load.Own.{controlled_refused, controlled_accepted}
use Rattle.load.specs.Load.Regions.{inserted_split}

module _ (file table : List ℕ) (client key : ℕ) (payload : List ℕ) (t : ℕ) (answer : List ℕ) where
  -- what holds of every way out holds of the call
  pub load_ways : (P : Loaded → Type 0)
      → ((o : Loaded) → Spared file table answer o → (Passing file table client key payload t answer → ⊥) → P o)
      → (Passing file table client key payload t answer → held file key ≡ true
      → P (alone NotDue (record {
        answer = 8;
        block = block 8 (way_of file (image_of table client) key) 0 no_payload;
        table = adjusted_table file table client key;
        file = file;
      })))
      → (Passing file table client key payload t answer → held file key ≡ false → full file key ≡ true
      → P (alone NotDue (record {
        answer = 9;
        block = block 9 (way_of file (image_of table client) key) 0 no_payload;
        table = adjusted_table file table client key;
        file = file;
      })))
      → (Accepting file table client key payload t answer → (control : Control) → decision_on file key t ≡ control
      → (control ≡ Done → ⊥) → P (alone control (accepted file table client key payload t answer)))
      → (Accepting file table client key payload t answer → decision_on file key t ≡ Done → (split file).answer ≡ 0
      → P (divided file table client key payload t answer))
      → (Accepting file table client key payload t answer → decision_on file key t ≡ Done
      → ((split file).answer ≡ 0 → ⊥) → (o : Loaded) → Spared file table answer o → P o)
      → P (insert_split file table client key payload t answer)
  load_ways P refused there whole single both stopped =
      go (eqb (length answer) 24 && eqb (length payload) 14 && not (threshold_fits t)) refl
    where
      go : (b : Bool) → (eqb (length answer) 24 && eqb (length payload) 14 && not (threshold_fits t)) ≡ b
          → P (insert_split file table client key payload t answer)
      go true e = subst P (load_is file table client key payload t answer true e)
          (refused _ (unranged_spared file table answer) (λ p. true≢false
          (sym (and_right (eqb (length answer) 24 && eqb (length payload) 14) (not (threshold_fits t)) e)
          ∙ ap not p.ranged)))
      go false e = subst P (load_is file table client key payload t answer false e)
          (insert_ways file table client key payload answer
          (λ o. P (controlled file table client key t o))
          (λ o r. subst P (controlled_refused file table client key t o (λ z. omega (arith, r.some, z)))
          (refused (alone NotDue o) (record {
            some = r.some;
            before = r.before;
            table_left = r.table_left;
            file_left = r.file_left;
            block_left = r.block_left;
          }) (λ p. r.why p.through)))
          (λ w h. subst P (controlled_refused file table client key t _ (λ z. omega (arith, z))) (there (passing w) h))
          (λ w h f. subst P (controlled_refused file table client key t _ (λ z. omega (arith, z)))
          (whole (passing w) h f))
          (λ w h f. subst P
          (controlled_accepted file table client key t (accepted file table client key payload t answer) refl)
          (accepted_ways file table client key payload t answer P (record { passing = passing w; free = h; room = f })
          (single (record { passing = passing w; free = h; room = f }))
          (both (record { passing = passing w; free = h; room = f }))
          (stopped (record { passing = passing w; free = h; room = f })))))
        where
          passing : Through (eqb (length answer) 24 && eqb (length payload) 14) file table client key
              → Passing file table client key payload t answer
          passing w = record {
            ranged = not-false (threshold_fits t) (sym (ap (λ (c : Bool). c && not (threshold_fits t)) w.fit) ∙ e);
            through = w;
          }

  -- ---- it is insert's outcome, followed where due and possible by split's on the file that the insert left

  module _ (ranged : threshold_fits t ≡ true) where
    module _ (none : (insert file table client key payload answer).answer ≡ 0) where
      -- accepted, and the file that the insert left is split
      pub load_follows : Bytes file → Whole (record { key = key; payload = payload }) → decision_on file key t ≡ Done
          → together file table client key (insert file table client key payload answer)
          (split (insert file table client key payload answer).file)
          ≡ insert_split file table client key payload t answer
      load_follows bytes whole e = same ∙ load_together file table client key payload t answer ranged none e
        where
          done : Through (eqb (length answer) 24 && eqb (length payload) 14) file table client key
              → held file key ≡ false → full file key ≡ false
              → together file table client key (accepted file table client key payload t answer)
              (split (inserted file key payload))
              ≡ together file table client key (accepted file table client key payload t answer)
              (split file)
          done w free room =
              let open_to = passed file table client w.none in
              let (answers, olds, news) = inserted_split file bytes open_to.header_is_sound key payload whole
              (own_sound file table client key open_to w.sound) free room (room_on file key t e) in
              together_same file table client key (accepted file table client key payload t answer)
              (split (inserted file key payload)) (split file) answers olds
              news

          same : together file table client key (insert file table client key payload answer)
              (split (insert file table client key payload answer).file)
              ≡ together file table client key (insert file table client key payload answer) (split file)
          same = insert_ways file table client key payload answer
              (λ o. o.answer ≡ 0 → together file table client key o (split o.file)
              ≡ together file table client key o (split file))
              (λ o r z. absurd (omega (arith, r.some, z)))
              (λ w there z. absurd (omega (arith, z)))
              (λ w free full z. absurd (omega (arith, z)))
              (λ w free room z. done w free room)
              none
