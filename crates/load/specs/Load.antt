-- Load control as document 02 §2 has it: one call does insert, decision and split. It is said by insert and split.
pub mod Decision
pub mod Left
pub mod Own
pub mod Regions
pub mod Ways
use Rattle.std.specs.Prelude.{ℕ, cond, not, ◌&&◌, List, [], leb, eqb, length, Result, Ok, Err}
use Rattle.address.specs.Limits.{first_buckets, no_bucket}
use Rattle.address.specs.declared.Image.{Image}
use Rattle.address.specs.Rules.{buckets}
use Rattle.address.specs.Load.{threshold_fits, overfull, due}
use Rattle.client.specs.Table.{image_of}
use Rattle.file.specs.File.{capacity_of, most_of, state_of, SplitOutcome, split}
use Rattle.file.specs.File.Fault.{fault_number, fault_region}
use Rattle.file.specs.declared.fault.Fault.{Fault}
use Rattle.route.specs.Way.{way_of, own_of}
use Rattle.answer.specs.Answer.{block, no_payload}
use Rattle.ride.specs.Call.{Outcome, count_then, insert}
use Rattle.load.specs.declared.Growth.{Growth}
use Rattle.load.specs.declared.Growth.TheVariants.{NotNeeded, Split, NoSpace}
use Rattle.load.specs.declared.Control.{Control}
use Rattle.load.specs.declared.Control.TheVariants.{NotDue, Done, NoRoom}

-- A split was not due, done, or due in a file of M buckets, where the call only inserts: the number of each.
pub number : Control → ℕ
number NotDue = 0
number Done = 1
number NoRoom = 2

-- After an overfull insert into bucket s with count x, a split is due or not, in state (i, n) and by threshold t.
pub decision : Image → ℕ → ℕ → ℕ → ℕ → ℕ → Control
decision state b M s x t =
    cond (overfull b x && due first_buckets state b s x t) (cond (leb M (buckets first_buckets state)) NoRoom Done)
    NotDue

-- Of a file: bucket s is the key's own, x the count after the insert, (i, n) the state before the split.
pub decision_on : List ℕ → ℕ → ℕ → Control
decision_on file key t =
    decision (state_of file) (capacity_of file) (most_of file) (own_of file key) (count_then file key) t

-- What the call leaves: its reply, whether it split, the split's plain answer, and answer block, table and file.
pub record Loaded : Type 0 where
  pub answer : ℕ
  pub split : Control
  pub old : ℕ
  pub new : ℕ
  pub block : List ℕ
  pub table : List ℕ
  pub file : List ℕ

-- Its parts, in this order.
abbrev pub loaded : ℕ → Control → ℕ → ℕ → List ℕ → List ℕ → List ℕ → Loaded
loaded answer split old new block table file = record {
  answer = answer;
  split = split;
  old = old;
  new = new;
  block = block;
  table = table;
  file = file;
}

-- By the call's result: what followed an insert, or the refusal.
abbrev pub leaving : Result Growth Fault → List ℕ → List ℕ → List ℕ → Loaded
leaving (Ok NotNeeded) block table file = loaded 0 NotDue no_bucket no_bucket block table file
leaving (Ok (Split divided)) block table file = loaded 0 Done divided.old divided.new block table file
leaving (Ok NoSpace) block table file = loaded 0 NoRoom no_bucket no_bucket block table file
leaving (Err fault) block table file =
    loaded (fault_number fault) NotDue (fault_region fault) no_bucket block table file

-- An insert alone, refused or not: 65,535 twice as the split's answer.
abbrev pub alone : Control → Outcome → Loaded
alone control inserted =
    record {
      answer = inserted.answer;
      split = control;
      old = no_bucket;
      new = no_bucket;
      block = inserted.block;
      table = inserted.table;
      file = inserted.file;
    }

-- An accepted insert and a split that is due and possible, which was judged in the file as it was: the file that the
-- insert left is split. But an unsound region to be split or born gives 7 with its number in the split's answer, the
-- route whole, nothing placed and the image unchanged.
pub together : List ℕ → List ℕ → ℕ → ℕ → Outcome → SplitOutcome → Loaded
together file table client key inserted judged =
    cond (eqb judged.answer 0)
    (record {
      answer = 0;
      split = Done;
      old = judged.old;
      new = judged.new;
      block = inserted.block;
      table = inserted.table;
      file = (split inserted.file).file;
    })
    (record {
      answer = judged.answer;
      split = NotDue;
      old = judged.old;
      new = judged.new;
      block = block judged.answer (way_of file (image_of table client) key) 0 no_payload;
      table = table;
      file = file;
    })

-- By the decision: the insert alone where a split is not due or has no room, else both.
pub decided : List ℕ → List ℕ → ℕ → ℕ → Outcome → Control → Loaded
decided file table client key inserted NotDue = alone NotDue inserted
decided file table client key inserted NoRoom = alone NoRoom inserted
decided file table client key inserted Done = together file table client key inserted (split file)

-- Only an insert that is accepted is followed by the decision.
pub controlled : List ℕ → List ℕ → ℕ → ℕ → ℕ → Outcome → Loaded
controlled file table client key t inserted =
    cond (eqb inserted.answer 0) (decided file table client key inserted (decision_on file key t))
    (alone NotDue inserted)

-- 15, threshold out of range, no route, after 14 and before 2; the rest as insert.
pub unranged : List ℕ → List ℕ → Outcome
unranged file table = record { answer = 15; block = block 15 [] 0 no_payload; table = table; file = file }

pub insert_split : List ℕ → List ℕ → ℕ → ℕ → List ℕ → ℕ → List ℕ → Loaded
insert_split file table client key payload t answer =
    cond (eqb (length answer) 24 && eqb (length payload) 14 && not (threshold_fits t))
    (alone NotDue (unranged file table))
    (controlled file table client key t (insert file table client key payload answer))
