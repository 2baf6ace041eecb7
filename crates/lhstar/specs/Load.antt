-- Load control for C: the outcome with a number for each case of the split.
use Rattle.std.specs.Prelude.{ℕ, ◌≡◌, refl, List, Result, Ok, Err}
use Rattle.std.proofs.Common.{ap, ◌∙◌}
use Rattle.address.specs.Limits.{no_bucket}
use Rattle.file.specs.File.Fault.{fault_number, fault_region}
use Rattle.file.specs.declared.fault.Fault.{Fault}
use Rattle.load.specs.declared.Control.{Control}
use Rattle.load.specs.declared.Control.TheVariants.{NotDue, Done, NoRoom}
use Rattle.load.specs.declared.Growth.{Growth}
use Rattle.load.specs.declared.Growth.TheVariants.{NotNeeded, Split, NoSpace}
use Rattle.load.specs.Load.{number, Loaded, leaving}
use Rattle.lhstar.specs.declared.LoadNumbers.{LoadNumbers}

pub record Numbered : Type 0 where
  pub answer : ℕ
  pub split : ℕ
  pub old : ℕ
  pub new : ℕ
  pub block : List ℕ
  pub table : List ℕ
  pub file : List ℕ

-- 0 not due, 1 done, 2 due in a file of M buckets.
pub numbered : Loaded → Numbered
numbered o =
    record {
      answer = o.answer;
      split = number o.split;
      old = o.old;
      new = o.new;
      block = o.block;
      table = o.table;
      file = o.file;
    }

pub numbered_is : {o : Loaded} {r s old new : ℕ} {c : Control} {block table file : List ℕ}
    → record { answer = r; split = c; old = old; new = new; block = block; table = table; file = file } ≡ o
    → s ≡ number c
    → record { answer = r; split = s; old = old; new = new; block = block; table = table; file = file } ≡ numbered o
unfolding numbered
numbered_is {r = r} {old = old} {new = new} {block = block} {table = table} {file = file} e es =
    (λ i. record { answer = r; split = es i; old = old; new = new; block = block; table = table; file = file })
    ∙ ap numbered e

-- The numbers that a call's result stands for: of what followed an insert, or the refusal's.
abbrev pub numbers_of : Result Growth Fault → LoadNumbers
numbers_of (Ok NotNeeded) =
    record { reply = 0; split = number NotDue; old_bucket = no_bucket; new_bucket = no_bucket }
numbers_of (Ok (Split divided)) =
    record { reply = 0; split = number Done; old_bucket = divided.old; new_bucket = divided.new }
numbers_of (Ok NoSpace) =
    record { reply = 0; split = number NoRoom; old_bucket = no_bucket; new_bucket = no_bucket }
numbers_of (Err fault) = record {
  reply = fault_number fault;
  split = number NotDue;
  old_bucket = fault_region fault;
  new_bucket = no_bucket;
}

-- they are those of the outcome
pub numbers_numbered : (done : Result Growth Fault) {block table file : List ℕ} {o : Loaded}
    → leaving done block table file ≡ o
    → record {
      answer = (numbers_of done).reply;
      split = (numbers_of done).split;
      old = (numbers_of done).old_bucket;
      new = (numbers_of done).new_bucket;
      block = block;
      table = table;
      file = file;
    } ≡ numbered o
numbers_numbered (Ok NotNeeded) e = numbered_is e refl
numbers_numbered (Ok (Split divided)) e = numbered_is e refl
numbers_numbered (Ok NoSpace) e = numbered_is e refl
numbers_numbered (Err fault) e = numbered_is e refl
