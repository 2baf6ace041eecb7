-- The answer for C that a split's result stands for, and the outcome that it leaves.
use Rattle.std.specs.Prelude.{ℕ, ◌≡◌, List, Result, Ok, Err}
use Rattle.std.proofs.Common.{ap, ◌∙◌}
use Rattle.address.specs.Limits.{no_bucket}
use Rattle.file.specs.File.{SplitOutcome}
use Rattle.file.specs.File.Fault.{fault_number, fault_region}
use Rattle.file.specs.declared.fault.Fault.{Fault}
use Rattle.growth.specs.declared.Divided.{Divided}
use Rattle.growth.specs.declared.SplitAnswer.{SplitAnswer}

-- 0 with both buckets' numbers; else the reply, with 7 the unsound region, and 65,535 for the rest.
abbrev pub answer_of : Result Divided Fault → SplitAnswer
answer_of (Ok divided) = record { reply = 0; old_bucket = divided.old; new_bucket = divided.new }
answer_of (Err fault) =
    record { reply = fault_number fault; old_bucket = fault_region fault; new_bucket = no_bucket }

abbrev pub leaving : Result Divided Fault → List ℕ → SplitOutcome
leaving done file =
    let answer = answer_of done in
    record { answer = answer.reply; old = answer.old_bucket; new = answer.new_bucket; file = file }

-- the same by the answer for C
pub split_answered : (done : Result Divided Fault) {answer : SplitAnswer} {file : List ℕ} {o : SplitOutcome}
    → answer ≡ answer_of done → leaving done file ≡ o
    → record { answer = answer.reply; old = answer.old_bucket; new = answer.new_bucket; file = file } ≡ o
split_answered done {file = file} ea e =
    ap {B = SplitOutcome} (λ (r : SplitAnswer). record {
      answer = r.reply;
      old = r.old_bucket;
      new = r.new_bucket;
      file = file;
    }) ea ∙ e
