-- `answer::put_count`: two numbers side by side, of which the first is a byte and the second zero.
use Rattle.std.proofs.Common.{rules}
use Rattle.answer.specs.Answer.Block.{count_written}
use Rattle.answer.proofs.put_count.Goals as goal

pub returns : goal.returns
returns c = search (count_written, rules)
