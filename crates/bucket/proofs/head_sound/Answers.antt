-- `bucket::head_sound` tests the head as four numbers of two bytes.
use Rattle.std.proofs.Common.{rules}
use Rattle.bucket.specs.Region.Judge.{head_judged}
use Rattle.bucket.proofs.head_sound.Goals as goal

pub returns : goal.returns
returns c = search (head_judged, rules)
