-- `bucket::key_at`: eight bytes behind a slot's mark.
use mathlib.Core.Path.{sym, ◌∙◌}
use Rattle.bucket.specs.Region.Judge.{key_is}
use Rattle.bucket.proofs.key_at.Goals as goal

pub returns : goal.returns
returns c = c.read.ensures.number ∙ sym (key_is c.args.region.now c.args.slot)
