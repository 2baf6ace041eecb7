-- `order::earlier`: the two buckets reached are visited in the order of the two begun with; where they are apart, their
-- numbers tell it.
use Rattle.order.specs.Earlier.{lockstep_believed, lockstep_siblings}
use Rattle.order.specs.Earlier.{lockstep_parents}
use Rattle.order.proofs.earlier.Goals as goal

pub returns-then-above-beside : goal.returns-then-above-beside
returns-then-above-beside c = search lockstep_siblings

pub loop-one-preserved : goal.loop-one-preserved
loop-one-preserved c = search lockstep_parents

pub returns : goal.returns
returns c = search lockstep_believed
