-- `bucket::slots_zero`: what was seen so far is zero if every byte of the slots so far is.
use Rattle.bucket.specs.Region.Told.{seen_none, seen_more, seen_done}
use Rattle.bucket.proofs.slots_zero.Goals as goal

pub loop-k-init : goal.loop-k-init
loop-k-init c = search seen_none

pub loop-k-preserved : goal.loop-k-preserved
loop-k-preserved c = search seen_more

pub returns : goal.returns
returns c = search seen_done
