-- `bucket::seek`: the slots from `next` on do not hold the key; the chain leads down to the latest before that could.
use Rattle.bucket.specs.Region.Single.{sought_start}
use Rattle.bucket.specs.Region.Told.{seek_less, seek_next}
use Rattle.bucket.proofs.seek.Goals as goal

pub loop-slot-init : goal.loop-slot-init
loop-slot-init c = search sought_start

pub loop-slot-smaller : goal.loop-slot-smaller
loop-slot-smaller c = rw c.from-next.ensures (search (seek_less, c.in-Some.ensures))

pub loop-slot-preserved : goal.loop-slot-preserved
loop-slot-preserved c = rw c.from-next.ensures (search (seek_next, c.in-Some.ensures))
