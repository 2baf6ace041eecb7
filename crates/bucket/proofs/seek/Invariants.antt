-- `bucket::seek`: the slots from `next` on do not hold the key; the chain leads down to the latest before that could.
use Rattle.bucket.specs.Region.Single.{Sought}
use Rattle.bucket.proofs.seek.Given as goal

abbrev pub invariant-loop-slot : goal.invariant-loop-slot
invariant-loop-slot l = Sought l.region l.key l.count l.next

abbrev pub decreases-loop-slot : goal.decreases-loop-slot
decreases-loop-slot l = l.next
