-- `order::earlier`: the two buckets reached are visited in the order of the two begun with; where they are apart, their
-- numbers tell it.
use Rattle.order.specs.Earlier.{Lockstep}
use Rattle.order.proofs.earlier.Given as goal

abbrev pub invariant-loop-one : goal.invariant-loop-one
invariant-loop-one l = Lockstep l.believed l.bucket l.other l.one l.two

abbrev pub decreases-loop-one : goal.decreases-loop-one
decreases-loop-one l = l.one
