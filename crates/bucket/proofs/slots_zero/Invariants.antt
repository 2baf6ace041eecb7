-- `bucket::slots_zero`: what was seen so far is zero if every byte of the slots so far is.
use Rattle.bucket.specs.Region.Told.{Seen}
use Rattle.bucket.proofs.slots_zero.Given as goal

abbrev pub invariant-loop-k : goal.invariant-loop-k
invariant-loop-k l = Seen l.region l.from l.slots l.k l.seen
