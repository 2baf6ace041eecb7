-- `layout::put`: after k turns the first k bytes of the source stand at the place.
use Rattle.std.proofs.Common.{◌≡◌}
use Rattle.std.proofs.Math.Seq.{paste}
use Rattle.layout.proofs.put.Given as goal

abbrev pub invariant-loop-k : goal.invariant-loop-k
invariant-loop-k l = l.bytes ≡ paste l.initial.bytes l.at l.source l.k
