-- `layout::clear`: after k turns the first k bytes are zero.
use Rattle.std.proofs.Common.{◌≡◌, ◌++◌, replicate, drop}
use Rattle.layout.proofs.clear.Given as goal

abbrev pub invariant-loop-byte : goal.invariant-loop-byte
invariant-loop-byte l = l.byte-items ≡ replicate l.byte-index 0 ++ drop l.byte-index l.initial.byte-items
