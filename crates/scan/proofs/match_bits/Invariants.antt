-- `scan::match_bits`: the bits of the keys from the k-th on, found from the last to the first.
use Rattle.scan.specs.Scan.{keys_in}
use Rattle.scan.specs.Scan.Bits.{Tested}
use Rattle.scan.proofs.match_bits.Given as goal

abbrev pub invariant-loop-k : goal.invariant-loop-k
invariant-loop-k l = Tested l.lift (keys_in l.headed.file.now l.bucket) l.k l.bits

abbrev pub decreases-loop-k : goal.decreases-loop-k
decreases-loop-k l = l.k
