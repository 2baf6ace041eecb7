-- `scan::put_bucket`: the selected keys before a slot are written; those that are left, written behind them, make the
-- whole.
use Prim.Native.Nat.{◌-◌}
use lib.ListN.{length}
use Rattle.scan.specs.Scan.{keys_in}
use Rattle.scan.specs.Scan.Fill.{Filled}
use Rattle.scan.proofs.put_bucket.Given as goal

abbrev pub invariant-loop-left : goal.invariant-loop-left
invariant-loop-left l = Filled
    (keys_in l.headed.file.now l.bucket) l.bits l.from l.initial.matches l.left l.slot l.filled l.matches

abbrev pub decreases-loop-left : goal.decreases-loop-left
decreases-loop-left l = length (keys_in l.headed.file.now l.bucket)
    - l.slot
