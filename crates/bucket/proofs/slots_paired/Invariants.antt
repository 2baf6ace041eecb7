-- `bucket::slots_paired`: the slots so far fit and their keys are distinct; each turn adds one slot whose key is not
-- found before it. In the end the key asked for is found among them all.
use Prim.Native.Nat.{◌≤◌}
use mathlib.Core.Path.{◌≡◌}
use mathlib.Core.Bool.{true}
use Rattle.address.specs.Rules.{keeps}
use Rattle.layout.specs.Bytes.{all_below}
use Rattle.bucket.specs.Region.{rides_from, keys_of, distinct}
use Rattle.bucket.specs.Region.Judge.{fitting}
use Rattle.bucket.proofs.slots_paired.Given as goal

abbrev pub invariant-loop-k : goal.invariant-loop-k
invariant-loop-k l = (l.k ≤ l.count)
    × (all_below (fitting (keeps l.home.first l.home.bucket l.home.level) l.region) l.k ≡ true)
    × (distinct (keys_of (rides_from l.region 0 l.k)) ≡ true)
