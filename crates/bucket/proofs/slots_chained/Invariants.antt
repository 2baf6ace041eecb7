-- `bucket::slots_chained`: the slots so far fit and are chained; each turn seeks one key along its chain and adds its
-- slot. In the end the key asked for is sought in the same way.
use mathlib.Core.Path.{◌≡◌}
use mathlib.Core.Bool.{true}
use Rattle.address.specs.Rules.{keeps}
use Rattle.layout.specs.Bytes.{all_below}
use Rattle.bucket.specs.Region.Judge.{fitting}
use Rattle.bucket.specs.Region.Single.{Chaining}
use Rattle.bucket.proofs.slots_chained.Given as goal

abbrev pub invariant-loop-k : goal.invariant-loop-k
invariant-loop-k l = (all_below (fitting (keeps l.home.first l.home.bucket l.home.level) l.region) l.k ≡ true)
    × Chaining l.region l.count l.k l.latest l.before
