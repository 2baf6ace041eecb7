-- `bucket::slots_chained`: the slots so far fit and are chained; each turn seeks one key along its chain and adds its
-- slot. In the end the key asked for is sought in the same way.
use Rattle.address.specs.Rules.{keeps}
use Rattle.layout.specs.Bytes.Tests.{all_none}
use Rattle.bucket.specs.Region.Judge.{fitting}
use Rattle.bucket.specs.Region.Single.{chain_none}
use Rattle.bucket.specs.Region.Told.{slot_unfit, chained_double, slot_next}
use Rattle.bucket.specs.Region.Told.{chain_next, chained_done}
use Rattle.bucket.proofs.slots_chained.Goals as goal

pub loop-k-init : goal.loop-k-init
loop-k-init c = let a = c.args in (
  all_none (fitting (keeps a.home.first a.home.bucket a.home.level) a.region.now),
  chain_none a.region.now
      a.count a.latest.now a.before.now c.requires.2 c.told-before,
)

pub returns-then-not-slot_fits : goal.returns-then-not-slot_fits
returns-then-not-slot_fits c = search slot_unfit

pub returns-then-is_some : goal.returns-then-is_some
returns-then-is_some c = search chained_double

pub loop-k-preserved : goal.loop-k-preserved
loop-k-preserved c = (search slot_next, search chain_next)

pub returns : goal.returns
returns c = search chained_done
