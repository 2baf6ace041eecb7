-- `bucket::slots_paired`: the slots so far fit and their keys are distinct; each turn adds one slot whose key is not
-- found before it. In the end the key asked for is found among them all.
use native.Mathlib.Omega.{arith}
use Rattle.address.specs.Rules.{keeps}
use Rattle.layout.specs.Bytes.Tests.{all_none}
use Rattle.bucket.specs.Region.Judge.{fitting}
use Rattle.bucket.specs.Region.Single.{single_none}
use Rattle.bucket.specs.Region.Told.{slot_unfit, paired_double, slot_next, paired_next, paired_done}
use Rattle.bucket.proofs.slots_paired.Goals as goal

pub loop-k-init : goal.loop-k-init
loop-k-init c = let a = c.args in (
  omega arith,
  all_none (fitting (keeps a.home.first a.home.bucket a.home.level) a.region.now),
  single_none a.region.now,
)

pub returns-then-not-slot_fits : goal.returns-then-not-slot_fits
returns-then-not-slot_fits c = search slot_unfit

pub returns-then-is_some : goal.returns-then-is_some
returns-then-is_some c = search paired_double

pub loop-k-preserved : goal.loop-k-preserved
loop-k-preserved c = (
  omega arith,
  search slot_next,
  search paired_next,
)

pub returns : goal.returns
returns c = search paired_done
