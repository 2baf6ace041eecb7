-- `order::send_on`: as many children as there were turns stand in the first places.
use Rattle.std.proofs.Common.{◌+◌, rules, arith}
use Rattle.std.proofs.lemmas.Grind.{common_steps}
use Rattle.address.specs.Limits.{first_buckets}
use Rattle.address.specs.Rules.Cases.{child_is}
use Rattle.address.specs.Rules.Order.{born_none, born_next}
use Rattle.order.proofs.send_on.Goals as goal

pub loop-k-init : goal.loop-k-init
loop-k-init c = search born_none

pub child-requires : goal.child-requires
child-requires c = let level = c.args.told + c.loop-k.k in (
  search rules,
  omega (arith, child_is first_buckets c.args.bucket level, c.requires.children level (omega arith) (omega arith)),
)

pub loop-k-preserved : goal.loop-k-preserved
loop-k-preserved c = grind (arith, common_steps, born_next)
