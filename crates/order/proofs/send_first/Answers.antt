-- `order::send_first`: as many numbers as there were turns stand in the first places.
use Rattle.std.proofs.Common.{arith}
use Rattle.std.proofs.lemmas.Grind.{common_steps}
use Rattle.address.specs.Rules.Order.{numbers_none, numbers_next}
use Rattle.order.proofs.send_first.Goals as goal

pub loop-bucket-init : goal.loop-bucket-init
loop-bucket-init c = search numbers_none

pub loop-bucket-preserved : goal.loop-bucket-preserved
loop-bucket-preserved c = grind (arith, common_steps, numbers_next)
