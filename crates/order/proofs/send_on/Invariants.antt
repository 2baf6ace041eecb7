-- `order::send_on`: as many children as there were turns stand in the first places.
use Rattle.std.proofs.Common.{◌≡◌, take}
use Rattle.address.specs.Limits.{first_buckets}
use Rattle.address.specs.Rules.Order.{born}
use Rattle.order.proofs.send_on.Given as goal

abbrev pub invariant-loop-k : goal.invariant-loop-k
invariant-loop-k l = take l.k l.sent ≡ born first_buckets l.bucket l.told l.k
