-- `order::send_first`: as many numbers as there were turns stand in the first places.
use Rattle.std.proofs.Common.{◌≡◌, take}
use Rattle.address.specs.Rules.{numbers}
use Rattle.order.proofs.send_first.Given as goal

abbrev pub invariant-loop-bucket : goal.invariant-loop-bucket
invariant-loop-bucket l = take l.bucket l.sent ≡ numbers 0 l.bucket
