-- `address::born_of` takes off the greatest power of two, which the leading zeros tell.
use Rattle.std.proofs.Common.{arith}
use Rattle.address.specs.Rules.Parent.{by_zeros}
use Rattle.address.specs.Rules.Earlier.{parent_lower}
use Rattle.address.proofs.born_of.Goals as goal

pub overflow_sub-result-2 : goal.overflow_sub-result-2
overflow_sub-result-2 c = grind (arith, by_zeros)

pub returns : goal.returns
returns c = grind (arith, by_zeros, parent_lower)
