-- `address::wrapped` goes by the rule's two cases: the pointer is below the span, or has reached it.
use Rattle.std.proofs.Common.{arith}
use Rattle.address.specs.Rules.Cases.{wrapped_below, wrapped_full}
use Rattle.address.proofs.wrapped.Goals as goal

pub returns-then-pointer-span : goal.returns-then-pointer-span
returns-then-pointer-span c = grind (arith, wrapped_below)

pub returns : goal.returns
returns c = grind (arith, wrapped_full)
