-- `address::hash` is the remainder by the span, which one first bucket makes a power of two.
use Rattle.std.proofs.Common.{arith}
use Rattle.address.specs.Room.{span_shift_one, hash_by}
use Rattle.address.proofs.hash.Goals as goal

pub returns-then-first-eq1 : goal.returns-then-first-eq1
returns-then-first-eq1 c = let a = c.args in
    hash_by a.first a.level c.requires a.key _
    (span_shift_one a.first a.level c.requires 18446744073709551616 (omega arith) c.if-first-eq1.true)

pub returns : goal.returns
returns c = grind (arith, hash_by)
