-- `scan::match_bits`: the bits of the keys from the k-th on, found from the last to the first.
use native.Mathlib.Omega.{arith}
use mathlib.Core.Path.{◌∙◌}
use Rattle.scan.specs.Scan.Bits.{bit_is, bit_few}
use Rattle.scan.specs.Scan.Tally.{tested_none, tested_more, tested_room}
use Rattle.scan.proofs.match_bits.Goals as goal

pub loop-k-init : goal.loop-k-init
loop-k-init c = search tested_none

pub overflow_mul-bits : goal.overflow_mul-bits
overflow_mul-bits c = let h = c.args.headed.now in
    let room = tested_room h.file.now c.args.bucket c.loop-k.invariant (λ e. omega (arith, e, c.loop-k-test.true))
    h.known c.requires.1 in
    record { fits = omega (arith, room) }

pub overflow_add-bits : goal.overflow_add-bits
overflow_add-bits c = let h = c.args.headed.now in
    let room = tested_room h.file.now c.args.bucket c.loop-k.invariant (λ e. omega (arith, e, c.loop-k-test.true))
    h.known c.requires.1 in
    record { fits = omega (arith, room, c.from.ensures, bit_few c.of_lift-matching.result) }

pub loop-k-preserved : goal.loop-k-preserved
loop-k-preserved c = let h = c.args.headed.now in
    tested_more h.file.now c.args.bucket c.loop-k.invariant (λ e. omega (arith, e, c.loop-k-test.true))
    c.key_in.result c.key_in.ensures c.of_lift-matching.ensures (c.from.ensures ∙ bit_is c.of_lift-matching.result)
