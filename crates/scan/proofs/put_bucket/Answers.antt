-- `scan::put_bucket`: the selected keys before a slot are written; those that are left, written behind them, make the
-- whole.
use Prim.Native.Nat.{◌+◌, ◌<◌}
use mathlib.Core.Path.{◌∙◌}
use native.Mathlib.Omega.{arith}
use lib.Count.{count_trailing_zeros}
use Rattle.bucket.specs.Region.{count_of}
use Rattle.file.specs.File.{region_of}
use Rattle.scan.specs.Scan.Fill.{fill_within, fill_fits, fill_more, fill_done}
use Rattle.scan.specs.Scan.Tally.{keys_in_count, keys_few, key_of}
use Rattle.scan.proofs.put_bucket.Goals as goal

pub overflow_add-found : goal.overflow_add-found
overflow_add-found c = let short = keys_few c.args.headed.now.known c.args.bucket c.requires.1 in
    record { fits = omega (arith, short, fill_within c.loop-left.invariant short c.loop-left-test.true) }

pub key_in-requires : goal.key_in-requires
key_in-requires c = let short = keys_few c.args.headed.now.known c.args.bucket c.requires.1 in
    let within = fill_within c.loop-left.invariant short c.loop-left-test.true in
    (c.requires.0, c.requires.1, omega (arith, within, keys_in_count c.args.headed.now.file.now c.args.bucket))

pub bounds-matches-filled : goal.bounds-matches-filled
bounds-matches-filled c = search (fill_fits, keys_few)

pub overflow_add-slot : goal.overflow_add-slot
overflow_add-slot c = let short = keys_few c.args.headed.now.known c.args.bucket c.requires.1 in
    record { fits = omega (arith, short, fill_within c.loop-left.invariant short c.loop-left-test.true) }

pub loop-left-preserved : goal.loop-left-preserved
loop-left-preserved c = let a = c.args in
    let l = c.loop-left in
    let some = c.loop-left-test.true in
    let short = keys_few a.headed.now.known a.bucket c.requires.1 in
    let k = l.slot + count_trailing_zeros 64 l.left in
    let used : k < count_of (region_of a.headed.now.file.now a.bucket) =
    omega (arith, fill_within l.invariant short some, keys_in_count a.headed.now.file.now a.bucket) in
    fill_more l.invariant short some c.requires.3 c.key_in.result
    (c.key_in.ensures ∙ key_of a.headed.now.file.now a.bucket k used)

pub returns : goal.returns
returns c = fill_done c.loop-left.invariant c.loop-left-test.false
