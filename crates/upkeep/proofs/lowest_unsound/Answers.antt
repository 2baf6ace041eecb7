-- `upkeep::lowest_unsound`: the lowest unsound region from here on is the lowest of all.
use native.Mathlib.Omega.{arith}
use Rattle.std.proofs.Common.{rules}
use Rattle.file.specs.File.Region.{lower_none, lower_here, lower_more, lower_end}
use Rattle.upkeep.proofs.lowest_unsound.Goals as goal

pub loop-region-init : goal.loop-region-init
loop-region-init c = search lower_none

pub returns-then-not-region_sound-clause-found : goal.returns-then-not-region_sound-clause-found
returns-then-not-region_sound-clause-found c = (search lower_here, search rules)

pub loop-region-preserved : goal.loop-region-preserved
loop-region-preserved c = search lower_more

pub returns-clause-none : goal.returns-clause-none
returns-clause-none c = let h = c.args.headed.now in
    let l = c.loop-region in
    omega (arith, lower_end h.file.now h.known l.region l.invariant (omega arith))
