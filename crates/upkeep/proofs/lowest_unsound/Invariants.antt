-- `upkeep::lowest_unsound`: the lowest unsound region from here on is the lowest of all.
use Rattle.file.specs.File.Region.{Lower}
use Rattle.upkeep.proofs.lowest_unsound.Given as goal

abbrev pub invariant-loop-region : goal.invariant-loop-region
invariant-loop-region l = Lower l.headed.file.now l.region
