-- `upkeep::check` judges the header and then each region: 5, 7 with the lowest unsound one, or sound.
use Rattle.file.specs.File.Judge.{known}
use Rattle.file.specs.File.Region.{check_header, check_region, check_none}
use Rattle.upkeep.proofs.check.Goals as goal

pub returns-in_default : goal.returns-in_default
returns-in_default c = search (check_header, c.in_default.ensures)

pub invariant_of-lowest_unsound : goal.invariant_of-lowest_unsound
invariant_of-lowest_unsound c = search (known, c.in-Some.ensures)

pub returns-in-Some-lowest_unsound : goal.returns-in-Some-lowest_unsound
returns-in-Some-lowest_unsound c = search (check_region, c.in-Some.ensures, c.in-Some-lowest_unsound.ensures)

pub returns-in-None : goal.returns-in-None
returns-in-None c = search (check_none, c.in-Some.ensures, c.in-None.ensures)
