-- `load::accept` refuses where a region of the split is unsound, or commits what is decided.
use Rattle.load.specs.Load.Own.{load_unsound, load_decided}
use Rattle.load.specs.Load.Regions.{roomy, regions_passed}
use Rattle.std.proofs.Common.{rules}
use Rattle.load.proofs.accept.Goals as goal

pub judge_plan-requires : goal.judge_plan-requires
judge_plan-requires c = (search roomy, search rules)

pub returns-in-Err : goal.returns-in-Err
returns-in-Err c = search (load_unsound, c.in-Err.is)

pub commit-requires : goal.commit-requires
commit-requires c = (search, search, search, search roomy, search regions_passed)

pub returns-in-Ok : goal.returns-in-Ok
returns-in-Ok c = search load_decided
