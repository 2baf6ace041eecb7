-- `load::judge_plan` judges the regions of a split that is to be done.
use Rattle.load.specs.Load.Regions.{regions_not_due, regions_no_room, regions_done}
use Rattle.load.proofs.judge_plan.Goals as goal

pub returns-in-Done : goal.returns-in-Done
returns-in-Done c = search regions_done

pub returns-in-NotDue : goal.returns-in-NotDue
returns-in-NotDue c = search regions_not_due

pub returns-in-NoRoom : goal.returns-in-NoRoom
returns-in-NoRoom c = search regions_no_room
