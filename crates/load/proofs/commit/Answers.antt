-- `load::commit` places the ride, and then does what is left of the decision.
use Rattle.load.specs.Load.Own.{divisible, commit_done, commit_not_due, commit_no_room}
use Rattle.load.proofs.commit.Goals as goal

pub divide-requires : goal.divide-requires
divide-requires c = search divisible

pub returns-in-Done : goal.returns-in-Done
returns-in-Done c = search commit_done

pub returns-in-NotDue : goal.returns-in-NotDue
returns-in-NotDue c = search commit_not_due

pub returns-in-NoRoom : goal.returns-in-NoRoom
returns-in-NoRoom c = search commit_no_room
