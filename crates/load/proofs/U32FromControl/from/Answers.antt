-- A case of the control as a number: each case is told apart.
use Rattle.load.specs.Load.Decision.{number_zero, number_one, number_two}
use Rattle.load.proofs.U32FromControl.from.Goals as goal

pub returns-in-NotDue : goal.returns-in-NotDue
returns-in-NotDue c = search number_zero

pub returns-in-Done : goal.returns-in-Done
returns-in-Done c = search number_one

pub returns-in-NoRoom : goal.returns-in-NoRoom
returns-in-NoRoom c = search number_two
