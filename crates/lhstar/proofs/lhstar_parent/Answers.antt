-- `lhstar::lhstar_parent` answers 65,535 where `address::parent` answers none.
use Rattle.address.specs.Rules.Parent.{parent_number}
use Rattle.lhstar.proofs.lhstar_parent.Goals as goal

pub returns : goal.returns
returns c = search parent_number
