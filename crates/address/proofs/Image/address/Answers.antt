-- `Image::address` gives the lower hash, or the upper one where the lower is below the pointer: the rule's two cases.
use Rattle.address.specs.Rules.Cases.{address_up, address_same}
use Rattle.address.proofs.Image.address.Goals as goal

pub returns-then-low-self : goal.returns-then-low-self
returns-then-low-self c = search address_up

pub returns : goal.returns
returns c = search address_same
