-- `Image::level_of` goes by the rule's cases: below the pointer or born of a split, or neither.
use Rattle.std.proofs.Common.{arith}
use Rattle.address.specs.Rules.Cases.{level_passed, level_new, level_same}
use Rattle.address.proofs.Image.level_of.Goals as goal

pub returns-then-bucket-self : goal.returns-then-bucket-self
returns-then-bucket-self c = grind (arith, level_passed, level_new)

pub returns : goal.returns
returns c = search level_same
