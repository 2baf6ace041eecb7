-- `Image::factor` goes by the bucket's level: the file's own, or one up.
use Rattle.address.specs.Load.Laws.{factor_same, factor_up}
use Rattle.std.proofs.Common.{rules}
use Rattle.address.proofs.Image.factor.Goals as goal

pub returns-then-level_of-self : goal.returns-then-level_of-self
returns-then-level_of-self c = (search factor_same, search rules)

pub returns : goal.returns
returns c = (search factor_up, search rules)
