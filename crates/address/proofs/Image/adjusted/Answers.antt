-- `Image::adjusted` goes by the rule's cases: behind the first bucket's level, or kept or level with it.
use Rattle.std.proofs.Common.{arith}
use Rattle.address.specs.Rules.Cases.{adjusted_kept, adjusted_level, adjusted_behind}
use Rattle.address.proofs.Image.adjusted.Goals as goal

pub returns-then-self-level : goal.returns-then-self-level
returns-then-self-level c = grind (arith, adjusted_behind)

pub returns : goal.returns
returns c = grind (arith, adjusted_kept, adjusted_level)
