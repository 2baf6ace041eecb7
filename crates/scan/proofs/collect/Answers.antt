-- `scan::collect` refuses by the first unsound bucket, and otherwise goes on to the lists.
use mathlib.Core.Path.{refl}
use Rattle.scan.specs.Scan.Replied.{judged_unsound}
use Rattle.scan.proofs.collect.Goals as goal

pub returns-in-Err : goal.returns-in-Err
returns-in-Err c = judged_unsound c.requires.0 c.in-Err.ensures.unsound refl _ _ c.first_unsound.ensures refl
