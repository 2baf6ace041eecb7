-- `file::figures_fit` tests the ranges first, so that the length they ask for does not wrap.
use Rattle.file.specs.File.Judge.{figures_out, figures_in}
use Rattle.file.proofs.figures_fit.Goals as goal

pub returns-then-not-ranged : goal.returns-then-not-ranged
returns-then-not-ranged c = search figures_out

pub returns : goal.returns
returns c = search figures_in
