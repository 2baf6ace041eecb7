-- `file::state_fits` tests the level first, so that its span is small, and then the pointer and the buckets.
use Rattle.file.specs.File.Judge.{state_high, state_is}
use Rattle.file.proofs.state_fits.Goals as goal

pub returns-then-state-gt-MOST_LEVEL : goal.returns-then-state-gt-MOST_LEVEL
returns-then-state-gt-MOST_LEVEL c = search state_high

pub returns : goal.returns
returns c = search state_is
