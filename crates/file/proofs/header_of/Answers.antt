-- `file::header_of` tests length, fixed bytes and ranges in turn; the first that fails leaves no header.
use Rattle.file.specs.File.Judge.{header_short, header_unfixed, header_unranged, header_judged}
use Rattle.file.proofs.header_of.Goals as goal

pub returns-then-long-lt16 : goal.returns-then-long-lt16
returns-then-long-lt16 c = search header_short

pub returns-then-not-fixed_bytes : goal.returns-then-not-fixed_bytes
returns-then-not-fixed_bytes c = search header_unfixed

pub returns-then-not-ranges_fit : goal.returns-then-not-ranges_fit
returns-then-not-ranges_fit c = search header_unranged

pub returns : goal.returns
returns c = search header_judged
