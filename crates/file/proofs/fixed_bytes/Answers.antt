-- `file::fixed_bytes` tests the mark and cuts out the zeros.
use Rattle.file.specs.File.Judge.{fixed_read}
use Rattle.file.proofs.fixed_bytes.Goals as goal

pub returns : goal.returns
returns c = search fixed_read
