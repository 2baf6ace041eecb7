-- `layout::copy14` copies two numbers of eight bytes that overlap in two: fourteen bytes.
use Rattle.layout.specs.Bytes.Numbers.{fourteen_copied}
use Rattle.layout.proofs.copy14.Goals as goal

pub returns : goal.returns
returns c = search fourteen_copied
