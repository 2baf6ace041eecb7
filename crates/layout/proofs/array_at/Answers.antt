-- `layout::array_at` cuts the bytes out and copies them.
use Rattle.layout.specs.Bytes.Words.{part_cut}
use Rattle.layout.proofs.array_at.Goals as goal

pub returns : goal.returns
returns g c = search part_cut
