-- `file::Headed::region` cuts a region out of the file, at its place and of its length.
use Rattle.file.specs.File.Region.{known_cut, known_long}
use Rattle.file.proofs.Headed.region.Goals as goal

pub returns : goal.returns
returns c = (search known_cut, search known_long)
