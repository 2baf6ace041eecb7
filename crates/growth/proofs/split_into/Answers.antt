-- `growth::split_into` judges the new region; what passes is divided.
use Rattle.file.specs.File.Split.{new_there, split_used, split_made}
use Rattle.growth.proofs.split_into.Goals as goal

pub region_zero-requires : goal.region_zero-requires
region_zero-requires c = search new_there

pub returns-then-not-region_zero : goal.returns-then-not-region_zero
returns-then-not-region_zero c = search split_used

pub returns : goal.returns
returns c = search split_made
