-- `load::judge_regions` judges bucket n, then the region of the new bucket.
use Rattle.file.specs.File.Split.{old_exists, new_there}
use Rattle.load.specs.Load.Regions.{regions_bad, regions_used, regions_sound}
use Rattle.std.proofs.Common.{rules}
use Rattle.load.proofs.judge_regions.Goals as goal

pub old_sound-requires : goal.old_sound-requires
old_sound-requires c = (search old_exists, search rules)

pub returns-then-not-old_sound : goal.returns-then-not-old_sound
returns-then-not-old_sound c = search regions_bad

pub region_zero-requires : goal.region_zero-requires
region_zero-requires c = search new_there

pub returns-then-not-region_zero : goal.returns-then-not-region_zero
returns-then-not-region_zero c = search regions_used

pub returns : goal.returns
returns c = search regions_sound
