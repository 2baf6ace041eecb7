-- `file::judge_bucket` judges the bucket's own region at its own level.
use Rattle.file.specs.File.Region.{standing_slots, standing_low, standing_level, standing_fits}
use Rattle.file.specs.File.Region.{standing_long, standing_found}
use Rattle.file.proofs.judge_bucket.Goals as goal

pub start-at-requires : goal.start-at-requires
start-at-requires c = (search standing_slots, search standing_low)

pub slice_bounds-judge-end : goal.slice_bounds-judge-end
slice_bounds-judge-end c = search standing_fits

pub judge-requires : goal.judge-requires
judge-requires c = (search standing_level, search standing_long, search standing_slots)

pub returns : goal.returns
returns c = search standing_found
