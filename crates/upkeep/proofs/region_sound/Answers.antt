-- `upkeep::region_sound` judges a bucket's region, or tests one past the last bucket for zeros.
use Rattle.file.specs.File.Region.{known_below, region_below, region_behind}
use Rattle.upkeep.proofs.region_sound.Goals as goal

pub bucket_sound-requires : goal.bucket_sound-requires
bucket_sound-requires c = search known_below

pub returns-then-region-buckets : goal.returns-then-region-buckets
returns-then-region-buckets c = search region_below

pub returns : goal.returns
returns c = search region_behind
