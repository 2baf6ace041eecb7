-- `growth::split_bucket` judges bucket n; what passes goes on to the new region.
use Rattle.file.specs.File.Split.{old_exists, split_bad}
use Rattle.growth.proofs.split_bucket.Goals as goal

pub bucket_sound-requires : goal.bucket_sound-requires
bucket_sound-requires c = search old_exists

pub returns-then-not-bucket_sound : goal.returns-then-not-bucket_sound
returns-then-not-bucket_sound c = search split_bad
