-- `growth::split` judges the header and the room in turn; what passes is split.
use Rattle.file.specs.File.Judge.{known}
use Rattle.file.specs.File.Split.{split_headless, split_full, split_room}
use Rattle.growth.proofs.split.Goals as goal

pub returns-in_default : goal.returns-in_default
returns-in_default c = search (split_headless, c.in_default.ensures)

pub buckets-requires : goal.buckets-requires
buckets-requires c = (known c.args.file.now _ c.in-Some.ensures).room

pub returns-then-header-buckets : goal.returns-then-header-buckets
returns-then-header-buckets c = search (split_full, known, c.in-Some.ensures)

pub split_bucket-requires : goal.split_bucket-requires
split_bucket-requires c = (search (known, c.in-Some.ensures), search (split_room, known, c.in-Some.ensures))
