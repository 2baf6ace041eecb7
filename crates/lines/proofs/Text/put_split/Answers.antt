-- `lines::Text::put_split` writes its three parts side by side; they fit since no number of four bytes has more than
-- ten digits.
use Rattle.std.proofs.Common.{rules}
use Rattle.lines.specs.Lines.Written.{split_heading_room, buckets_room, split_end_room, split_wrote}
use Rattle.lines.proofs.Text.put_split.Goals as goal

pub put_heading-requires : goal.put_heading-requires
put_heading-requires c = search split_heading_room

pub put_buckets-requires : goal.put_buckets-requires
put_buckets-requires c = search buckets_room

pub put_byte-requires : goal.put_byte-requires
put_byte-requires c = search split_end_room

pub returns : goal.returns
returns c = search (rules, split_wrote)
