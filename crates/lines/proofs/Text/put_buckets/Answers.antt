-- `lines::Text::put_buckets` goes by the two cases: refused, or the two numbers with a separator between them.
use Rattle.std.proofs.Common.{rules}
use Rattle.lines.specs.Lines.Written.{converted_room, converted}
use Rattle.lines.specs.Lines.Written.{split_dash_room, split_dash_wrote, old_room, greater_room, new_room}
use Rattle.lines.specs.Lines.Written.{buckets_wrote}
use Rattle.lines.proofs.Text.put_buckets.Goals as goal

pub put_byte-requires : goal.put_byte-requires
put_byte-requires c = search split_dash_room

pub returns-then-reply-ne0 : goal.returns-then-reply-ne0
returns-then-reply-ne0 c = search (rules, split_dash_wrote)

pub put_number-requires : goal.put_number-requires
put_number-requires c = search (old_room, converted_room)

pub put_byte-requires-2 : goal.put_byte-requires-2
put_byte-requires-2 c = search (greater_room, converted)

pub put_number-requires-2 : goal.put_number-requires-2
put_number-requires-2 c = search (new_room, converted, converted_room)

pub returns : goal.returns
returns c = search (rules, buckets_wrote, converted)
