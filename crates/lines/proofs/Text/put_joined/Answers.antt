-- `lines::Text::put_joined` goes by the two cases: no number, or a first one and each other after a separator.
use Rattle.std.proofs.Common.{rules}
use Rattle.lines.specs.Lines.Written.{converted_room, converted, length_none, length_some}
use Rattle.lines.specs.Lines.Written.{dash_room, dash_wrote, first_room, others_room, joined_wrote}
use Rattle.lines.proofs.Text.put_joined.Goals as goal

pub put_byte-requires : goal.put_byte-requires
put_byte-requires c = search (dash_room, length_none)

pub returns-in-empty : goal.returns-in-empty
returns-in-empty c = search (rules, dash_wrote, length_none)

pub put_number-requires : goal.put_number-requires
put_number-requires c = search (first_room, length_some, converted_room)

pub put_each-requires : goal.put_each-requires
put_each-requires c = search (others_room, length_some, converted)

pub returns-in-len1-up : goal.returns-in-len1-up
returns-in-len1-up c = search (rules, joined_wrote, length_some, converted)
