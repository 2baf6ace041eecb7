-- `lines::Text::put_heading` writes its four parts side by side.
use Rattle.std.proofs.Common.{rules}
use Rattle.lines.specs.Lines.Written.{converted_room, converted}
use Rattle.lines.specs.Lines.Written.{letter_room, space_room, reply_room, second_space_room, heading_wrote}
use Rattle.lines.proofs.Text.put_heading.Goals as goal

pub put_byte-requires : goal.put_byte-requires
put_byte-requires c = search letter_room

pub put_byte-requires-2 : goal.put_byte-requires-2
put_byte-requires-2 c = search space_room

pub put_number-requires : goal.put_number-requires
put_number-requires c = search (reply_room, converted_room)

pub put_byte-requires-3 : goal.put_byte-requires-3
put_byte-requires-3 c = search (second_space_room, converted)

pub returns : goal.returns
returns c = search (rules, heading_wrote, converted)
