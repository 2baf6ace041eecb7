-- `lines::Text::put_scanned` goes by the two cases: refused, or the visits, a space and the count side by side.
use Rattle.std.proofs.Common.{rules}
use Rattle.lines.specs.Lines.Written.{converted_room, converted}
use Rattle.lines.specs.Lines.Written.{scan_dash_room, scan_dash_wrote, visits_room, count_space_room, count_room}
use Rattle.lines.specs.Lines.Written.{scanned_wrote}
use Rattle.lines.proofs.Text.put_scanned.Goals as goal

pub put_byte-requires : goal.put_byte-requires
put_byte-requires c = search scan_dash_room

pub returns-then-reply-ne0 : goal.returns-then-reply-ne0
returns-then-reply-ne0 c = search (rules, scan_dash_wrote)

pub put_joined-requires : goal.put_joined-requires
put_joined-requires c = search visits_room

pub put_byte-requires-2 : goal.put_byte-requires-2
put_byte-requires-2 c = search count_space_room

pub put_number-requires : goal.put_number-requires
put_number-requires c = search (count_room, converted_room)

pub returns : goal.returns
returns c = search (rules, scanned_wrote, converted)
