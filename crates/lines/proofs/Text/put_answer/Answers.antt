-- `lines::Text::put_answer` writes its three parts side by side; they fit since no bucket number has more than five
-- digits.
use Rattle.std.proofs.Common.{rules}
use Rattle.lines.specs.Lines.Written.{heading_room, route_room, answer_end_room, answer_wrote}
use Rattle.lines.proofs.Text.put_answer.Goals as goal

pub put_heading-requires : goal.put_heading-requires
put_heading-requires c = search heading_room

pub put_joined-requires : goal.put_joined-requires
put_joined-requires c = search route_room

pub put_byte-requires : goal.put_byte-requires
put_byte-requires c = search answer_end_room

pub returns : goal.returns
returns c = search (rules, answer_wrote)
