-- `lines::Text::put_unknown` writes its two bytes side by side.
use Rattle.std.proofs.Common.{rules}
use Rattle.lines.specs.Lines.Written.{unknown_end_room, unknown_wrote}
use Rattle.lines.proofs.Text.put_unknown.Goals as goal

pub put_byte-requires-2 : goal.put_byte-requires-2
put_byte-requires-2 c = search unknown_end_room

pub returns : goal.returns
returns c = search (rules, unknown_wrote)
