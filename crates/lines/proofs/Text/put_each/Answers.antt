-- `lines::Text::put_each` writes a separator and a number in each turn: what is written so far is each number passed.
use Rattle.std.proofs.Common.{rules}
use Rattle.lines.specs.Lines.Written.{converted_room, converted}
use Rattle.lines.specs.Lines.Written.{each_start, separator_room, each_number_room, each_next}
use Rattle.lines.proofs.Text.put_each.Goals as goal

pub loop-number-init : goal.loop-number-init
loop-number-init c = search (rules, each_start)

pub put_byte-requires : goal.put_byte-requires
put_byte-requires c = search separator_room

pub put_number-requires : goal.put_number-requires
put_number-requires c = search (each_number_room, converted_room)

pub loop-number-preserved : goal.loop-number-preserved
loop-number-preserved c = search (rules, each_next, converted)
