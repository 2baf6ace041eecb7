-- `lines::Text::put_number` writes the digits of x / 10 by a call of itself, and then the last digit: the two cases of
-- `decimal`.
use Rattle.std.proofs.Common.{rules, arith}
use Rattle.lines.specs.Lines.Decimal.{decimal_tail}
use Rattle.lines.specs.Lines.Written.{digit_room, digit_wrote, last_room, number_wrote}
use Rattle.lines.proofs.Text.+put_number.Goals as goal

pub put_byte-requires : goal.put_byte-requires
put_byte-requires t c = search digit_room

pub returns-then-x-lt10 : goal.returns-then-x-lt10
returns-then-x-lt10 t c = search (rules, digit_wrote)

pub put_number-requires : goal.put_number-requires
put_number-requires t c = omega (arith, decimal_tail c.args.x (omega arith))

pub put_byte-requires-2 : goal.put_byte-requires-2
put_byte-requires-2 t c = search last_room

pub returns : goal.returns
returns t c = search (rules, number_wrote)
