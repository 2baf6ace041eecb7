-- `lines::Text::put_each` writes a separator and a number in each turn: what is written so far is each number passed.
use Rattle.std.proofs.Common.{take}
use Rattle.lines.specs.Lines.{each_after}
use Rattle.lines.specs.Text.{Puts}
use Rattle.lines.proofs.Text.put_each.Given as goal

abbrev pub invariant-loop-number : goal.invariant-loop-number
invariant-loop-number l = Puts (each_after l.separator (take l.number-index l.numbers)) l.initial.self l.self
