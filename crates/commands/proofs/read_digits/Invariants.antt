-- `commands::read_digits` takes digit after digit: what the digits left spell after the value so far stays the same at
-- each step.
use Rattle.std.proofs.Common.{◌≡◌, ◌+◌, drop}
use Rattle.commands.specs.Text.{number_from}
use Rattle.commands.proofs.read_digits.Given as goal

abbrev pub invariant-loop-byte : goal.invariant-loop-byte
invariant-loop-byte l = number_from (l.most + 1) l.value (drop l.byte-index l.field)
    ≡ number_from (l.most + 1) 0 l.field
