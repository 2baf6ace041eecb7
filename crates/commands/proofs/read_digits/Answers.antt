-- `commands::read_digits` takes digit after digit: what the digits left spell after the value so far stays the same at
-- each step.
use Rattle.std.proofs.Common.{rules}
use Rattle.commands.specs.Text.Reading.{read_whole, read_other, read_product, read_sum, read_more}
use Rattle.commands.proofs.read_digits.Goals as goal

pub returns-then-not-is_ascii_digit : goal.returns-then-not-is_ascii_digit
returns-then-not-is_ascii_digit c = search (rules, read_other)

pub returns-in_err-checked_mul : goal.returns-in_err-checked_mul
returns-in_err-checked_mul c = search (rules, read_product)

pub returns-in_err-value : goal.returns-in_err-value
returns-in_err-value c = search (rules, read_sum)

pub loop-byte-preserved : goal.loop-byte-preserved
loop-byte-preserved c = search (rules, read_more)

pub returns : goal.returns
returns c = search (rules, read_whole)
