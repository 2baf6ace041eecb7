-- `commands::read_number` goes by the field's length and its first byte.
use Rattle.std.proofs.Common.{◌+◌, arith}
use Rattle.commands.specs.Text.Reading.{number_none, number_one, number_spared, number_long}
use Rattle.commands.proofs.read_number.Goals as goal

pub returns-in-empty : goal.returns-in-empty
returns-in-empty c = number_none (c.args.most + 1) c.args.field.now (omega arith)

pub returns-in-len1 : goal.returns-in-len1
returns-in-len1 c = number_one (c.args.most + 1) c.args.field.now (omega arith) c.read_digits.ensures

pub returns-in-len1-up : goal.returns-in-len1-up
returns-in-len1-up c = search number_spared

pub returns-in_default : goal.returns-in_default
returns-in_default c = search number_long
