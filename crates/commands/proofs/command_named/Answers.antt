-- `commands::command_named` goes by the letters in turn.
use Rattle.std.proofs.Common.{sym, arith}
use Rattle.commands.specs.Text.Fields.{limit_scan, named_insert, named_search, named_scan, named_none}
use Rattle.commands.proofs.command_named.Goals as goal

pub overflow_cast-result : goal.overflow_cast-result
overflow_cast-result c = omega (arith, limit_scan c.args.letter c.in-65.is)

pub returns-in-73 : goal.returns-in-73
returns-in-73 c = search named_insert

pub returns-in-83 : goal.returns-in-83
returns-in-83 c = let a = c.args in
    sym (named_search a.letter a.client a.number (λ e. omega arith) c.in-83.is)

pub returns-in-65 : goal.returns-in-65
returns-in-65 c = let a = c.args in
    sym (named_scan a.letter a.client a.number (λ e. omega arith) (λ e. omega arith) c.in-65.is)

pub returns-in_default : goal.returns-in_default
returns-in_default c = search named_none
