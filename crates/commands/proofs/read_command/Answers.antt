-- `commands::read_command` goes by a line's first two bytes and by the second space, a law for each way out.
use Rattle.std.proofs.Common.{rules, arith}
use Rattle.commands.specs.Text.Fields.{seen_empty, seen_blank, seen_split, seen_letter, seen_other, seen_short}
use Rattle.commands.specs.Text.Fields.{seen_numbers}
use Rattle.commands.proofs.read_command.Goals as goal

pub returns-in-len1 : goal.returns-in-len1
returns-in-len1 c = search seen_split

pub returns-in-Some : goal.returns-in-Some
returns-in-Some c = let (few, hit, none) = c.in-Some.ensures in
    seen_numbers c.args.line.now c.in-len2-up.len_at_least c.if-letter-ne32.true c.if-gap-eq32.true few hit none
    c.command_of.ensures

pub returns-in-None : goal.returns-in-None
returns-in-None c = search (rules, seen_short)

pub returns-in_default : goal.returns-in_default
returns-in_default c = search seen_empty

pub returns-in_default-2 : goal.returns-in_default-2
returns-in_default-2 c = search seen_letter

pub returns-in_default-3 : goal.returns-in_default-3
returns-in_default-3 c = search seen_other

pub returns-in_default-4 : goal.returns-in_default-4
returns-in_default-4 c = seen_blank c.args.line.now (omega arith) c.if-letter-ne32.false
