-- `commands::command_of` reads the two numbers; without either the command is unknown.
use Rattle.commands.specs.Text.Fields.{first_malformed, second_malformed, number_limited, both_numbers}
use Rattle.commands.proofs.command_of.Goals as goal

pub returns-in_default : goal.returns-in_default
returns-in_default c = search first_malformed

pub returns-in_default-read_number : goal.returns-in_default-read_number
returns-in_default-read_number c = search second_malformed

pub command_named-requires : goal.command_named-requires
command_named-requires c = search number_limited

pub returns : goal.returns
returns c = search both_numbers
