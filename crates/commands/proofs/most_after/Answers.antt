-- `commands::most_after` is one less than the limit, by its two cases.
use Rattle.commands.specs.Text.Fields.{limit_scan, limit_other}
use Rattle.commands.proofs.most_after.Goals as goal

pub returns-then-letter-eq65 : goal.returns-then-letter-eq65
returns-then-letter-eq65 c = search limit_scan

pub returns-else-letter-eq65 : goal.returns-else-letter-eq65
returns-else-letter-eq65 c = search limit_other
