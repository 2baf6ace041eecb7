-- `upkeep::put_figures` writes the mark, then the figures behind it: a new file's header.
use Rattle.std.proofs.Common.{rules}
use Rattle.file.specs.File.Create.{header_written}
use Rattle.upkeep.proofs.put_figures.Goals as goal

pub returns : goal.returns
returns c = search (header_written, rules)
