-- `lines::Text::put_byte` stores the byte, which is to write it over what stood there.
use Rattle.std.proofs.Common.{rules}
use Rattle.lines.specs.Lines.Edit.{wrote_byte}
use Rattle.lines.proofs.Text.put_byte.Goals as goal

pub returns : goal.returns
returns c = search (rules, wrote_byte)
