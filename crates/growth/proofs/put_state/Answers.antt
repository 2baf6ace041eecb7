-- `growth::put_state` writes the level and then the pointer.
use Rattle.std.proofs.Common.{rules}
use Rattle.file.specs.File.Write.{state_written}
use Rattle.growth.proofs.put_state.Goals as goal

pub returns : goal.returns
returns c = search (state_written, rules)
