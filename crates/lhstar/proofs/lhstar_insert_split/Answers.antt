-- `lhstar_insert_split` is the call of `load`, with the number of what became of the split.
use Rattle.lhstar.specs.Load.{numbers_numbered}
use Rattle.lhstar.proofs.lhstar_insert_split.Goals as goal

pub returns : goal.returns
returns c = rw c.from.ensures (numbers_numbered c.insert_split.result c.insert_split.ensures)
