-- `Image::due` compares two products of 64 bits, which have room for any count and capacity of 32.
use Rattle.std.proofs.Common.{arith}
use Rattle.address.specs.Load.Laws.{wanted_all_room, due_is}
use Rattle.address.proofs.Image.due.Goals as goal

pub overflow_mul-result-2 : goal.overflow_mul-result-2
overflow_mul-result-2 c = grind (arith, wanted_all_room)

pub returns : goal.returns
returns c = grind (arith, due_is)
