-- `answer::start_of_block`: each entry of the route is below 65,536, so the sum does not carry and has their bytes.
use Rattle.answer.specs.Answer.Block.{start_found}
use Rattle.answer.proofs.start_of_block.Goals as goal

pub returns : goal.returns
returns c = rw c.from.ensures (search start_found)
