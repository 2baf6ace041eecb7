-- `answer::put_block` writes the 24 bytes of a block as three numbers of eight: its start, the count and zero.
use Rattle.answer.specs.Answer.Block.{block_written}
use Rattle.answer.proofs.put_block.Goals as goal

pub returns : goal.returns
returns c = search block_written
