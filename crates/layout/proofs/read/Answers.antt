-- `layout::read`: the word is the bytes and zeros behind them, so its number is theirs.
use Rattle.layout.specs.Bytes.Words.{word_read, word_below}
use Rattle.layout.proofs.read.Goals as goal

pub returns-clause-number : goal.returns-clause-number
returns-clause-number g c = search word_read

pub returns-clause-below : goal.returns-clause-below
returns-clause-below g c = word_below _ _ _ c.type_inv.bytes (returns-clause-number g c)
