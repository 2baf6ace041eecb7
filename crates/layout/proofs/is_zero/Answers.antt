-- `layout::is_zero`: the words are zero, and so is what is left behind them.
use Rattle.std.proofs.Common.{rules}
use Rattle.layout.specs.Bytes.Words.{whole_zero}
use Rattle.layout.proofs.is_zero.Goals as goal

pub returns : goal.returns
returns c = whole_zero _ _ _ c.as_chunks.ensures.front c.as_chunks.ensures.back c.words_zero.ensures (search rules)
