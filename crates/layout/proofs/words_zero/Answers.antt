-- `layout::words_zero`: what was seen of all words is zero if each is.
use Rattle.std.proofs.Common.{rules}
use Rattle.layout.specs.Bytes.Words.{words_none}
use Rattle.layout.proofs.words_zero.Goals as goal

pub returns : goal.returns
returns c = words_none c.args.words.now c.told-words (search rules)
