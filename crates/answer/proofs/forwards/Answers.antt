-- `answer::forwards` is the route's length less one, and 0 for a block of another length.
use mathlib.Core.Path.{◌∙◌}
use Rattle.answer.specs.Answer.Block.{forwards_other, forwards_met}
use Rattle.answer.proofs.forwards.Goals as goal

pub returns-then-answer-ne-BLOCK : goal.returns-then-answer-ne-BLOCK
returns-then-answer-ne-BLOCK c = search forwards_other

pub returns : goal.returns
returns c = c.saturating_sub.ensures ∙ search forwards_met
