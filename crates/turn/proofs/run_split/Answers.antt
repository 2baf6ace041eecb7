-- `turn::run_split`: what split told, and the line of it.
use Rattle.std.proofs.Common.{rules}
use Rattle.growth.specs.Split.{split_answered}
use Rattle.turn.specs.Session.Laws.{split_done}
use Rattle.turn.proofs.run_split.Goals as goal

pub returns : goal.returns
returns c = λ table. search (rules, split_done, split_answered)
