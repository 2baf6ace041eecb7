-- `turn::run_insert`: what insert told, and the line of its block.
use Rattle.std.proofs.Common.{rules}
use Rattle.turn.specs.Session.Laws.{insert_done}
use Rattle.turn.proofs.run_insert.Goals as goal

pub returns : goal.returns
returns c = search (rules, insert_done)
