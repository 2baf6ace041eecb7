-- `turn::run_search`: what search told, and the line of its block.
use Rattle.std.proofs.Common.{rules}
use Rattle.turn.specs.Session.Laws.{search_done}
use Rattle.turn.proofs.run_search.Goals as goal

pub returns : goal.returns
returns c = search (rules, search_done)
