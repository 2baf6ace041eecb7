-- `load::finish` turns the key away, or accepts it.
use Rattle.layout.specs.Replies.Refused.{number_some}
use Rattle.load.specs.Load.Own.{load_away}
use Rattle.load.proofs.finish.Goals as goal

pub returns-in-Err : goal.returns-in-Err
returns-in-Err c = rw c.turn_away.ensures.0 (search (load_away, number_some, c.in-Err.ensures))
