-- `ride::finish_insert` turns the key away, or places the ride.
use Rattle.layout.specs.Replies.Refused.{number_some}
use Rattle.ride.specs.Call.Own.{turned_away}
use Rattle.ride.proofs.finish_insert.Goals as goal

pub returns-in-Err : goal.returns-in-Err
returns-in-Err c = rw c.turn_away.ensures.0 (search (turned_away, number_some, c.in-Err.ensures))
