-- `ride::search` refuses a block of another length, is stopped on its way, or finishes at the key's own bucket.
use Rattle.layout.specs.Replies.Refused.{number_some}
use Rattle.ride.specs.Call.Replied.{search_unfit, search_walked, routed_refused, routed_reached}
use Rattle.ride.proofs.search.Goals as goal

pub returns-in_default : goal.returns-in_default
returns-in_default c = search (search_unfit, c.in_default.ensures)

pub returns-in-Ok : goal.returns-in-Ok
returns-in-Ok c = search (search_walked, routed_reached, c.in-Some.ensures, c.in-Ok.ensures)

pub returns-in-Err : goal.returns-in-Err
returns-in-Err c = rw c.refuse.ensures.0
    (search (search_walked, routed_refused, number_some, c.in-Some.ensures, c.in-Err.ensures))
