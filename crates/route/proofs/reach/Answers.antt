-- `route::reach`: a call that is refused meets no bucket; else the walk stops at an unsound one, or ends at the own.
use Rattle.std.proofs.lemmas.Result.{err_from_is_err_and}
use Rattle.layout.specs.Replies.Refused.{number_some}
use Rattle.route.specs.Way.Reach.{way_refused, way_walked, way_own}
use Rattle.route.proofs.reach.Goals as goal

pub returns-in_err-opened-clause-stopped : goal.returns-in_err-opened-clause-stopped
returns-in_err-opened-clause-stopped c =
    let p = err_from_is_err_and c.from_residual.result c.from_residual.ensures.1 in
    rw (p.1, p.2.0) (search (way_refused, number_some, c.in_err-opened.ensures, p.2.1))

pub returns-in-Ok-clause-reached : goal.returns-in-Ok-clause-reached
returns-in-Ok-clause-reached c = (
  search (way_walked, c.in_ok-opened.ensures, c.in-Ok.ensures),
  search (way_own, c.in_ok-opened.ensures, c.in-Ok.ensures),
)

pub returns-in-Err-clause-stopped : goal.returns-in-Err-clause-stopped
returns-in-Err-clause-stopped c = search (way_walked, c.in_ok-opened.ensures, c.in-Err.ensures)
