-- `ride::insert` refuses lengths that do not fit, is stopped on its way, or finishes at the key's own bucket.
use Rattle.std.proofs.Common.{ap, ◌∙◌}
use Rattle.layout.specs.Replies.Refused.{number_some}
use Rattle.ride.specs.Call.{placed}
use Rattle.ride.specs.Call.Replied.{insert_unfit, insert_walked, routed_refused, routed_reached}
use Rattle.ride.specs.Call.Replied.{both_fit, unfit_answer, unfit_payload}
use Rattle.ride.proofs.insert.Goals as goal

pub returns-in_default : goal.returns-in_default
returns-in_default c = search (insert_unfit, unfit_payload, c.in_default.ensures)

pub returns-in_default-as_mut_array : goal.returns-in_default-as_mut_array
returns-in_default-as_mut_array c = search (insert_unfit, unfit_answer, c.in_default-as_mut_array.ensures)

pub returns-in-Ok : goal.returns-in-Ok
returns-in-Ok c = let a = c.args in
    insert_walked _ _ _ _ _ _ (search (both_fit, c.in-Some.ensures, c.in-Some-as_mut_array.ensures))
    (search (
      routed_reached,
      c.in-Ok.ensures,
      c.finish_insert.ensures
          ∙ ap (placed a.file.now a.table.now a.client a.key) c.in-Some.ensures.cases.same,
    ))

pub returns-in-Err : goal.returns-in-Err
returns-in-Err c = rw c.refuse.ensures.0
    (search (
      insert_walked,
      both_fit,
      routed_refused,
      number_some,
      c.in-Some.ensures,
      c.in-Some-as_mut_array.ensures,
      c.in-Err.ensures,
    ))
