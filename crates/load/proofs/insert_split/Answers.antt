-- `load::insert_split` refuses lengths that do not fit and a threshold out of range, is stopped on its way, or goes on
-- at the key's own bucket.
use Rattle.std.proofs.Common.{ℕ, List, ap, ◌∙◌}
use Rattle.layout.specs.Replies.Refused.{number_some}
use Rattle.load.specs.Load.{controlled}
use Rattle.ride.specs.Call.{placed}
use Rattle.ride.specs.Call.Replied.{both_fit, unfit_answer, unfit_payload}
use Rattle.load.specs.Load.Ways.{load_unfit, load_unranged, load_stopped, load_reached, load_walked}
use Rattle.load.proofs.insert_split.Goals as goal

pub returns-in_default : goal.returns-in_default
returns-in_default c = search (load_unfit, unfit_payload, c.in_default.ensures)

pub returns-in_default-as_mut_array : goal.returns-in_default-as_mut_array
returns-in_default-as_mut_array c = search (load_unfit, unfit_answer, c.in_default-as_mut_array.ensures)

pub returns-then-not-ranged : goal.returns-then-not-ranged
returns-then-not-ranged c = rw c.refuse.ensures.0
    (search (load_unranged, both_fit, c.in-Some.ensures, c.in-Some-as_mut_array.ensures))

pub returns-in-Ok : goal.returns-in-Ok
returns-in-Ok c = let a = c.args in
    search (
      load_walked,
      both_fit,
      load_reached,
      c.in-Some.ensures,
      c.in-Some-as_mut_array.ensures,
      c.in-Ok.ensures,
      c.finish.ensures
          ∙ ap (λ (p : List ℕ). controlled a.file.now a.table.now a.client a.key a.threshold
          (placed a.file.now a.table.now a.client a.key p)) c.in-Some.ensures.cases.same,
    )

pub returns-in-Err : goal.returns-in-Err
returns-in-Err c = rw c.refuse-in-Err.ensures.0
    (search (
      load_walked,
      both_fit,
      load_stopped,
      number_some,
      c.in-Some.ensures,
      c.in-Some-as_mut_array.ensures,
      c.in-Err.ensures,
    ))
