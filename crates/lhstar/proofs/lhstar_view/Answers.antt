-- `lhstar::lhstar_view` gives the place of a view with a byte or more, and 0 and 0 of one without.
use Prim.Native.Nat.{◌≤◌}
use native.Mathlib.Omega.{arith}
use Rattle.address.specs.Limits.{most_buckets}
use Rattle.lhstar.specs.View.{empty_start, empty_length, view_start_lem, view_length_lem, viewed_slots, viewed_bucket}
use Rattle.lhstar.specs.View.{viewed_long}
use Rattle.lhstar.proofs.lhstar_view.Goals as goal

pub returns-then-length-eq0 : goal.returns-then-length-eq0
returns-then-length-eq0 c = (search empty_start, search empty_length)

pub figures-header-requires : goal.figures-header-requires
figures-header-requires c = search viewed_long

pub overflow_cast-bucket : goal.overflow_cast-bucket
overflow_cast-bucket c = let viewed : c.args.bucket ≤ most_buckets = search viewed_bucket in
    omega arith

pub start-at-requires : goal.start-at-requires
start-at-requires c = (search viewed_slots, search viewed_bucket)

pub returns : goal.returns
returns c = (search view_start_lem, search view_length_lem)
