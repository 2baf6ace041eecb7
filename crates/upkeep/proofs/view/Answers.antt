-- `upkeep::view` judges header, number and bucket in turn, and then hands back the slots in use.
use Prim.Native.Nat.{◌<◌, ◌≤◌}
use native.Mathlib.Omega.{arith}
use Rattle.file.specs.File.Judge.{known}
use Rattle.file.specs.File.Region.{view_headless, view_past, view_there, view_bad}
use Rattle.file.specs.File.Split.{split_sound}
use Rattle.upkeep.proofs.view.Goals as goal

pub returns-in_default : goal.returns-in_default
returns-in_default c = search (view_headless, c.in_default.ensures)

pub buckets-buckets-requires : goal.buckets-buckets-requires
buckets-buckets-requires c = (known c.args.file.now _ c.in-Some.ensures).room

pub returns-then-from-bucket : goal.returns-then-from-bucket
returns-then-from-bucket c = let high : c.buckets-buckets.result ≤ c.args.bucket = omega (arith, c.from.ensures) in
    search (view_past, c.in-Some.ensures)

pub invariant_of-headed : goal.invariant_of-headed
invariant_of-headed c = record { known = search (known, c.in-Some.ensures) }

pub bucket_sound-requires : goal.bucket_sound-requires
bucket_sound-requires c = let low : c.args.bucket < c.buckets-buckets.result = omega (arith, c.from.ensures) in
    search (view_there, c.in-Some.ensures)

pub returns-then-not-bucket_sound : goal.returns-then-not-bucket_sound
returns-then-not-bucket_sound c = let low : c.args.bucket < c.buckets-buckets.result = omega (arith, c.from.ensures) in
    search (view_bad, c.in-Some.ensures)

pub used_slots-requires : goal.used_slots-requires
used_slots-requires c = let low : c.args.bucket < c.buckets-buckets.result = omega (arith, c.from.ensures) in
    (search (view_there, c.in-Some.ensures), search split_sound)
