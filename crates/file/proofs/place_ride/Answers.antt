-- `file::place_ride` lends the bucket's region, where the ride lands behind those held.
use Rattle.layout.specs.Bytes.{Bytes}
use Rattle.file.specs.File.Write.{ride_lent}
use Rattle.bucket.specs.Region.{Whole}
use Rattle.std.proofs.Common.{rules, ℕ, get_or, Fits, w8}
use Rattle.file.proofs.place_ride.Goals as goal

pub returns : goal.returns
returns c =
    let fits : (k : ℕ) → Fits w8 (get_or c.args.file.now k 0) = search rules in
    let bytes : Bytes c.args.file.now = λ k. (fits k).fits in
    let paid : (k : ℕ) → Fits w8 (get_or c.args.payload.now k 0) = search rules in
    let whole : Whole (record { key = c.args.key; payload = c.args.payload.now }) =
    record { small = c.ranges.key.fits; long = search rules; bytes = λ k. (paid k).fits } in
    (search rules, search ride_lent)
