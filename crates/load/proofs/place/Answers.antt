-- `load::place`: what is placed keeps the header, the room and the regions of a split.
use Rattle.std.proofs.Common.{rules, ℕ, get_or, Fits, w8}
use Rattle.layout.specs.Bytes.{Bytes}
use Rattle.bucket.specs.Region.{Whole}
use Rattle.load.specs.Load.Own.{kept_placed}
use Rattle.load.proofs.place.Goals as goal

pub returns : goal.returns
returns c =
    let fits : (k : ℕ) → Fits w8 (get_or c.args.file.now k 0) = search rules in
    let bytes : Bytes c.args.file.now = λ k. (fits k).fits in
    let paid : (k : ℕ) → Fits w8 (get_or c.args.payload.now k 0) = search rules in
    let whole : Whole (record { key = c.args.key; payload = c.args.payload.now }) =
    record { small = c.ranges.key.fits; long = search rules; bytes = λ k. (paid k).fits } in
    (c.place.ensures.0, kept_placed c.requires.0 c.requires.1 c.requires.2 _ bytes whole c.place.ensures.1)
