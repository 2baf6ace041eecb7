-- An accepted insert: the ride fits its own bucket, and in the file that is left header and regions are judged as they
-- were, whatever the other buckets are.
use Rattle.std.specs.Prelude.{ℕ, ◌≤◌, ◌<◌, ◌≡◌, refl, true, false, List}
use Rattle.std.proofs.Common.{sym, ap, subst, ◌∙◌, arith, ltb-false, leb-false}
use Rattle.layout.specs.Bytes.{Bytes, all_zero}
use Rattle.bucket.specs.Region.{Whole, count_of, slot_of}
use Rattle.bucket.specs.Region.Keep.{slot_most}
use Rattle.file.specs.File.{most_of, slots_of, state_of, buckets_of, header_sound, region_of, bucket_sound_in}
use Rattle.file.specs.File.{region_sound}
use Rattle.file.specs.File.{with_ride}
use Rattle.file.specs.File.Judge.{Known}
use Rattle.file.specs.File.Keeping.{Fitting, ride_header, ride_state, ride_most, ride_buckets, ride_known, ride_judged}
use Rattle.file.specs.File.Region.{region_bucket, region_past}
use Rattle.file.specs.declared.Header.{Header}
use Rattle.route.specs.Way.{own_of, held, full}
use Rattle.route.specs.Way.Own.{own_is, own_exists, held_is, full_is}
use Rattle.ride.specs.Call.{inserted}
use Rattle.ride.specs.Call.Replied.{inserted_is}

-- the own bucket's slot of a key that is not held, and its count where a slot is free
module _ (file : List ℕ) (key : ℕ) where
  pub own_fresh : held file key ≡ false
      → slot_of (region_of file (own_of file key)) key ≡ count_of (region_of file (own_of file key))
  own_fresh h = omega (
    arith,
    slot_most (region_of file (own_of file key)) key,
    ltb-false (slot_of (region_of file (own_of file key)) key) (count_of (region_of file (own_of file key)))
        (held_is file key (own_of file key) refl _ _ refl refl ∙ h),
  )

  pub own_room : full file key ≡ false → count_of (region_of file (own_of file key)) < slots_of file
  own_room h = leb-false _ _ (full_is file key (own_of file key) refl _ _ refl refl ∙ h)

module _ (file : List ℕ) (bytes : Bytes file) (header : header_sound file ≡ true) (key : ℕ) (payload : List ℕ)
    (whole : Whole (record { key = key; payload = payload })) (good : bucket_sound_in file (own_of file key) ≡ true)
    (free : held file key ≡ false) (room : full file key ≡ false) where
  pub fitting : Fitting file (record { key = key; payload = payload }) (own_of file key)
  fitting = record {
    bytes = bytes;
    header = header;
    whole = whole;
    own = sym (own_is file key _ refl);
    exists = own_exists file header key;
    good = good;
    fresh = own_fresh file key free;
    room = own_room file key room;
  }

  pub inserted_with : with_ride file (own_of file key) (record { key = key; payload = payload })
      ≡ inserted file key payload
  inserted_with = inserted_is file key (own_of file key) refl payload _ refl

  pub inserted_known : (figures : Header) → Known file figures → Known (inserted file key payload) figures
  inserted_known figures known = subst (λ (f : List ℕ). Known f figures) inserted_with
      (ride_known file _ (own_of file key) fitting figures known)

  pub inserted_header : header_sound (inserted file key payload) ≡ true
  inserted_header = ap header_sound (sym inserted_with) ∙ ride_header file _ (own_of file key) fitting

  pub inserted_state : state_of (inserted file key payload) ≡ state_of file
  inserted_state = ap state_of (sym inserted_with) ∙ ride_state file _ (own_of file key) fitting

  pub inserted_room : buckets_of file < most_of file
      → buckets_of (inserted file key payload) < most_of (inserted file key payload)
  inserted_room more = omega (
    arith,
    ap buckets_of inserted_with,
    ap (λ (f : List ℕ). most_of f) inserted_with,
    ride_buckets file _ (own_of file key) fitting,
    ride_most file _ (own_of file key) fitting,
  )

  inserted_judged : (b : ℕ) → b < most_of file → region_sound (inserted file key payload) b ≡ region_sound file b
  inserted_judged b l = ap (λ (f : List ℕ). region_sound f b) (sym inserted_with)
      ∙ ride_judged file _ (own_of file key) fitting b l

  inserted_buckets : buckets_of (inserted file key payload) ≡ buckets_of file
  inserted_buckets = ap buckets_of (sym inserted_with) ∙ ride_buckets file _ (own_of file key) fitting

  pub inserted_bucket : (b : ℕ) → b < buckets_of file → b < most_of file
      → bucket_sound_in (inserted file key payload) b ≡ bucket_sound_in file b
  inserted_bucket b l m = sym (region_bucket (inserted file key payload) b (omega (arith, inserted_buckets)))
      ∙ inserted_judged b m ∙ region_bucket file b l

  pub inserted_zero : (b : ℕ) → buckets_of file ≤ b → b < most_of file
      → all_zero (region_of (inserted file key payload) b) ≡ all_zero (region_of file b)
  inserted_zero b l m = sym (region_past (inserted file key payload) b (omega (arith, inserted_buckets)))
      ∙ inserted_judged b m ∙ region_past file b l
