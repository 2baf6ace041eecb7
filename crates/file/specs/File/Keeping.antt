-- What insert and split keep: a fresh ride in its own bucket leaves a sound file sound with just that ride more,
-- and a split leaves a sound file sound, with the rides of one bucket in two. Every region not written stays.
use Rattle.std.specs.Prelude.{ℕ, suc, ◌≤◌, ◌<◌, ◌≡◌, refl, cond, ◌&&◌, ltb, length}
use Rattle.std.proofs.Math.Path.{sym, ap}
use Rattle.std.proofs.Common.{ap₂, ◌∙◌, arith, lt-ltb}
use Rattle.std.proofs.Math.Bool.{true}
use mathlib.Core.List.{List, [], ◌∷◌, ◌++◌}
use Rattle.std.proofs.Math.Logic.{by_cases}
use Rattle.std.proofs.Math.Decide.{ℕ_discrete, dec_lt}
use Rattle.std.proofs.Math.ListN.{length-append}
use Rattle.address.specs.Limits.{first_buckets, most_level, most_buckets}
use Rattle.address.specs.declared.Image.{Image}
use Rattle.address.specs.Rules.{Formed, address, level, buckets, keeps, splitting, newborn, grown}
use Rattle.address.specs.Rules.Cases.{level_high}
use Rattle.address.specs.Rules.Hash.{span_pos}
use Rattle.address.specs.Rules.Grow.{grown_formed, grown_buckets}
use Rattle.address.proofs.Rules.Grow.{newborn_next, level_old, level_newborn, level_other}
use Rattle.layout.specs.Bytes.{Bytes, all_below, all_zero}
use Rattle.layout.specs.Bytes.Tests.{and_left, and_right, and_both, all_at, all_of}
use Rattle.bucket.specs.Region.{Ride, Whole, slot_at, count_of, rides_of, keys_of, distinct, slot_of, bucket_sound}
use Rattle.bucket.specs.Region.{encode}
use Rattle.bucket.specs.Region.{kept}
use Rattle.bucket.specs.Region.Rides.{AllWhole, whole_append, kept_whole, kept_lengths}
use Rattle.bucket.specs.Region.Sound.{count_encode, rides_encode}
use Rattle.bucket.specs.Region.Encode.{length_encode}
use Rattle.bucket.specs.Region.Held.{encode_bytes}
use Rattle.bucket.specs.Region.Keep.{bucket_placed, bucket_divided, bucket_alike}
use Rattle.file.specs.File.{most_of, slots_of, state_of, buckets_of, header_sound, region_of, bucket_sound_in}
use Rattle.file.specs.File.{region_sound, file_sound, with_region, with_ride, with_state, staying, divided, split}
use Rattle.file.specs.declared.Header.{Header}
use Rattle.file.specs.File.Judge.{Ranges, Known, header_ranges, buckets_of_lem, existing, state_back, state_small}
use Rattle.file.specs.File.Region.{region_bucket, region_past}
use Rattle.file.specs.File.Write.{Shown, shown, with_slots, with_state_lem, with_sound, with_most, with_here}
use Rattle.file.specs.File.Write.{with_capacity, with_other, with_bytes, state_slots, state_most}
use Rattle.file.specs.File.Write.{state_back_again, state_header, state_region, state_bytes}
use Rattle.file.specs.File.Split.{moves, split_done}

-- a sound file's header and regions
pub sound_header : (file : List ℕ) → file_sound file ≡ true → header_sound file ≡ true
unfolding file_sound
sound_header file h = and_left (header_sound file) _ h

pub sound_region : (file : List ℕ) → file_sound file ≡ true → (a : ℕ) → a < most_of file → region_sound file a ≡ true
unfolding file_sound
sound_region file h a l = all_at (region_sound file) (most_of file) a (and_right (header_sound file) _ h) l

-- in a sound file every bucket is sound
pub sound_bucket : (file : List ℕ) → file_sound file ≡ true → (a : ℕ) → a < buckets_of file
    → bucket_sound_in file a ≡ true
sound_bucket file h a l = sym (region_bucket file a l)
    ∙ sound_region file h a (omega (arith, (header_ranges file (sound_header file h)).few))

-- and a split is done where there is room for one more
pub sound_split : (file : List ℕ) → file_sound file ≡ true → buckets_of file < most_of file → record {
  answer = 0;
  old = splitting (state_of file);
  new = newborn first_buckets (state_of file);
  file = divided file;
} ≡ split file
sound_split file sound more = split_done file (sound_header file sound) more _ _ refl refl
    (sound_bucket file sound (splitting (state_of file))
    (omega (arith, buckets_of_lem file, seen.formed, span_pos first_buckets (omega arith) (state_of file).level)))
    (sym (region_past file (newborn first_buckets (state_of file)) (omega (arith, next)))
    ∙ sound_region file sound (newborn first_buckets (state_of file)) (omega (arith, more, next)))
    _ refl
  where
    seen : Ranges file
    seen = header_ranges file (sound_header file sound)

    next : newborn first_buckets (state_of file) ≡ buckets_of file
    next = newborn_next first_buckets (omega arith) (state_of file) seen.formed ∙ sym (existing file)

-- a region is judged by the state, the slots and its own bytes
judged_alike : (file other : List ℕ) (a : ℕ) → state_of other ≡ state_of file → slots_of other ≡ slots_of file
    → region_of other a ≡ region_of file a
    → region_sound other a ≡ region_sound file a
unfolding region_sound bucket_sound_in buckets_of
judged_alike file other a es eS er =
    ap₂ (λ (s : Image) (S : ℕ). cond (ltb a (buckets first_buckets s))
    (bucket_sound first_buckets s S a (region_of other a)) (all_zero (region_of other a))) es eS
    ∙ ap (λ (r : List ℕ). cond (ltb a (buckets first_buckets (state_of file)))
    (bucket_sound first_buckets (state_of file) (slots_of file) a r) (all_zero r)) er

judged_bucket : (other : List ℕ) (a S : ℕ) (s : Image) (region : List ℕ) → state_of other ≡ s → slots_of other ≡ S
    → region_of other a ≡ region
    → a < buckets first_buckets s → bucket_sound first_buckets s S a region ≡ true → region_sound other a ≡ true
unfolding region_sound bucket_sound_in buckets_of
judged_bucket other a S s region es eS er exists h =
    ap₂ (λ (t : Image) (T : ℕ). cond (ltb a (buckets first_buckets t))
    (bucket_sound first_buckets t T a (region_of other a)) (all_zero (region_of other a))) es eS
    ∙ ap (λ (r : List ℕ). cond (ltb a (buckets first_buckets s)) (bucket_sound first_buckets s S a r) (all_zero r)) er
    ∙ rw (lt-ltb a (buckets first_buckets s) exists) h

-- a ride that a bucket can take: it is the ride's own and sound, the key is not held there, and a slot is free
pub record Fitting (file : List ℕ) (ride : Ride) (a : ℕ) : Type 0 where
  pub bytes : Bytes file
  pub header : header_sound file ≡ true
  pub whole : Whole ride
  pub own : address first_buckets (state_of file) ride.key ≡ a
  pub exists : a < buckets_of file
  pub good : bucket_sound_in file a ≡ true
  pub fresh : slot_of (region_of file a) ride.key ≡ count_of (region_of file a)
  pub room : count_of (region_of file a) < slots_of file

module _ (file : List ℕ) (ride : Ride) (a : ℕ) (fits : Fitting file ride a) where
  seen : Ranges file
  seen = header_ranges file fits.header

  bucket : Shown file a
  bucket = shown file seen fits.bytes a fits.exists fits.good

  there : a < most_of file
  there = bucket.there

  rides : List Ride
  rides = rides_of (region_of file a) ++ (ride ∷ [])

  all : AllWhole rides
  unfolding rides
  all = whole_append (rides_of (region_of file a)) ride bucket.whole fits.whole

  few : length rides ≤ slots_of file
  unfolding rides
  few = omega (arith, length-append (rides_of (region_of file a)) (ride ∷ []), bucket.count, fits.room)

  region : List ℕ
  region = encode (slots_of file) (level first_buckets (state_of file) a) rides

  long : length region ≡ slot_at (slots_of file)
  unfolding region
  long = length_encode (slots_of file) (level first_buckets (state_of file) a) rides all few

  here_sound : bucket_sound first_buckets (state_of file) (slots_of file) a region ≡ true
  unfolding region rides bucket_sound_in
  here_sound = bucket_placed first_buckets (state_of file) (slots_of file) a (region_of file a) bucket.bytes
      bucket.long (omega (arith, seen.figured.few_slots))
      fits.good ride fits.whole fits.own fits.fresh fits.room

  within_state : a < buckets first_buckets (state_of file)
  unfolding buckets_of
  within_state = fits.exists

  -- every region is judged as before
  pub ride_judged : (b : ℕ) → b < most_of file → region_sound (with_ride file a ride) b ≡ region_sound file b
  unfolding with_ride region rides
  ride_judged b within = by_cases (ℕ_discrete b a)
      (λ e. ap (region_sound (with_region file a region)) e ∙ here ∙ sym (ap (region_sound file) e ∙ was))
      (λ other. judged_alike file (with_region file a region) b (with_state_lem file seen a there region long)
      (with_slots file seen a there region long)
      (with_other file seen a there region long b within other))
    where
      here : region_sound (with_region file a region) a ≡ true
      here = judged_bucket (with_region file a region) a (slots_of file) (state_of file) region
          (with_state_lem file seen a there region long) (with_slots file seen a there region long)
          (with_here file seen a there region long) within_state here_sound

      was : region_sound file a ≡ true
      was = region_bucket file a fits.exists ∙ fits.good

  -- the header is sound as before, with the same figures
  pub ride_header : header_sound (with_ride file a ride) ≡ true
  unfolding with_ride region rides
  ride_header = with_sound file seen a there region long ∙ fits.header

  pub ride_state : state_of (with_ride file a ride) ≡ state_of file
  unfolding with_ride region rides
  ride_state = with_state_lem file seen a there region long

  pub ride_most : most_of (with_ride file a ride) ≡ most_of file
  unfolding with_ride region rides
  ride_most = with_most file seen a there region long

  pub ride_buckets : buckets_of (with_ride file a ride) ≡ buckets_of file
  ride_buckets = existing (with_ride file a ride) ∙ ap (buckets first_buckets) ride_state ∙ sym (existing file)

  pub ride_known : (header : Header) → Known file header → Known (with_ride file a ride) header
  unfolding with_ride region rides
  ride_known header known = record {
    sound = ride_header;
    state = known.state ∙ sym ride_state;
    capacity = known.capacity ∙ sym (with_capacity file seen a there region long);
    slots = known.slots ∙ sym (with_slots file seen a there region long);
    most = known.most ∙ sym ride_most;
    ranges = header_ranges (with_ride file a ride) ride_header;
    room = known.room;
  }

  -- so a sound file stays sound
  pub ride_kept : file_sound file ≡ true → file_sound (with_ride file a ride) ≡ true
  unfolding file_sound
  ride_kept sound = and_both _ _ ride_header
      (all_of (region_sound (with_ride file a ride)) (most_of (with_ride file a ride))
      (λ b l. ride_judged b (omega (arith, l, ride_most)) ∙ sound_region file sound b (omega (arith, l, ride_most))))

  -- what is held then: what was, and the ride behind it; every other region as it was
  pub ride_held : rides_of (region_of (with_ride file a ride) a) ≡ rides_of (region_of file a) ++ (ride ∷ [])
  unfolding with_ride region rides
  ride_held = ap rides_of (with_here file seen a there region long)
      ∙ rides_encode (slots_of file) (level first_buckets (state_of file) a) rides all few
      (omega (arith, seen.figured.few_slots))

  -- so many records: one more than before
  pub count_held : count_of (region_of (with_ride file a ride) a) ≡ suc (count_of (region_of file a))
  unfolding with_ride region rides
  count_held = ap count_of (with_here file seen a there region long)
      ∙ count_encode (slots_of file) (level first_buckets (state_of file) a) rides all few
      (omega (arith, seen.figured.few_slots))
      ∙ omega (arith, length-append (rides_of (region_of file a)) (ride ∷ []), bucket.count)

  pub others_held : (b : ℕ) → b < most_of file → (b ≡ a → ⊥) → region_of (with_ride file a ride) b ≡ region_of file b
  unfolding with_ride region rides
  others_held b l other = with_other file seen a there region long b l other

  -- bytes stay bytes
  pub ride_bytes : Bytes (with_ride file a ride)
  unfolding with_ride region rides
  ride_bytes = with_bytes file seen a there region long
      (encode_bytes (slots_of file) (level first_buckets (state_of file) a) rides
      (omega (arith, level_high first_buckets (state_of file) a, seen.low)) all) fits.bytes

-- ---- split

module _ (file : List ℕ) (bytes : Bytes file) (sound : file_sound file ≡ true)
    (more : buckets_of file < most_of file) where
  ranges : Ranges file
  ranges = header_ranges file (sound_header file sound)

  few_slots : slots_of file < 65536
  few_slots = omega (arith, ranges.figured.few_slots)

  old_there : splitting (state_of file) < buckets_of file
  old_there = omega
      (arith, buckets_of_lem file, ranges.formed, span_pos first_buckets (omega arith) (state_of file).level)

  new_there : newborn first_buckets (state_of file) ≡ buckets_of file
  unfolding buckets_of
  new_there = newborn_next first_buckets (omega arith) (state_of file) ranges.formed

  next_formed : Formed first_buckets (grown first_buckets (state_of file))
  next_formed = grown_formed first_buckets (omega arith) (state_of file) ranges.formed

  next_buckets : buckets first_buckets (grown first_buckets (state_of file)) ≡ suc (buckets_of file)
  unfolding buckets_of
  next_buckets = grown_buckets first_buckets (omega arith) (state_of file) ranges.formed

  source : List ℕ
  source = region_of file (splitting (state_of file))

  old : Shown file (splitting (state_of file))
  old = shown file ranges bytes (splitting (state_of file)) old_there
      (sound_bucket file sound (splitting (state_of file)) old_there)

  source_whole : AllWhole (rides_of source)
  unfolding source
  source_whole = old.whole

  source_few : length (rides_of source) ≤ slots_of file
  unfolding source
  source_few = omega (arith, old.count, old.parts.few)

  source_single : distinct (keys_of (rides_of source)) ≡ true
  unfolding source
  source_single = old.parts.single

  half : ℕ → List ℕ
  half a = encode (slots_of file) (suc (state_of file).level)
      (kept (keeps first_buckets a (suc (state_of file).level)) (rides_of source))

  half_long : (a : ℕ) → length (half a) ≡ slot_at (slots_of file)
  unfolding half
  half_long a = length_encode (slots_of file) (suc (state_of file).level)
      (kept (keeps first_buckets a (suc (state_of file).level)) (rides_of source))
      (kept_whole (keeps first_buckets a (suc (state_of file).level)) (rides_of source) source_whole)
      (omega (arith, kept_lengths (keeps first_buckets a (suc (state_of file).level)) (rides_of source), source_few))

  half_sound : (a : ℕ) → a < suc (buckets_of file)
      → level first_buckets (grown first_buckets (state_of file)) a ≡ suc (state_of file).level
      → bucket_sound first_buckets (grown first_buckets (state_of file)) (slots_of file) a (half a) ≡ true
  unfolding half
  half_sound a l e = bucket_divided first_buckets (omega arith) (grown first_buckets (state_of file)) next_formed
      (slots_of file) a (suc (state_of file).level)
      (omega (arith, next_buckets)) e (rides_of source) source_whole source_few few_slots source_single

  -- the file with the first half, with both, and with the next state
  one : List ℕ
  one = with_region file (splitting (state_of file)) (half (splitting (state_of file)))

  two : List ℕ
  two = with_region one (newborn first_buckets (state_of file)) (half (newborn first_buckets (state_of file)))

  old_in : splitting (state_of file) < most_of file
  old_in = omega (arith, old_there)

  one_slots : slots_of one ≡ slots_of file
  unfolding one
  one_slots = with_slots file ranges (splitting (state_of file)) old_in (half (splitting (state_of file)))
      (half_long (splitting (state_of file)))

  one_most : most_of one ≡ most_of file
  unfolding one
  one_most = with_most file ranges (splitting (state_of file)) old_in (half (splitting (state_of file)))
      (half_long (splitting (state_of file)))

  one_sound : header_sound one ≡ true
  unfolding one
  one_sound = with_sound file ranges (splitting (state_of file)) old_in (half (splitting (state_of file)))
      (half_long (splitting (state_of file))) ∙ sound_header file sound

  new_in : newborn first_buckets (state_of file) < most_of one
  new_in = omega (arith, new_there, one_most)

  new_long : length (half (newborn first_buckets (state_of file))) ≡ slot_at (slots_of one)
  new_long = half_long (newborn first_buckets (state_of file)) ∙ ap slot_at (sym one_slots)

  two_slots : slots_of two ≡ slots_of file
  unfolding two
  two_slots = with_slots one (header_ranges one one_sound) (newborn first_buckets (state_of file)) new_in
      (half (newborn first_buckets (state_of file))) new_long ∙ one_slots

  two_most : most_of two ≡ most_of file
  unfolding two
  two_most = with_most one (header_ranges one one_sound) (newborn first_buckets (state_of file)) new_in
      (half (newborn first_buckets (state_of file))) new_long ∙ one_most

  two_sound : header_sound two ≡ true
  unfolding two
  two_sound = with_sound one (header_ranges one one_sound) (newborn first_buckets (state_of file)) new_in
      (half (newborn first_buckets (state_of file))) new_long ∙ one_sound

  two_new : region_of two (newborn first_buckets (state_of file)) ≡ half (newborn first_buckets (state_of file))
  unfolding two
  two_new = with_here one (header_ranges one one_sound) (newborn first_buckets (state_of file)) new_in
      (half (newborn first_buckets (state_of file))) new_long

  two_rest : (b : ℕ) → b < most_of file → (b ≡ newborn first_buckets (state_of file) → ⊥)
      → region_of two b ≡ region_of one b
  unfolding two
  two_rest b l other = with_other one (header_ranges one one_sound) (newborn first_buckets (state_of file)) new_in
      (half (newborn first_buckets (state_of file))) new_long b (omega (arith, one_most)) other

  two_old : region_of two (splitting (state_of file)) ≡ half (splitting (state_of file))
  unfolding one
  two_old = two_rest (splitting (state_of file)) old_in (λ e. omega (arith, e, old_there, new_there))
      ∙ with_here file ranges (splitting (state_of file)) old_in (half (splitting (state_of file)))
      (half_long (splitting (state_of file)))

  two_other : (b : ℕ) → b < most_of file → (b ≡ newborn first_buckets (state_of file) → ⊥)
      → (b ≡ splitting (state_of file) → ⊥) → region_of two b ≡ region_of file b
  unfolding one
  two_other b l other apart = two_rest b l other
      ∙ with_other file ranges (splitting (state_of file)) old_in (half (splitting (state_of file)))
      (half_long (splitting (state_of file))) b l apart

  next_small : ((grown first_buckets (state_of file)).level ≤ most_level)
      × ((grown first_buckets (state_of file)).pointer ≤ most_buckets)
  next_small = state_small (grown first_buckets (state_of file)) (most_of file) ranges.figured.few_buckets next_formed
      (omega (arith, next_buckets))

  headed : 16 ≤ length two
  headed = omega (arith, (header_ranges two two_sound).figured.whole)

  low : (grown first_buckets (state_of file)).pointer < 65536
  low = omega (arith, next_small)

  three : List ℕ
  three = with_state two (grown first_buckets (state_of file))

  three_is : divided file ≡ three
  unfolding divided three two one half source staying
  three_is = ap
      (λ (l : List Ride). with_state
      (with_region one (newborn first_buckets (state_of file)) (encode (slots_of file) (suc (state_of file).level) l))
      (grown first_buckets (state_of file)))
      (sym (moves (state_of file) ranges.formed (rides_of source) old.parts.belong))

  three_state : state_of three ≡ grown first_buckets (state_of file)
  unfolding three
  three_state = state_back_again two (grown first_buckets (state_of file)) headed low

  three_slots : slots_of three ≡ slots_of file
  unfolding three
  three_slots = state_slots two (grown first_buckets (state_of file)) headed low ∙ two_slots

  three_most : most_of three ≡ most_of file
  unfolding three
  three_most = state_most two (grown first_buckets (state_of file)) headed low ∙ two_most

  three_header : header_sound three ≡ true
  unfolding three
  three_header = state_header two (grown first_buckets (state_of file)) headed low two_sound
      (state_back (grown first_buckets (state_of file)) (most_of two) next_formed
      (omega (arith, next_buckets, two_most)))

  three_region : (b : ℕ) → b < most_of file → region_of three b ≡ region_of two b
  unfolding three
  three_region b l = state_region two (grown first_buckets (state_of file)) headed low (header_ranges two two_sound) b
      (omega (arith, two_most))

  judged_half : (b : ℕ) → b < suc (buckets_of file) → b < most_of file
      → level first_buckets (grown first_buckets (state_of file)) b ≡ suc (state_of file).level
      → region_of two b ≡ half b → region_sound three b ≡ true
  judged_half b l within e is = judged_bucket three b (slots_of file) (grown first_buckets (state_of file)) (half b)
      three_state three_slots (three_region b within ∙ is)
      (omega (arith, next_buckets)) (half_sound b l e)

  in_state : (b : ℕ) → b < buckets_of file → b < buckets first_buckets (state_of file)
  unfolding buckets_of
  in_state b l = l

  judged_in : (b : ℕ) → b < buckets_of file
      → bucket_sound first_buckets (state_of file) (slots_of file) b (region_of file b) ≡ true
  unfolding bucket_sound_in
  judged_in b l = sound_bucket file sound b l

  beyond : buckets_of three ≡ suc (buckets_of file)
  unfolding buckets_of
  beyond = ap (buckets first_buckets) three_state ∙ next_buckets

  judged_other : (b : ℕ) → b < most_of file → (b ≡ newborn first_buckets (state_of file) → ⊥)
      → (b ≡ splitting (state_of file) → ⊥) → region_sound three b ≡ true
  judged_other b within other apart = by_cases (dec_lt b (buckets_of file)) bucket past
    where
      same : region_of three b ≡ region_of file b
      same = three_region b within ∙ two_other b within other apart

      bucket : b < buckets_of file → region_sound three b ≡ true
      bucket l = judged_bucket three b (slots_of file) (grown first_buckets (state_of file)) (region_of file b)
          three_state
          three_slots same (omega (arith, next_buckets, l))
          (bucket_alike first_buckets (omega arith) (state_of file) (grown first_buckets (state_of file)) ranges.formed
          next_formed (slots_of file) b (in_state b l) (omega (arith, next_buckets, l))
          (level_other first_buckets (omega arith) (state_of file) ranges.formed b (in_state b l) apart)
          (region_of file b)
          ∙ judged_in b l)

      past : (b < buckets_of file → ⊥) → region_sound three b ≡ true
      past not_there = region_past three b (omega (arith, beyond, not_there, other, new_there)) ∙ ap all_zero same
          ∙ sym (region_past file b (omega (arith, not_there))) ∙ sound_region file sound b within

  judged : (b : ℕ) → b < most_of file → region_sound three b ≡ true
  judged b within = by_cases (ℕ_discrete b (newborn first_buckets (state_of file)))
      (λ e. ap (region_sound three) e
      ∙ judged_half (newborn first_buckets (state_of file)) (omega (arith, new_there))
      (omega (arith, new_in, one_most))
      (level_newborn first_buckets (omega arith) (state_of file) ranges.formed) two_new)
      (λ other. by_cases (ℕ_discrete b (splitting (state_of file)))
      (λ e. ap (region_sound three) e
      ∙ judged_half (splitting (state_of file)) (omega (arith, old_there)) old_in
      (level_old first_buckets (omega arith) (state_of file) ranges.formed) two_old)
      (λ apart. judged_other b within other apart))

  pub split_kept : file_sound (divided file) ≡ true
  unfolding file_sound
  split_kept = ap (λ (l : List ℕ). header_sound l && all_below (region_sound l) (most_of l)) three_is
      ∙ and_both _ _ three_header
      (all_of (region_sound three) (most_of three) (λ b l. judged b (omega (arith, l, three_most))))

  pub split_state : state_of (divided file) ≡ grown first_buckets (state_of file)
  split_state = ap state_of three_is ∙ three_state

  -- bytes stay bytes
  half_bytes : (a : ℕ) → Bytes (half a)
  unfolding half
  half_bytes a = encode_bytes (slots_of file) (suc (state_of file).level)
      (kept (keeps first_buckets a (suc (state_of file).level)) (rides_of source)) (omega (arith, ranges.low))
      (kept_whole (keeps first_buckets a (suc (state_of file).level)) (rides_of source) source_whole)

  one_bytes : Bytes one
  unfolding one
  one_bytes = with_bytes file ranges (splitting (state_of file)) old_in (half (splitting (state_of file)))
      (half_long (splitting (state_of file))) (half_bytes (splitting (state_of file))) bytes

  two_bytes : Bytes two
  unfolding two
  two_bytes = with_bytes one (header_ranges one one_sound) (newborn first_buckets (state_of file)) new_in
      (half (newborn first_buckets (state_of file))) new_long
      (half_bytes (newborn first_buckets (state_of file))) one_bytes

  three_bytes : Bytes three
  unfolding three
  three_bytes = state_bytes two (grown first_buckets (state_of file)) headed low (omega (arith, next_small)) two_bytes

  pub split_bytes : Bytes (divided file)
  split_bytes = rw three_is three_bytes

  -- what the two buckets then hold, and that every other region stays
  half_rides : (a : ℕ) → rides_of (half a) ≡ kept (keeps first_buckets a (suc (state_of file).level)) (rides_of source)
  unfolding half
  half_rides a = rides_encode (slots_of file) (suc (state_of file).level)
      (kept (keeps first_buckets a (suc (state_of file).level)) (rides_of source))
      (kept_whole (keeps first_buckets a (suc (state_of file).level)) (rides_of source) source_whole)
      (omega (arith, kept_lengths (keeps first_buckets a (suc (state_of file).level)) (rides_of source), source_few))
      few_slots

  pub split_old : rides_of (region_of (divided file) (splitting (state_of file)))
      ≡ kept (keeps first_buckets (splitting (state_of file)) (suc (state_of file).level))
      (rides_of (region_of file (splitting (state_of file))))
  unfolding source
  split_old = ap (λ (l : List ℕ). rides_of (region_of l (splitting (state_of file)))) three_is
      ∙ ap rides_of (three_region (splitting (state_of file)) old_in ∙ two_old) ∙ half_rides (splitting (state_of file))

  pub split_new : rides_of (region_of (divided file) (newborn first_buckets (state_of file)))
      ≡ kept (keeps first_buckets (newborn first_buckets (state_of file)) (suc (state_of file).level))
      (rides_of (region_of file (splitting (state_of file))))
  unfolding source
  split_new = ap (λ (l : List ℕ). rides_of (region_of l (newborn first_buckets (state_of file)))) three_is
      ∙ ap rides_of (three_region (newborn first_buckets (state_of file)) (omega (arith, new_in, one_most)) ∙ two_new)
      ∙ half_rides (newborn first_buckets (state_of file))

  pub split_other : (b : ℕ) → b < most_of file → (b ≡ newborn first_buckets (state_of file) → ⊥)
      → (b ≡ splitting (state_of file) → ⊥) → region_of (divided file) b ≡ region_of file b
  split_other b within other apart = ap (λ (l : List ℕ). region_of l b) three_is ∙ three_region b within
      ∙ two_other b within other apart
