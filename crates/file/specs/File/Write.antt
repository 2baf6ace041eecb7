-- What a write leaves: a region written is read there, every other region and the header are as they were; a state
-- written is read there, and every region is as it was.
use Prim.Native.Nat.{ℕ, zero, suc, ◌+◌, ◌*◌, ◌-◌, ◌≤◌, ◌<◌, min}
use Rattle.std.specs.Prelude.{◌≡◌, true, ◌&&◌, eqb, take, drop}
use Rattle.std.proofs.Common.{sym, ap₂, ◌∙◌, zero-add, length-drop}
use Rattle.std.proofs.Math.Path.{ap}
use mathlib.Core.List.{List, [], ◌∷◌, ◌++◌, append-nil}
use Rattle.std.proofs.Math.Logic.{by_cases}
use Rattle.std.proofs.Math.Decide.{dec_lt}
use native.Mathlib.Omega.{arith}
use Rattle.std.proofs.Math.Dec.{leb}
use Rattle.std.proofs.Math.ListN.{length, get_or, length-take}
use Rattle.address.specs.Limits.{first_buckets}
use Rattle.address.specs.declared.Image.{Image}
use Rattle.layout.specs.Bytes.{Bytes, le_at, le_bytes, all_zero, edit, part}
use Rattle.layout.specs.Bytes.Apart.{lent}
use Rattle.layout.specs.Bytes.Edit.{length_edit, edit_before, edit_in, edit_after, part_edit, part_before, part_after}
use Rattle.layout.specs.Bytes.Edit.{part_at, part_is, same_bytes, edit_bytes, part_bytes}
use Rattle.layout.specs.Bytes.Tests.{and_left, and_both}
use Rattle.layout.specs.Bytes.Numbers.{le_same, le_back, length_le_bytes, le_bytes_bytes}
use Rattle.address.specs.Rules.{address, level}
use Rattle.bucket.specs.Region.{Ride, Whole, slot_at, count_of, rides_of, slot_bytes, encode}
use Rattle.bucket.specs.Region.Rides.{AllWhole}
use Rattle.bucket.specs.Region.Sound.{Parts, bucket_parts, sound_count, sound_whole, sound_encode}
use Rattle.bucket.specs.Region.Encode.{encode_more}
use Rattle.file.specs.declared.Header.{Header}
use Rattle.file.specs.File.{capacity_of, most_of, slots_of, state_of, figures_fit, buckets_of, state_fits, first_zero}
use Rattle.file.specs.File.{figures_of, ranges_fit, header_sound, start_of, region_of, bucket_sound_in, with_region}
use Rattle.file.specs.File.{fixed_bytes, with_ride, with_state}
use Rattle.file.specs.File.Judge.{Ranges, Known, header_parts, header_back}
use Rattle.file.specs.File.Region.{region_is, region_fits, region_apart, length_region, known_cut, known_long}

-- two files that agree in the first 16 bytes and in length have the same header
module _ (file other : List ℕ) (long : length other ≡ length file)
    (same : (k : ℕ) → k < 16 → get_or other k 0 ≡ get_or file k 0) where
  number : (at : ℕ) → at + 2 ≤ 16 → le_at 2 other at ≡ le_at 2 file at
  number at h = le_same 2 other file at at (λ k l. same (at + k) (omega arith))

  pub header_slots : slots_of other ≡ slots_of file
  header_slots = same 8 (omega arith)

  pub header_capacity : capacity_of other ≡ capacity_of file
  header_capacity = same 3 (omega arith)

  pub header_most : most_of other ≡ most_of file
  header_most = number 6 (omega arith)

  pub header_state : state_of other ≡ state_of file
  unfolding state_of
  header_state = λ i. record { level = same 2 (omega arith) i; pointer = number 4 (omega arith) i }

  pub header_same : header_sound other ≡ header_sound file
  unfolding header_sound
  header_same = λ i. leb 16 (long i) && fixed i && ranges_fit (long i) (figures i)
    where
      wide : (at n : ℕ) (xs : List ℕ) → length (part at n xs) ≡ min n (length xs - at)
      wide at n xs = ap length (part_is at n xs) ∙ length-take n (drop at xs) ∙ ap (min n) (length-drop at xs)

      behind : (at n : ℕ) → at + n ≤ 16 → part at n other ≡ part at n file
      behind at n h = same_bytes (part at n other) (part at n file)
          (wide at n other ∙ ap (λ (l : ℕ). min n (l - at)) long ∙ sym (wide at n file))
          (λ k l. part_at at n other k (omega (arith, wide at n other))
          ∙ same (at + k) (omega (arith, wide at n other))
          ∙ sym (part_at at n file k (omega (arith, wide at n other))))

      fixed : fixed_bytes other ≡ fixed_bytes file
      fixed = ap₂ ◌&&◌ (ap₂ (λ (x y : ℕ). eqb x 76 && eqb y 70) (same 0 (omega arith)) (same 1 (omega arith)))
          (ap all_zero (behind first_zero (16 - first_zero) (omega arith)))

      figures : figures_of other ≡ figures_of file
      figures = λ i. record {
        state = header_state i;
        capacity = header_capacity i;
        slots = header_slots i;
        most = header_most i;
      }

-- a region, written
module _ (file : List ℕ) (seen : Ranges file) (a : ℕ) (there : a < most_of file) (region : List ℕ)
    (whole : length region ≡ slot_at (slots_of file)) where
  fits : start_of (slots_of file) a + length region ≤ length file
  fits = omega (arith, region_fits file seen a there)

  with_edit : (P : List ℕ → Type 0) → P (edit (start_of (slots_of file) a) region file) → P (with_region file a region)
  unfolding with_region
  with_edit P p = p

  pub with_length : length (with_region file a region) ≡ length file
  unfolding with_region
  with_length = length_edit (start_of (slots_of file) a) region file fits

  pub with_header : (k : ℕ) → k < 16 → get_or (with_region file a region) k 0 ≡ get_or file k 0
  unfolding with_region
  with_header k h = edit_before (start_of (slots_of file) a) region file fits k (omega arith)

  pub with_slots : slots_of (with_region file a region) ≡ slots_of file
  with_slots = header_slots file (with_region file a region) with_length with_header

  pub with_here : region_of (with_region file a region) a ≡ region
  with_here =
      region_is (with_region file a region) a
      ∙ ap (λ (S : ℕ). part (start_of S a) (slot_at S) (with_region file a region)) with_slots
      ∙ ap (λ (n : ℕ). part (start_of (slots_of file) a) n (with_region file a region)) (sym whole)
      ∙ written
    where
      written : part (start_of (slots_of file) a) (length region) (with_region file a region) ≡ region
      written = with_edit (λ (l : List ℕ). part (start_of (slots_of file) a) (length region) l ≡ region)
          (part_edit (start_of (slots_of file) a) region file fits)

  pub with_other : (b : ℕ) → b < most_of file → (b ≡ a → ⊥) → region_of (with_region file a region) b ≡ region_of file b
  with_other b h other =
      region_is (with_region file a region) b
      ∙ ap (λ (S : ℕ). part (start_of S b) (slot_at S) (with_region file a region)) with_slots
      ∙ by_cases (dec_lt b a)
      (λ l. with_edit
      (λ (l : List ℕ). part (start_of (slots_of file) b) (slot_at (slots_of file)) l
      ≡ part (start_of (slots_of file) b) (slot_at (slots_of file)) file)
      (part_before (start_of (slots_of file) a) region file fits (start_of (slots_of file) b) (slot_at (slots_of file))
      (region_apart (slots_of file) b a l)))
      (λ l. with_edit
      (λ (l : List ℕ). part (start_of (slots_of file) b) (slot_at (slots_of file)) l
      ≡ part (start_of (slots_of file) b) (slot_at (slots_of file)) file)
      (part_after (start_of (slots_of file) a) region file fits (start_of (slots_of file) b) (slot_at (slots_of file))
      (omega (arith, region_apart (slots_of file) a b (omega (arith, other)))) (region_fits file seen b h)))
      ∙ sym (region_is file b)

  -- so its header is sound if it was, and in the same state
  pub with_sound : header_sound (with_region file a region) ≡ header_sound file
  with_sound = header_same file (with_region file a region) with_length with_header

  pub with_state_lem : state_of (with_region file a region) ≡ state_of file
  with_state_lem = header_state file (with_region file a region) with_length with_header

  pub with_most : most_of (with_region file a region) ≡ most_of file
  with_most = header_most file (with_region file a region) with_length with_header

  pub with_capacity : capacity_of (with_region file a region) ≡ capacity_of file
  with_capacity = header_capacity file (with_region file a region) with_length with_header

  pub with_bytes : Bytes region → Bytes file → Bytes (with_region file a region)
  unfolding with_region
  with_bytes br bf = edit_bytes (start_of (slots_of file) a) region file fits br bf

-- the part that a callee was lent and gave back is a region written
pub with_lent : (file region : List ℕ) (a at n : ℕ) → at ≡ start_of (slots_of file) a → n ≡ length region
    → take at file ++ (region ++ drop n (drop at file)) ≡ with_region file a region
unfolding with_region
with_lent file region a at n ea en = lent at n region file en ∙ ap (λ (p : ℕ). edit p region file) ea

-- ---- a state, written

pub state_written : (file : List ℕ) (state : Image) {one two : List ℕ} → one ≡ edit 2 (state.level ∷ []) file
    → two ≡ edit 4 (le_bytes 2 state.pointer) one
    → two ≡ with_state file state
unfolding with_state
state_written file state e f = f ∙ ap (edit 4 (le_bytes 2 state.pointer)) e

-- level and pointer are read back, and nothing else of the file is touched
module _ (file : List ℕ) (state : Image) (headed : 16 ≤ length file) (low : state.pointer < 65536) where
  levelled : List ℕ
  levelled = edit 2 (state.level ∷ []) file

  levelled_long : length levelled ≡ length file
  unfolding levelled
  levelled_long = length_edit 2 (state.level ∷ []) file (omega arith)

  fits_pointer : 4 + length (le_bytes 2 state.pointer) ≤ length levelled
  fits_pointer = omega (arith, length_le_bytes 2 state.pointer, levelled_long)

  state_edit : (P : List ℕ → Type 0) → P (edit 4 (le_bytes 2 state.pointer) levelled) → P (with_state file state)
  unfolding with_state levelled
  state_edit P p = p

  pub state_length : length (with_state file state) ≡ length file
  state_length = state_edit (λ (l : List ℕ). length l ≡ length file)
      (length_edit 4 (le_bytes 2 state.pointer) levelled fits_pointer ∙ levelled_long)

  state_before : (k : ℕ) → k < 2 → get_or (with_state file state) k 0 ≡ get_or file k 0
  unfolding levelled
  state_before k h = state_edit (λ (l : List ℕ). get_or l k 0 ≡ get_or file k 0)
      (edit_before 4 (le_bytes 2 state.pointer) levelled fits_pointer k (omega arith)
      ∙ edit_before 2 (state.level ∷ []) file (omega arith) k h)

  state_three : get_or (with_state file state) 3 0 ≡ get_or file 3 0
  unfolding levelled
  state_three = state_edit (λ (l : List ℕ). get_or l 3 0 ≡ get_or file 3 0)
      (edit_before 4 (le_bytes 2 state.pointer) levelled fits_pointer 3 (omega arith)
      ∙ edit_after 2 (state.level ∷ []) file (omega arith) 3 (omega arith))

  state_after : (k : ℕ) → 6 ≤ k → get_or (with_state file state) k 0 ≡ get_or file k 0
  unfolding levelled
  state_after k h = state_edit (λ (l : List ℕ). get_or l k 0 ≡ get_or file k 0)
      (edit_after 4 (le_bytes 2 state.pointer) levelled fits_pointer k
      (omega (arith, length_le_bytes 2 state.pointer))
      ∙ edit_after 2 (state.level ∷ []) file (omega arith) k (omega arith))

  state_part : (at n : ℕ) → 6 ≤ at → at + n ≤ length file → part at n (with_state file state) ≡ part at n file
  unfolding levelled
  state_part at n h fits = state_edit (λ (l : List ℕ). part at n l ≡ part at n file)
      (part_after 4 (le_bytes 2 state.pointer) levelled fits_pointer at n
      (omega (arith, length_le_bytes 2 state.pointer)) (omega (arith, levelled_long))
      ∙ part_after 2 (state.level ∷ []) file (omega arith) at n (omega arith) fits)

  pub state_slots : slots_of (with_state file state) ≡ slots_of file
  state_slots = state_after 8 (omega arith)

  pub state_most : most_of (with_state file state) ≡ most_of file
  state_most = le_same 2 (with_state file state) file 6 6 (λ k l. state_after (6 + k) (omega arith))

  pub state_back_again : state_of (with_state file state) ≡ state
  unfolding state_of levelled
  state_back_again = λ i. record { level = first i; pointer = second i }
    where
      first : get_or (with_state file state) 2 0 ≡ state.level
      first = state_edit (λ (l : List ℕ). get_or l 2 0 ≡ state.level)
          (edit_before 4 (le_bytes 2 state.pointer) levelled fits_pointer 2 (omega arith)
          ∙ edit_in 2 (state.level ∷ []) file (omega arith) 0 (omega arith))

      second : le_at 2 (with_state file state) 4 ≡ state.pointer
      second = state_edit (λ (l : List ℕ). le_at 2 l 4 ≡ le_at 2 (le_bytes 2 state.pointer ++ []) 0)
          (le_same 2 (edit 4 (le_bytes 2 state.pointer) levelled) (le_bytes 2 state.pointer ++ []) 4 0
          (λ k l. edit_in 4 (le_bytes 2 state.pointer) levelled fits_pointer k
          (omega (arith, length_le_bytes 2 state.pointer))
          ∙ ap₂ (λ (b : List ℕ) (i : ℕ). get_or b i 0) (sym (append-nil (le_bytes 2 state.pointer)))
          (sym (zero-add k))))
          ∙ le_back 2 state.pointer low []

  pub state_header : header_sound file ≡ true → state_fits state (most_of file) ≡ true
      → header_sound (with_state file state) ≡ true
  state_header h fits =
      let parts = header_parts file h in
      header_back written (omega (arith, state_length)) (fixed ∙ parts.1)
      ((λ i. ranges_fit (state_length i) (figures i))
      ∙ and_both (figures_fit (length file) (capacity_of file) (slots_of file) (most_of file))
      (state_fits state (most_of file)) (and_left _ _ parts.2) fits)
    where
      written : List ℕ
      written = with_state file state

      fixed : fixed_bytes written ≡ fixed_bytes file
      fixed = ap₂ ◌&&◌
          (ap₂ (λ (x y : ℕ). eqb x 76 && eqb y 70) (state_before 0 (omega arith)) (state_before 1 (omega arith)))
          (ap all_zero (state_part first_zero (16 - first_zero) (omega arith) (omega arith)))

      figures : figures_of written ≡ record {
        state = state;
        capacity = capacity_of file;
        slots = slots_of file;
        most = most_of file;
      }
      figures = λ i. record {
        state = state_back_again i;
        capacity = state_three i;
        slots = state_slots i;
        most = state_most i;
      }

  pub state_region : Ranges file → (a : ℕ) → a < most_of file → region_of (with_state file state) a ≡ region_of file a
  state_region seen a there =
      region_is (with_state file state) a
      ∙ ap (λ (S : ℕ). part (start_of S a) (slot_at S) (with_state file state)) state_slots
      ∙ state_part (start_of (slots_of file) a) (slot_at (slots_of file)) (omega arith) (region_fits file seen a there)
      ∙ sym (region_is file a)

  pub state_bytes : state.level < 256 → Bytes file → Bytes (with_state file state)
  unfolding levelled
  state_bytes small bytes = state_edit Bytes
      (edit_bytes 4 (le_bytes 2 state.pointer) levelled fits_pointer (le_bytes_bytes 2 state.pointer)
      (edit_bytes 2 (state.level ∷ []) file (omega arith) one bytes))
    where
      one : Bytes (state.level ∷ [])
      one zero = small
      one (suc k) = omega arith

-- what a sound bucket of the file shows
pub bucket_shown : (file : List ℕ) (a : ℕ) → bucket_sound_in file a ≡ true
    → Parts (slots_of file) (level first_buckets (state_of file) a)
    (λ key. eqb (address first_buckets (state_of file) key) a) (region_of file a)
unfolding bucket_sound_in
bucket_shown file a h = bucket_parts first_buckets (state_of file) (slots_of file) a (region_of file a) h

-- all that is known of a sound bucket's region: it is the encoding of its level and its rides
pub record Shown (file : List ℕ) (a : ℕ) : Type 0 where
  pub there : a < most_of file
  pub bytes : Bytes (region_of file a)
  pub long : length (region_of file a) ≡ slot_at (slots_of file)
  pub parts : Parts (slots_of file) (level first_buckets (state_of file) a)
      (λ key. eqb (address first_buckets (state_of file) key) a) (region_of file a)
  pub whole : AllWhole (rides_of (region_of file a))
  pub count : length (rides_of (region_of file a)) ≡ count_of (region_of file a)
  pub again : region_of file a ≡ encode (slots_of file) (level first_buckets (state_of file) a)
      (rides_of (region_of file a))

pub shown : (file : List ℕ) → Ranges file → Bytes file → (a : ℕ) → a < buckets_of file → bucket_sound_in file a ≡ true
    → Shown file a
shown file seen bytes a exists sound = record {
  there = there;
  bytes = each;
  long = long;
  parts = parts;
  whole = sound_whole _ _ _ (region_of file a) each long parts;
  count = sound_count _ _ _ (region_of file a) each long parts;
  again = sound_encode _ _ _ (region_of file a) each long parts;
}
  where
    there : a < most_of file
    there = omega (arith, exists, seen.few)

    each : Bytes (region_of file a)
    each = rw (region_is file a)
        (part_bytes (start_of (slots_of file) a) (slot_at (slots_of file)) file (region_fits file seen a there) bytes)

    long : length (region_of file a) ≡ slot_at (slots_of file)
    long = length_region file a (region_fits file seen a there)

    parts : Parts (slots_of file) (level first_buckets (state_of file) a)
        (λ key. eqb (address first_buckets (state_of file) key) a) (region_of file a)
    parts = bucket_shown file a sound

-- ---- a ride, placed

pub ride_placed : (file : List ℕ) (header : Header) → Known file header → Bytes file → (a : ℕ) → a < buckets_of file
    → bucket_sound_in file a ≡ true
    → (ride : Ride) → Whole ride → (count : ℕ) → count ≡ count_of (region_of file a) → count < header.slots
    → (region after : List ℕ) → region ≡ region_of file a
    → after ≡ edit 4 (le_bytes 2 (count + 1)) (edit (slot_at count) (slot_bytes ride) region)
    → with_region file a after ≡ with_ride file a ride
unfolding with_ride
ride_placed file header seen bytes a exists sound ride whole count counted room region after er ea = ap
    (with_region file a) (ea
    ∙ ap₂ (λ (n : ℕ) (r : List ℕ). edit 4 (le_bytes 2 (n + 1)) (edit (slot_at n) (slot_bytes ride) r)) number
    (er ∙ bucket.again)
    ∙ encode_more (slots_of file) (level first_buckets (state_of file) a) (rides_of (region_of file a)) bucket.whole
    ride
    whole (omega (arith, number, seen.slots)))
  where
    bucket : Shown file a
    bucket = shown file seen.ranges bytes a exists sound

    number : count ≡ length (rides_of (region_of file a))
    number = counted ∙ sym bucket.count

-- placed in the part that is lent for it
pub ride_lent : (file : List ℕ) (header : Header) → Known file header → Bytes file → (a : ℕ) → a < buckets_of file
    → bucket_sound_in file a ≡ true
    → (ride : Ride) → Whole ride → (count : ℕ) → count ≡ count_of (region_of file a) → count < header.slots
    → {at : ℕ} → at ≡ start_of header.slots a → {after : List ℕ}
    → length after ≡ length (take (at + (8 + 24 * header.slots) - at) (drop at file))
    → after ≡ edit 4 (le_bytes 2 (count + 1))
    (edit (slot_at count) (slot_bytes ride) (take (at + (8 + 24 * header.slots) - at) (drop at file)))
    → take at file ++ (after ++ drop (at + (8 + 24 * header.slots) - at) (drop at file)) ≡ with_ride file a ride
ride_lent file header seen bytes a exists sound ride whole count counted room {at} ea {after} kept written =
    with_lent file after a at (at + (8 + 24 * header.slots) - at) (ea ∙ ap (λ (S : ℕ). start_of S a) seen.slots)
    (omega (arith, kept, known_long file header seen a at ea (omega (arith, seen.ranges.few))))
    ∙ ride_placed file header seen bytes a exists sound ride whole count counted room _ after
    (known_cut file header seen a at ea) written
