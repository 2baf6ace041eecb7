-- Where the regions lie: within the file, one behind the other; how each is judged, and what check and view say of
-- them.
use Rattle.std.specs.Prelude.{ℕ, ◌+◌, ◌*◌, ◌-◌, ◌≤◌, ◌<◌, ◌≡◌, refl, Bool, true, false, cond, ◌&&◌, List, [], ◌∷◌, ltb}
use Rattle.std.specs.Prelude.{eqb, length, drop, Option, Some, None, is_some}
use Rattle.std.proofs.Math.Path.{sym, ap, ap₂}
use Rattle.std.proofs.Common.{◌∙◌, mul-le-mul, mul-le-mul_right}
use Rattle.std.proofs.Math.Bool.{not}
use native.Mathlib.Omega.{arith}
use borrow.Author.Tests.{lt-ltb, le-ltb, ltb-true, ltb-false, not-true, not-false}
use Rattle.std.proofs.Math.ListN.{take}
use Rattle.address.specs.Limits.{first_buckets, no_bucket, most_buckets, most_slots}
use Rattle.address.specs.declared.Image.{Image}
use Rattle.address.specs.Room.{Room}
use Rattle.address.specs.Rules.{buckets, level, keeps}
use Rattle.address.specs.Rules.Cases.{level_high}
use Rattle.layout.specs.Bytes.{le_at, all_below, all_zero, first_from, part}
use Rattle.layout.specs.Bytes.Tests.{all_of, all_fails, first_here, first_later, first_none, first_passes, first_before}
use Rattle.layout.specs.Bytes.Edit.{part_is, length_part}
use Rattle.layout.specs.Bytes.Numbers.{le_part}
use Rattle.layout.specs.Replies.{refuse, reply, reply_none, reply_here, reply_past}
use Rattle.bucket.specs.Region.{slot_at, count_of, sound_with, slot_of}
use Rattle.bucket.specs.Region.Sound.{bucket_judged, bucket_few}
use Rattle.file.specs.declared.Header.{Header}
use Rattle.file.specs.File.{most_of, slots_of, state_of, start_of, file_length, buckets_of, region_of, header_sound}
use Rattle.file.specs.File.{header_of}
use Rattle.file.specs.File.{bucket_sound_in, region_sound, file_sound, Checked, lowest_unsound, check, view}
use Rattle.file.specs.File.Judge.{Ranges, Known, header_ranges, known, unknown}

-- the machine's room for a place
pub place_room : (S a : ℕ) → S ≤ most_slots → a ≤ most_buckets → a * (8 + 24 * S) ≤ most_buckets * (8 + 24 * most_slots)
place_room S a few low = mul-le-mul {n₂ = most_buckets} {m₂ = 8 + 24 * most_slots} low (omega arith)

-- a region of the file is within it
pub region_within : (S M a : ℕ) → a < M → start_of S a + slot_at S ≤ file_length S M
region_within S M a h = omega (arith, mul-le-mul_right (8 + 24 * S) h)

-- a lower region ends where a higher one starts, or before
pub region_apart : (S a b : ℕ) → a < b → start_of S a + slot_at S ≤ start_of S b
region_apart S a b h = omega (arith, mul-le-mul_right (8 + 24 * S) h)

-- a region, cut out of the file
pub region_is : (file : List ℕ) (a : ℕ)
    → region_of file a ≡ part (start_of (slots_of file) a) (slot_at (slots_of file)) file
unfolding region_of
region_is file a = refl

module _ (file : List ℕ) (S a at e : ℕ) (eS : S ≡ slots_of file) (ea : at ≡ start_of S a)
    (ee : e ≡ at + (8 + 24 * S)) where
  pub region_cut : take (e - at) (drop at file) ≡ region_of file a
  region_cut = ap₂ (λ (n k : ℕ). take n (drop k file)) wide place
      ∙ sym (part_is (start_of (slots_of file) a) (slot_at (slots_of file)) file) ∙ sym (region_is file a)
    where
      place : at ≡ start_of (slots_of file) a
      place = ea ∙ ap (λ (n : ℕ). start_of n a) eS

      wide : e - at ≡ slot_at (slots_of file)
      wide = omega arith

pub length_region : (file : List ℕ) (a : ℕ) → start_of (slots_of file) a + slot_at (slots_of file) ≤ length file
    → length (region_of file a) ≡ slot_at (slots_of file)
length_region file a fits = ap length (region_is file a)
    ∙ length_part (start_of (slots_of file) a) (slot_at (slots_of file)) file fits

-- a region of a file with a sound header is within it
pub region_fits : (file : List ℕ) → Ranges file → (a : ℕ) → a < most_of file
    → start_of (slots_of file) a + slot_at (slots_of file) ≤ length file
region_fits file seen a h = omega (arith, region_within (slots_of file) (most_of file) a h, seen.figured.whole)

-- a region by its slots' number and its place: cut out, within the file, and as long as its slots
module _ (file : List ℕ) (ranges : Ranges file) {S : ℕ} (eS : S ≡ slots_of file) (a at : ℕ)
    (ea : at ≡ start_of S a) where
  slots_cut : take (at + (8 + 24 * S) - at) (drop at file) ≡ region_of file a
  slots_cut = region_cut file S a at (at + (8 + 24 * S)) eS ea refl

  slots_fits : a < most_of file → at + (8 + 24 * S) ≤ length file
  slots_fits h = omega (arith, region_fits file ranges a h, ap (λ (n : ℕ). start_of n a) eS)

  slots_long : a < most_of file → length (take (at + (8 + 24 * S) - at) (drop at file)) ≡ slot_at S
  slots_long h = ap length slots_cut ∙ length_region file a (region_fits file ranges a h) ∙ ap slot_at (sym eS)

-- ---- a region of a file whose header is known

module _ (file : List ℕ) (header : Header) (seen : Known file header) where
  pub buckets_known : (n : ℕ) → n ≡ buckets first_buckets header.state → n ≡ buckets_of file
  unfolding buckets_of
  buckets_known n e = e ∙ ap (buckets first_buckets) seen.state

  pub known_there : {a : ℕ} → a < buckets_of file → a < most_of file
  known_there h = omega (arith, seen.ranges.few)

  module _ (a at : ℕ) (ea : at ≡ start_of header.slots a) where
    pub known_cut : take (at + (8 + 24 * header.slots) - at) (drop at file) ≡ region_of file a
    known_cut = slots_cut file seen.ranges seen.slots a at ea

    pub known_fits : a < most_of file → at + (8 + 24 * header.slots) ≤ length file
    known_fits = slots_fits file seen.ranges seen.slots a at ea

    pub known_long : a < most_of file
        → length (take (at + (8 + 24 * header.slots) - at) (drop at file)) ≡ slot_at header.slots
    known_long = slots_long file seen.ranges seen.slots a at ea

-- ---- a bucket of a sound file, by the file's slots and the bucket's level

pub record Standing (file : List ℕ) (S a l : ℕ) : Type 0 where
  pub sound : header_sound file ≡ true
  pub slots : S ≡ slots_of file
  pub there : a < buckets_of file
  pub «at» : l ≡ level first_buckets (state_of file) a

pub known_standing : (file : List ℕ) (header : Header) → Known file header → {a l : ℕ} → a < buckets_of file
    → l ≡ level first_buckets header.state a → Standing file header.slots a l
known_standing file header seen {a} exists el = record {
  sound = seen.sound;
  slots = seen.slots;
  there = exists;
  «at» = el ∙ ap (λ (s : Image). level first_buckets s a) seen.state;
}

module _ (file : List ℕ) {S a l : ℕ} (standing : Standing file S a l) where
  ranges : Ranges file
  ranges = header_ranges file standing.sound

  born : a < most_of file
  born = omega (arith, standing.there, ranges.few)

  pub standing_slots : S ≤ most_slots
  standing_slots = omega (arith, standing.slots, ranges.figured.few_slots)

  pub standing_low : a ≤ most_buckets
  standing_low = omega (arith, born, ranges.figured.few_buckets)

  pub standing_level : Room first_buckets l
  standing_level =
      record {
        some = omega arith;
        few = omega arith;
        low = omega (arith, standing.«at», level_high first_buckets (state_of file) a, ranges.low);
      }

  module _ {place : ℕ} (ep : place ≡ start_of S a) where
    cut : take (place + (8 + 24 * S) - place) (drop place file) ≡ region_of file a
    cut = slots_cut file ranges standing.slots a place ep

    pub standing_fits : place + (8 + 24 * S) ≤ length file
    standing_fits = slots_fits file ranges standing.slots a place ep born

    pub standing_long : length (take (place + (8 + 24 * S) - place) (drop place file)) ≡ slot_at S
    standing_long = slots_long file ranges standing.slots a place ep born

    pub standing_judged : {sound : Bool}
        → sound ≡ sound_with S l (keeps first_buckets a l) (take (place + (8 + 24 * S) - place) (drop place file))
        → sound ≡ bucket_sound_in file a
    unfolding bucket_sound_in buckets_of
    standing_judged es =
        es ∙ ap (sound_with S l (keeps first_buckets a l)) cut
        ∙ ap₂ (λ (n k : ℕ). sound_with n k (keeps first_buckets a k) (region_of file a)) standing.slots
        standing.«at»
        ∙ sym
        (bucket_judged first_buckets (omega arith) (state_of file) ranges.formed (slots_of file) a standing.there
        (region_of file a))

    pub standing_place : {slot : ℕ} (key : ℕ)
        → slot ≡ slot_of (take (place + (8 + 24 * S) - place) (drop place file)) key
        → slot ≡ slot_of (region_of file a) key
    standing_place key e = e ∙ ap (λ (bytes : List ℕ). slot_of bytes key) cut

    -- both as one answer
    pub standing_found : {judged : Option ℕ} (key : ℕ)
        → judged
        ≡ cond (sound_with S l (keeps first_buckets a l) (take (place + (8 + 24 * S) - place) (drop place file)))
        (Some (slot_of (take (place + (8 + 24 * S) - place) (drop place file)) key)) None
        → judged ≡ cond (bucket_sound_in file a) (Some (slot_of (region_of file a) key)) None
    standing_found key e = e
        ∙ ap₂ (λ (b : Bool) (slot : ℕ). cond b (Some slot) None) (standing_judged refl) (standing_place key refl)

-- an answer that stands for a test and a value
pub some_told : {judged : Option ℕ} {sound : Bool} (b : Bool) (x : ℕ) → judged ≡ cond b (Some x) None
    → sound ≡ is_some judged → sound ≡ b
some_told true x e told = told ∙ ap is_some e
some_told false x e told = told ∙ ap is_some e

-- a region by its cases
pub region_bucket : (file : List ℕ) (a : ℕ) → a < buckets_of file → region_sound file a ≡ bucket_sound_in file a
unfolding region_sound
region_bucket file a h = rw (lt-ltb a (buckets_of file) h)

pub region_past : (file : List ℕ) (a : ℕ) → buckets_of file ≤ a → region_sound file a ≡ all_zero (region_of file a)
unfolding region_sound
region_past file a h = rw (le-ltb a (buckets_of file) h)

-- how a region is judged that is a bucket's by the state read, or one past the last bucket
module _ (file : List ℕ) (header : Header) (seen : Known file header) (a : ℕ) {n : ℕ}
    (en : n ≡ buckets first_buckets header.state) where
  pub known_below : a < n → a < buckets_of file
  known_below h = omega (arith, buckets_known file header seen n en)

  pub region_below : a < n → {sound : Bool} → sound ≡ bucket_sound_in file a → sound ≡ region_sound file a
  region_below h e = e ∙ sym (region_bucket file a (known_below h))

  pub region_behind : n ≤ a → {clean : Bool} → clean ≡ all_zero (region_of file a) → clean ≡ region_sound file a
  region_behind h e = e ∙ sym (region_past file a (omega (arith, buckets_known file header seen n en)))

-- ---- the lowest unsound region

module _ (file : List ℕ) where
  abbrev pub Lower : ℕ → Type 0
  Lower k = first_from (λ a. not (region_sound file a)) (most_of file - k) k ≡ lowest_unsound file

  pub lower_none : Lower 0
  unfolding lowest_unsound
  lower_none = ap (λ (n : ℕ). first_from (λ a. not (region_sound file a)) n 0) whole
    where
      whole : most_of file - 0 ≡ most_of file
      whole = omega arith

  module _ {header : Header} (seen : Known file header) (k : ℕ) (so : Lower k) where
    pub lower_end : header.most ≤ k → k ≡ lowest_unsound file
    lower_end h = sym (first_none (λ a. not (region_sound file a)) (most_of file) k (omega (arith, seen.most))) ∙ so

    module _ (there : k < header.most) {sound : Bool} (es : sound ≡ region_sound file k) where
      below : k < most_of file
      below = omega (arith, seen.most)

      pub lower_here : not sound ≡ true → k ≡ lowest_unsound file
      lower_here bad = sym (first_here (λ a. not (region_sound file a)) (most_of file) k below (ap not (sym es) ∙ bad))
          ∙ so

      pub lower_more : not sound ≡ false → Lower (k + 1)
      lower_more good = sym
          (first_later (λ a. not (region_sound file a)) (most_of file) k below (ap not (sym es) ∙ good))
          ∙ so

-- ---- check, by its cases

module _ (file : List ℕ) where
  pub check_header : None ≡ header_of file → record { answer = 5; bucket = no_bucket } ≡ check file
  unfolding check
  check_header e = rw (unknown file e)

  module _ {header : Header} (read : Some header ≡ header_of file) {lowest : ℕ}
      (least : lowest ≡ lowest_unsound file) where
    seen : Known file header
    seen = known file header read

    pub check_region : lowest < header.most → record { answer = 7; bucket = lowest } ≡ check file
    unfolding check
    check_region h = rw (seen.sound, lt-ltb (lowest_unsound file) (most_of file) (omega (arith, seen.most)))
        (λ i. record { answer = 7; bucket = least i })

    pub check_none : header.most ≤ lowest → record { answer = 0; bucket = no_bucket } ≡ check file
    unfolding check
    check_none h = rw (seen.sound, le-ltb (lowest_unsound file) (most_of file) (omega (arith, seen.most)))

-- its reply, as document 01 lists it
pub check_reply : (file : List ℕ)
    → (check file).answer ≡ reply
    (refuse 5 (not (header_sound file)) ∷ refuse 7 (ltb (lowest_unsound file) (most_of file)) ∷ []) 0
unfolding check
check_reply file = go (header_sound file) (ltb (lowest_unsound file) (most_of file))
  where
    go : (header some : Bool) → (cond {A = Checked} (not header) (record { answer = 5; bucket = no_bucket })
        (cond {A = Checked} some (record { answer = 7; bucket = lowest_unsound file })
        (record { answer = 0; bucket = no_bucket }))).answer
        ≡ reply (refuse 5 (not header) ∷ refuse 7 some ∷ []) 0
    go false some = sym (reply_here 5 true _ 0 refl)
    go true true = sym (reply_past 5 false _ 0 refl ∙ reply_here 7 true _ 0 refl)
    go true false = sym (reply_past 5 false _ 0 refl ∙ reply_past 7 false _ 0 refl ∙ reply_none 0)

-- no second outcome fits
pub check_single : (file : List ℕ) (o p : Checked) → o ≡ check file → p ≡ check file → o ≡ p
check_single file o p eo ep = eo ∙ sym ep

-- ---- view, by its cases

pub view_header : (file : List ℕ) (a : ℕ) → header_sound file ≡ false → [] ≡ view file a
unfolding view
view_header file a h = rw h

pub view_high : (file : List ℕ) (a : ℕ) → header_sound file ≡ true → buckets_of file ≤ a → [] ≡ view file a
unfolding view
view_high file a h l = rw (h, le-ltb a (buckets_of file) l)

pub view_unsound : (file : List ℕ) (a : ℕ) → header_sound file ≡ true → a < buckets_of file
    → bucket_sound_in file a ≡ false
    → [] ≡ view file a
unfolding view
view_unsound file a h l u = rw (h, lt-ltb a (buckets_of file) l, u)

-- the same of a header that was read, and of a number and a bucket judged by it
module _ (file : List ℕ) (a : ℕ) where
  pub view_headless : None ≡ header_of file → [] ≡ view file a
  view_headless e = view_header file a (unknown file e)

  module _ {header : Header} (read : Some header ≡ header_of file) {n : ℕ}
      (en : n ≡ buckets first_buckets header.state) where
    good : Known file header
    good = known file header read

    pub view_past : n ≤ a → [] ≡ view file a
    view_past h = view_high file a good.sound (omega (arith, buckets_known file header good n en))

    module _ (low : a < n) where
      pub view_there : a < buckets_of file
      view_there = known_below file header good a en low

      pub view_bad : {sound : Bool} → sound ≡ bucket_sound_in file a → not sound ≡ true → [] ≡ view file a
      view_bad {sound} es h = view_unsound file a good.sound view_there (sym es ∙ not-true sound h)

-- a sound bucket's count is within its slots
pub sound_few : (file : List ℕ) (a : ℕ) → bucket_sound_in file a ≡ true → count_of (region_of file a) ≤ slots_of file
unfolding bucket_sound_in
sound_few file a h = bucket_few first_buckets (state_of file) (slots_of file) a (region_of file a) h

pub count_in : (file : List ℕ) (a : ℕ) → count_of (region_of file a) ≡ le_at 2 file (start_of (slots_of file) a + 4)
count_in file a = ap (λ (r : List ℕ). le_at 2 r 4) (region_is file a)
    ∙ le_part 2 file (start_of (slots_of file) a) (slot_at (slots_of file)) 4 (omega arith)

-- a slot in use is one of the file's
pub known_slot : (file : List ℕ) (header : Header) → Known file header → (a k : ℕ) → bucket_sound_in file a ≡ true
    → k < count_of (region_of file a)
    → k < header.slots
known_slot file header seen a k sound used = omega (arith, sound_few file a sound, seen.slots)

-- the count read at a region's place is the region's
pub known_count : (file : List ℕ) (header : Header) → Known file header → (a at : ℕ) → at ≡ start_of header.slots a
    → (n : ℕ) → n ≡ le_at 2 file (at + 4)
    → n ≡ count_of (region_of file a)
known_count file header seen a at ea n en = en
    ∙ ap (λ (p : ℕ). le_at 2 file (p + 4)) (ea ∙ ap (λ (S : ℕ). start_of S a) seen.slots) ∙ sym (count_in file a)

module _ (file : List ℕ) (header : Header) (seen : Known file header) (a at n : ℕ) (ea : at ≡ start_of header.slots a)
    (en : n ≡ le_at 2 file (at + 4))
    (exists : a < buckets_of file) (sound : bucket_sound_in file a ≡ true) where
  placed : at ≡ start_of (slots_of file) a
  placed = ea ∙ ap (λ (S : ℕ). start_of S a) seen.slots

  counted : n ≡ count_of (region_of file a)
  counted = known_count file header seen a at ea n en

  pub view_fits : at + 8 + 24 * n ≤ length file
  view_fits = omega (
    arith,
    known_fits file header seen a at ea (omega (arith, seen.ranges.few)),
    counted,
    sound_few file a sound,
    seen.slots,
  )

  pub view_used : take (at + 8 + 24 * n - (at + 8)) (drop (at + 8) file) ≡ view file a
  unfolding view
  view_used = rw (seen.sound, lt-ltb a (buckets_of file) exists, sound)
      (ap₂ (λ (m p : ℕ). take m (drop (p + 8) file)) wide placed
      ∙ sym (part_is (start_of (slots_of file) a + 8) (24 * count_of (region_of file a)) file))
    where
      wide : at + 8 + 24 * n - (at + 8) ≡ 24 * count_of (region_of file a)
      wide = omega (arith, counted)

-- check answers 0 exactly for a sound file
pub check_sound : (file : List ℕ) → eqb (check file).answer 0 ≡ file_sound file
unfolding check file_sound lowest_unsound
check_sound file = headed (header_sound file)
  where
    lowest : ℕ
    lowest = lowest_unsound file

    regions : (b : Bool) → ltb lowest (most_of file) ≡ b
        → eqb
        (cond {A = Checked} b (record { answer = 7; bucket = lowest })
        (record { answer = 0; bucket = no_bucket })).answer 0 ≡ all_below (region_sound file) (most_of file)
    regions true h = sym (all_fails (region_sound file) (most_of file) lowest (ltb-true lowest (most_of file) h)
        (not-true _
        (first_passes (λ a. not (region_sound file a)) (most_of file) 0
        (omega (arith, ltb-true lowest (most_of file) h)))))
    regions false h = sym (all_of (region_sound file) (most_of file)
        (λ a l. not-false _
        (first_before (λ x. not (region_sound file x)) (most_of file) 0 a (omega arith)
        (omega (arith, ltb-false lowest (most_of file) h)))))

    headed : (b : Bool) → eqb (cond {A = Checked} (not b) (record { answer = 5; bucket = no_bucket })
        (cond (ltb lowest (most_of file)) (record { answer = 7; bucket = lowest })
        (record { answer = 0; bucket = no_bucket }))).answer 0
        ≡ (b && all_below (region_sound file) (most_of file))
    headed true = regions (ltb lowest (most_of file)) refl
    headed false = refl

pub view_single : (file : List ℕ) (a : ℕ) (o p : List ℕ) → o ≡ view file a → p ≡ view file a → o ≡ p
view_single file a o p eo ep = eo ∙ sym ep
