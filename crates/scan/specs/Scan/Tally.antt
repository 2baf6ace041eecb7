-- Judging and counting, in number order: what is counted so far and what is left make the sum over all buckets, which
-- is the count of a visit order's matches.
use Rattle.std.specs.Prelude.{ℕ, suc, ◌+◌, ◌-◌, ◌*◌, ◌/◌, ◌≤◌, ◌<◌, ◌≡◌, refl, Bool, true, false, cond, not, List, []}
use Rattle.std.specs.Prelude.{◌∷◌, ◌++◌, eqb, length, get_or, drop, set}
use Rattle.std.proofs.Common.{sym, ap, ◌∙◌, true≢false, arith, length-append}
use Rattle.std.proofs.lemmas.Bool.{not-true, not-false}
use Rattle.std.specs.Int.Count.{ones}
use Rattle.address.specs.Limits.{first_buckets, no_bucket, most_slots}
use Rattle.address.specs.declared.Image.{Image}
use Rattle.address.specs.Rules.{buckets, numbers}
use Rattle.address.specs.Rules.Sums.{sum_of, sum_none, sum_cons, sum_more, sum_done}
use Rattle.address.proofs.Rules.Sums.{visits_sum}
use Rattle.bucket.specs.Region.{count_of, key_at}
use Rattle.bucket.specs.Region.Keep.{keys_count, keys_at}
use Rattle.file.specs.File.{state_of, region_of, buckets_of, bucket_sound_in}
use Rattle.file.specs.File.Judge.{Known, existing}
use Rattle.file.specs.File.Region.{sound_few, buckets_known}
use Rattle.file.specs.declared.Header.{Header}
use Rattle.scan.specs.Scan.{of_lift, matching, keys_in, matches_on, visits_of}
use Rattle.scan.specs.Scan.Bits.{bits_of, bits_count, Tested, test_none, test_more, test_room}
use Rattle.scan.specs.Scan.Notes.{Noted, note_none, note_more, noted_fewer}
use Rattle.scan.specs.Scan.Unsound.{Lowest}
use Rattle.scan.specs.Scan.Way.{Starting}

-- ---- the matching ones of some keys

pub lift_is : (lift key : ℕ) → eqb (key / 4294967296) lift ≡ of_lift lift key
unfolding of_lift
lift_is lift key = refl

pub match_in : (lift key : ℕ) (keys : List ℕ) → of_lift lift key ≡ true
    → matching lift (key ∷ keys) ≡ key ∷ matching lift keys
unfolding matching
match_in lift key keys h = rw h

pub match_out : (lift key : ℕ) (keys : List ℕ) → of_lift lift key ≡ false
    → matching lift (key ∷ keys) ≡ matching lift keys
unfolding matching
match_out lift key keys h = rw h

pub match_none : (lift : ℕ) → matching lift [] ≡ []
unfolding matching
match_none lift = refl

pub match_few : (lift : ℕ) (keys : List ℕ) → length (matching lift keys) ≤ length keys
match_few lift [] = omega (arith, ap length (match_none lift))
match_few lift (key ∷ keys) = go (of_lift lift key) refl (match_few lift keys)
  where
    go : (b : Bool) → of_lift lift key ≡ b → length (matching lift keys) ≤ length keys
        → length (matching lift (key ∷ keys)) ≤ suc (length keys)
    go true e rest = omega (arith, ap length (match_in lift key keys e))
    go false e rest = omega (arith, ap length (match_out lift key keys e))

-- ---- the keys of a bucket, and their bits by its slots

pub keys_in_count : (file : List ℕ) (a : ℕ) → length (keys_in file a) ≡ count_of (region_of file a)
unfolding keys_in
keys_in_count file a = keys_count (region_of file a)

pub keys_few : {file : List ℕ} {header : Header} → Known file header → (a : ℕ) → bucket_sound_in file a ≡ true
    → length (keys_in file a) ≤ most_slots
keys_few {file} seen a sound = omega
    (arith, keys_in_count file a, sound_few file a sound, seen.ranges.figured.few_slots)

pub key_of : (file : List ℕ) (a k : ℕ) → k < count_of (region_of file a)
    → key_at (region_of file a) k ≡ get_or (keys_in file a) k 0
unfolding keys_in
key_of file a k used = sym (keys_at (region_of file a) k used)

pub tested_none : (file : List ℕ) (a lift k : ℕ) → k ≡ count_of (region_of file a) → Tested lift (keys_in file a) k 0
tested_none file a lift k e = test_none lift (keys_in file a) k (e ∙ sym (keys_in_count file a))

module _ (file : List ℕ) (a : ℕ) {lift k bits : ℕ} (so : Tested lift (keys_in file a) k bits) where
  pub tested_done : k ≡ 0 → bits ≡ bits_of lift (keys_in file a)
  tested_done end = so.is ∙ ap (λ (n : ℕ). bits_of lift (drop n (keys_in file a))) end

  module _ (some : k ≡ 0 → ⊥) where
    pub tested_used : k - 1 < count_of (region_of file a)
    tested_used = omega (arith, so.within, keys_in_count file a)

    pub tested_more : (key : ℕ) → key ≡ key_at (region_of file a) (k - 1) → {match : Bool} → match ≡ of_lift lift key
        → {bit : ℕ} → bit ≡ cond match 1 0 → Tested lift (keys_in file a) (k - 1) (bits * 2 + bit)
    tested_more key ek em {bit} eb = test_more so some bit
        (eb ∙ ap (λ (m : Bool). cond m 1 0)
        (em ∙ ap (of_lift lift) (ek ∙ key_of file a (k - 1) tested_used)))

    -- there is room for one more
    pub tested_room : {header : Header} → Known file header → bucket_sound_in file a ≡ true → bits < 9223372036854775808
    tested_room seen sound = test_room so some (keys_few seen a sound)

-- ---- the matches of a way

pub matches_first : (file : List ℕ) (lift a : ℕ) (way : List ℕ)
    → matches_on file lift (a ∷ way) ≡ matching lift (keys_in file a) ++ matches_on file lift way
unfolding matches_on
matches_first file lift a way = refl

pub matches_none : (file : List ℕ) (lift : ℕ) → matches_on file lift [] ≡ []
unfolding matches_on
matches_none file lift = refl

-- how many keys of a bucket match
abbrev pub matches_in : List ℕ → ℕ → ℕ → ℕ
matches_in file lift a = length (matching lift (keys_in file a))

-- a way has as many matches as its buckets together
matches_sum : (file : List ℕ) (lift : ℕ) (way : List ℕ)
    → sum_of (matches_in file lift) way ≡ length (matches_on file lift way)
matches_sum file lift [] = sum_none (matches_in file lift) ∙ sym (ap length (matches_none file lift))
matches_sum file lift (a ∷ way) = omega (
  arith,
  sum_cons (matches_in file lift) a way,
  matches_sum file lift way,
  ap length (matches_first file lift a way),
  length-append (matching lift (keys_in file a)) (matches_on file lift way),
)

-- and so a visit order as many as all buckets
pub matches_all : {file : List ℕ} {header : Header} {image : Image} → Starting file header image → (lift : ℕ)
    → sum_of (matches_in file lift) (numbers 0 (buckets_of file)) ≡ length (matches_on file lift (visits_of file image))
unfolding visits_of
matches_all {file} {header} {image} given lift =
    ap (λ (n : ℕ). sum_of (matches_in file lift) (numbers 0 n)) (existing file)
    ∙ sym (visits_sum first_buckets (omega arith) (state_of file) given.known.ranges.formed image given.formed
    given.behind (matches_in file lift))
    ∙ matches_sum file lift (visits_of file image)

-- ---- the buckets, judged and counted in number order

-- what a tally tells of all buckets
pub record AllJudged (file : List ℕ) (lift : ℕ) (sound : Bool) (lowest matches : ℕ) (notes : List ℕ) : Type 0 where
  pub unsound : sound ≡ false → Lowest file lowest
  pub noted : sound ≡ true → Noted file lift notes (buckets_of file)
  pub found : sound ≡ true → matches ≡ sum_of (matches_in file lift) (numbers 0 (buckets_of file))

-- the judging loop: the buckets before are sound and noted, and the matches found and those of the buckets that are
-- left are all
pub record Tallied (file : List ℕ) (lift k found : ℕ) (notes : List ℕ) : Type 0 where
  pub few : found ≤ most_slots * k
  pub counted : found + sum_of (matches_in file lift) (numbers k (buckets_of file - k))
      ≡ sum_of (matches_in file lift) (numbers 0 (buckets_of file))
  pub noted : Noted file lift notes k

pub tally_none : (file : List ℕ) (lift : ℕ) (notes : List ℕ) → Tallied file lift 0 0 notes
tally_none file lift notes =
    record { few = omega arith; counted = omega (arith, all); noted = note_none file lift notes }
  where
    same : buckets_of file - 0 ≡ buckets_of file
    same = omega arith

    all : sum_of (matches_in file lift) (numbers 0 (buckets_of file - 0))
        ≡ sum_of (matches_in file lift) (numbers 0 (buckets_of file))
    all = ap (λ (n : ℕ). sum_of (matches_in file lift) (numbers 0 n)) same

module _ {file : List ℕ} {header : Header} (seen : Known file header) {n : ℕ}
    (en : n ≡ buckets first_buckets header.state) {lift k found : ℕ} {notes : List ℕ}
    (so : Tallied file lift k found notes) where
  all_buckets : n ≡ buckets_of file
  all_buckets = buckets_known file header seen n en

  pub tally_done : n ≤ k → AllJudged file lift true no_bucket found notes
  tally_done end = record {
    unsound = λ h. absurd (true≢false h);
    noted = λ h. noted_fewer so.noted (buckets_of file) (omega (arith, all_buckets));
    found = λ h. omega (
      arith,
      so.counted,
      sum_done (matches_in file lift) k (buckets_of file) (omega (arith, all_buckets)),
    );
  }

  -- the next bucket, found sound or not
  module _ (more : k < n) {sound : Bool} (judged : sound ≡ bucket_sound_in file k) where
    pub tally_stop : not sound ≡ true → AllJudged file lift false k 0 notes
    tally_stop failed = record {
      unsound = λ h. record {
        exists = omega (arith, all_buckets);
        bad = sym judged ∙ not-true sound failed;
        under = so.noted.sound;
      };
      noted = λ h. absurd (true≢false (sym h));
      found = λ h. absurd (true≢false (sym h));
    }

    pub tally_sound : not sound ≡ false → bucket_sound_in file k ≡ true
    tally_sound passed = sym judged ∙ not-false sound passed

    module _ (passed : not sound ≡ false) {b : ℕ} (eb : b ≡ bits_of lift (keys_in file k)) where
      matches : ones b ≡ matches_in file lift k
      matches = ap ones eb ∙ bits_count lift (keys_in file k)

      most : ones b ≤ most_slots
      most = omega
          (arith, keys_few seen k (tally_sound passed), matches, match_few lift (keys_in file k))

      -- the count stays a number of 32 bits
      pub tally_few : found + ones b < 4294967296
      tally_few = omega (arith, most, so.few, all_buckets, seen.ranges.few, seen.ranges.figured.few_buckets)

      pub tally_more : {after : List ℕ} → after ≡ set notes k b → Tallied file lift (k + 1) (found + ones b) after
      tally_more {after} e = record {
        few = omega (arith, so.few, most);
        counted = omega (
          arith,
          so.counted,
          matches,
          sum_more (matches_in file lift) k (buckets_of file) (omega (arith, all_buckets)),
        );
        noted = rw e (note_more so.noted (tally_sound passed) b eb);
      }
