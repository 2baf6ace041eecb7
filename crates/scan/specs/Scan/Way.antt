-- The way of a scan, bucket by bucket from a place on: what it holds is seen from its first bucket, and every bucket of
-- a visit order exists.
use Rattle.std.specs.Prelude.{ℕ, zero, suc, ◌+◌, ◌≤◌, ◌<◌, ◌≡◌, refl, Bool, true, List, [], ◌∷◌, length, get_or, drop}
use Rattle.std.proofs.Math.Path.{sym, ap}
use Rattle.std.proofs.Common.{subst, ◌∙◌, ⊎_elim, add-one, arith, drop_of_length-le, drop-cons}
use Rattle.std.proofs.Math.ListN.{take}
use Rattle.address.specs.Compare.{same}
use Rattle.address.specs.Limits.{first_buckets, most_level, most_buckets}
use Rattle.address.specs.Room.{ImageRoom}
use Rattle.address.specs.declared.Image.{Image}
use Rattle.address.specs.Rules.{Formed, NotAhead, buckets, visits}
use Rattle.address.specs.Rules.Earlier.{AllOf, each_at}
use Rattle.address.proofs.Rules.Earlier.{visits_each}
use Rattle.address.specs.Rules.Hash.{span_is, span_mono}
use Rattle.address.specs.Rules.Scan.{times, times_here, times_there}
use Rattle.address.proofs.Rules.Scan.{visits_once, visits_only, visits_length}
use Rattle.layout.specs.Bytes.{edit}
use Rattle.bucket.specs.Region.{every}
use Rattle.bucket.specs.Region.Every.{every_none, every_next}
use Rattle.file.specs.File.{state_of, buckets_of, header_sound, bucket_sound_in}
use Rattle.file.specs.File.Judge.{Ranges, header_ranges, existing, Known}
use Rattle.file.specs.File.Region.{buckets_known}
use Rattle.file.specs.declared.Header.{Header}
use Rattle.route.specs.Way.Open.{Opening}
use Rattle.order.specs.Queue.{Scannable, visits_read}
use Rattle.scan.specs.Scan.{matches_on, visits_of}

-- what is left of a list from a place on, by its first element, and past its end
pub rest_first : (xs : List ℕ) (k : ℕ) → k < length xs → drop k xs ≡ get_or xs k 0 ∷ drop (k + 1) xs
rest_first xs k h = rw (add-one k) (drop-cons xs k 0 h)

pub rest_none : (xs : List ℕ) (k : ℕ) → length xs ≤ k → drop k xs ≡ []
rest_none xs k h = drop_of_length-le xs h

-- the buckets on a way exist, and are not too many for the machine
pub record Way (file way : List ℕ) : Type 0 where
  pub exist : (k : ℕ) → k < length way → get_or way k 0 < buckets_of file
  pub few : length way ≤ most_buckets

pub way_exists : {file way : List ℕ} → Way file way → {a : ℕ} (k : ℕ) → a ≡ get_or way k 0 → k < length way
    → a < buckets_of file
way_exists along k here more = omega (arith, along.exist k more)

-- an element of a list stands there
pub times_at : (xs : List ℕ) (k : ℕ) → k < length xs → 0 < times (get_or xs k 0) xs
times_at [] k h = absurd (omega arith)
times_at (x ∷ xs) zero h = omega (arith, times_here x x xs refl)
times_at (x ∷ xs) (suc k) h = ⊎_elim
    (λ e. omega (arith, times_here (get_or xs k 0) x xs e))
    (λ e. omega (arith, times_there (get_or xs k 0) x xs e, times_at xs k (omega arith)))
    (same (get_or xs k 0) x)

-- each passes a test, so every one does
every_each : (test : ℕ → Bool) (xs : List ℕ) → AllOf (λ a. test a ≡ true) xs → every test xs ≡ true
every_each test [] e = every_none test
every_each test (x ∷ xs) e = every_next test x xs e.0 ∙ every_each test xs e.1

-- a visit order is such a way, with as many buckets as the file
module _ (file : List ℕ) (sound : header_sound file ≡ true) (image : Image) (formed : Formed first_buckets image)
    (behind : NotAhead first_buckets (state_of file) image) where
  seen : Ranges file
  seen = header_ranges file sound

  pub way_length : length (visits_of file image) ≡ buckets_of file
  unfolding visits_of
  way_length = visits_length first_buckets (omega arith) (state_of file) seen.formed image formed behind
      ∙ sym (existing file)

  pub way_once : (a : ℕ) → a < buckets_of file → times a (visits_of file image) ≡ 1
  unfolding visits_of
  way_once a h = visits_once first_buckets (omega arith) (state_of file) seen.formed image formed behind a
      (omega (arith, h, existing file))

  pub way_only : (a : ℕ) → buckets_of file ≤ a → times a (visits_of file image) ≡ 0
  unfolding visits_of
  way_only a h = visits_only first_buckets (omega arith) (state_of file) seen.formed image formed behind a
      (omega (arith, h, existing file))

  way_each : (P : ℕ → Type 0) → ((a : ℕ) → a < buckets_of file → P a) → AllOf P (visits_of file image)
  unfolding visits_of
  way_each P f = visits_each first_buckets (omega arith) (state_of file) seen.formed image formed behind P
      (λ a h. f a (omega (arith, h, existing file)))

  pub way_sound : ((a : ℕ) → a < buckets_of file → bucket_sound_in file a ≡ true)
      → every (bucket_sound_in file) (visits_of file image) ≡ true
  way_sound fine = every_each (bucket_sound_in file) (visits_of file image)
      (way_each (λ a. bucket_sound_in file a ≡ true) fine)

  pub visit_way : Way file (visits_of file image)
  visit_way = record {
    exist = λ k h. each_at (λ a. a < buckets_of file) (visits_of file image) k
        (way_each (λ a. a < buckets_of file) (λ a l. l)) h;
    few = omega (arith, way_length, seen.few, seen.figured.few_buckets);
  }

-- ---- the way of a scan that is not refused so far

pub record Starting (file : List ℕ) (header : Header) (image : Image) : Type 0 where
  pub known : Known file header
  pub low : image.level ≤ most_level
  pub formed : Formed first_buckets image
  pub behind : NotAhead first_buckets (state_of file) image

pub starting : {file table : List ℕ} {client : ℕ} {header : Header} {image : Image}
    → Opening file table client header image → Starting file header image
starting o = record { known = o.known; low = o.low; formed = o.formed; behind = o.behind }

module _ {file : List ℕ} {header : Header} {image : Image} (given : Starting file header image) where
  pub starting_buckets : (n : ℕ) → n ≡ buckets first_buckets header.state → n ≡ buckets_of file
  starting_buckets = buckets_known file header given.known

  pub starting_few : buckets_of file ≤ most_buckets
  starting_few = omega (arith, given.known.ranges.few, given.known.ranges.figured.few_buckets)

  pub starting_scannable : Scannable header.state image
  starting_scannable = record {
    room = given.known.room;
    image_room = record {
      levels = record { some = omega arith; few = omega arith; low = omega (arith, given.low) };
      near = omega (arith, given.formed, span_mono first_buckets given.low, span_is first_buckets most_level);
    };
    formed = subst (Formed first_buckets) (sym given.known.state) given.known.ranges.formed;
    image_formed = given.formed;
    behind = subst (λ (s : Image). NotAhead first_buckets s image) (sym given.known.state) given.behind;
    few = omega (arith, starting_buckets (buckets first_buckets header.state) refl, starting_few);
  }

  pub starting_image_room : ImageRoom first_buckets image
  starting_image_room = starting_scannable.image_room

  pub starting_fits : (room : ℕ) → buckets_of file ≤ room → buckets first_buckets header.state ≤ room
  starting_fits room fits = omega (arith, starting_buckets (buckets first_buckets header.state) refl)

  pub starting_long : {n room : ℕ} → n ≡ buckets first_buckets header.state → n ≤ room → buckets_of file ≤ room
  starting_long {n} en long = omega (arith, starting_buckets n en)

  pub starting_count : {n : ℕ} → n ≡ buckets first_buckets header.state → n ≡ length (visits_of file image)
  starting_count {n} en = starting_buckets n en
      ∙ sym (way_length file given.known.sound image given.formed given.behind)

  -- every visited bucket is sound if all are
  pub starting_sound : ((a : ℕ) → a < buckets_of file → bucket_sound_in file a ≡ true)
      → every (bucket_sound_in file) (visits_of file image) ≡ true
  starting_sound fine = way_sound file given.known.sound image given.formed given.behind fine

  -- a list whose start was written with the visits
  module _ (old : List ℕ) {queue : List ℕ} (written : queue ≡ edit 0 (visits first_buckets header.state image) old)
    where
      pub starting_written : queue ≡ edit 0 (visits_of file image) old
      unfolding visits_of
      starting_written = written
          ∙ ap (λ (s : Image). edit 0 (visits first_buckets s image) old) given.known.state

      pub starting_prefix : buckets_of file ≤ length old → length queue ≡ length old → {n : ℕ}
          → n ≡ buckets first_buckets header.state → n ≤ length queue
      starting_prefix fits same {n} en = omega (arith, starting_buckets n en)

      module _ {n : ℕ} (en : n ≡ buckets first_buckets header.state) where
        pub starting_visits : take n queue ≡ visits_of file image
        unfolding visits_of
        starting_visits = ap (λ (m : ℕ). take m queue) en ∙ visits_read old starting_scannable written
            ∙ ap (λ (s : Image). visits first_buckets s image) given.known.state

        pub starting_way : Way file (take n queue)
        starting_way = subst (Way file) (sym starting_visits)
            (visit_way file given.known.sound image given.formed given.behind)

        -- as long as it was cut
        pub starting_cut : n ≡ length (take n queue)
        starting_cut = starting_count en ∙ sym (ap length starting_visits)

        pub starting_room : (lift room : ℕ) → length (matches_on file lift (visits_of file image)) ≤ room
            → length (matches_on file lift (take n queue)) ≤ room
        starting_room lift room fits = omega
            (arith, ap (λ (way : List ℕ). length (matches_on file lift way)) starting_visits)

        pub starting_matches : (lift : ℕ) (before : List ℕ) {after : List ℕ}
            → after ≡ edit 0 (matches_on file lift (take n queue)) before
            → after ≡ edit 0 (matches_on file lift (visits_of file image)) before
        starting_matches lift before e =
            e ∙ ap (λ (way : List ℕ). edit 0 (matches_on file lift way) before) starting_visits
