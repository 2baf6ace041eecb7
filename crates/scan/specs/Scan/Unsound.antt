-- The unsound bucket that a scan meets first, found in number order: from the lowest one on the better of the best and
-- the next is kept.
use Rattle.std.specs.Prelude.{ℕ, ◌+◌, ◌-◌, ◌≤◌, ◌<◌, ◌≡◌, refl, Bool, true, false, List, [], ◌∷◌}
use Rattle.std.proofs.Math.Path.{sym, ap}
use Rattle.std.proofs.Common.{◌∙◌, arith}
use Rattle.std.proofs.Math.Bool.{not}
use Rattle.address.specs.Limits.{first_buckets, no_bucket}
use Rattle.address.specs.declared.Image.{Image}
use Rattle.address.specs.Rules.{buckets, earlier}
use Rattle.address.specs.Rules.Earlier.{first_believed}
use Rattle.address.specs.Rules.First.{first_of, first_none, first_here, first_there, better, best_from, best_more}
use Rattle.address.specs.Rules.First.{best_done}
use Rattle.address.proofs.Rules.First.{first_visited, first_lowest}
use Rattle.bucket.specs.Region.{every}
use Rattle.bucket.specs.Region.Every.{every_times}
use Rattle.file.specs.File.{state_of, buckets_of, bucket_sound_in}
use Rattle.file.specs.File.Judge.{existing}
use Rattle.file.specs.declared.Header.{Header}
use Rattle.scan.specs.Scan.{visits_of, first_unsound}
use Rattle.scan.specs.Scan.Way.{way_once, Starting, starting_buckets, starting_few}

abbrev pub unsound : List ℕ → ℕ → Bool
unsound file a = not (bucket_sound_in file a)

-- the first unsound bucket of a way is the first that passes this test
first_unsound_lem : (file way : List ℕ) → first_unsound file way ≡ first_of (unsound file) no_bucket way
unfolding first_unsound
first_unsound_lem file [] = sym (first_none (unsound file) no_bucket)
first_unsound_lem file (a ∷ way) = go (bucket_sound_in file a) refl (first_unsound_lem file way)
  where
    go : (b : Bool) → bucket_sound_in file a ≡ b → first_unsound file way ≡ first_of (unsound file) no_bucket way
        → first_unsound file (a ∷ way) ≡ first_of (unsound file) no_bucket (a ∷ way)
    go true e rest = rw e (rest ∙ sym (first_there (unsound file) no_bucket a way (ap not e)))
    go false e rest = rw e (sym (first_here (unsound file) no_bucket a way (ap not e)))

-- The lowest unsound bucket.
pub record Lowest (file : List ℕ) (lowest : ℕ) : Type 0 where
  pub exists : lowest < buckets_of file
  pub bad : bucket_sound_in file lowest ≡ false
  pub under : (a : ℕ) → a < lowest → bucket_sound_in file a ≡ true

-- ---- the better of the best so far and the next

module _ (file : List ℕ) (believed best next : ℕ) {sound : Bool} (judged : sound ≡ bucket_sound_in file next) where
  pub better_sound : sound ≡ true → best ≡ better first_buckets believed (unsound file) best next
  better_sound fine = rw (sym judged ∙ fine)

  module _ (bad : sound ≡ false) {before : Bool} (asked : before ≡ earlier first_buckets believed next best) where
    pub better_next : before ≡ true → next ≡ better first_buckets believed (unsound file) best next
    better_next e = rw (sym judged ∙ bad, sym asked ∙ e)

    pub better_best : before ≡ false → best ≡ better first_buckets believed (unsound file) best next
    better_best e = rw (sym judged ∙ bad, sym asked ∙ e)

-- ---- the walk from the lowest one on: the best of what is left is the best of all

pub record Searching (file : List ℕ) (believed lowest best k : ℕ) : Type 0 where
  pub is : best_from first_buckets believed (unsound file) (buckets_of file - k) k best
      ≡ best_from first_buckets believed (unsound file) (buckets_of file - (lowest + 1)) (lowest + 1) lowest

pub searching_start : (file : List ℕ) (believed lowest : ℕ) → Searching file believed lowest lowest (lowest + 1)
searching_start file believed lowest = record { is = refl }

module _ {file : List ℕ} {header : Header} {image : Image} (given : Starting file header image) where
  -- a client believes in at least one bucket
  pub believed_some : {believed : ℕ} → believed ≡ buckets first_buckets image → 0 < believed
  believed_some e = omega (arith, first_believed first_buckets image)

  pub searching_next : {end believed lowest best k r : ℕ} → end ≡ buckets first_buckets header.state
      → Searching file believed lowest best k → k < end → r ≡ better first_buckets believed (unsound file) best k
      → Searching file believed lowest r (k + 1)
  searching_next {end} {believed} {lowest} {best} {k} ee so more er = record {
    is = ap (best_from first_buckets believed (unsound file) (buckets_of file - (k + 1)) (k + 1)) er
        ∙ sym (best_more first_buckets believed (unsound file) (buckets_of file) k best
        (omega (arith, starting_buckets given end ee)))
        ∙ so.is;
  }

  module _ {lowest : ℕ} (low : Lowest file lowest) where
    there : lowest < buckets first_buckets (state_of file)
    there = omega (arith, low.exists, existing file)

    -- the number behind it is one of 32 bits
    pub lowest_room : lowest + 1 < 4294967296
    lowest_room = omega (arith, low.exists, starting_few given)

    -- not every visited bucket is sound
    pub lowest_visited : every (bucket_sound_in file) (visits_of file image) ≡ false
    lowest_visited = go (every (bucket_sound_in file) (visits_of file image)) refl
      where
        go : (b : Bool) → every (bucket_sound_in file) (visits_of file image) ≡ b → b ≡ false
        go true e = absurd (omega (
          arith,
          every_times (bucket_sound_in file) (visits_of file image) lowest e low.bad,
          way_once file given.known.sound image given.formed given.behind lowest low.exists,
        ))
        go false e = refl

    module _ {believed : ℕ} (eb : believed ≡ buckets first_buckets image) where
      -- believed in, the lowest is the first
      pub lowest_first : lowest < believed → lowest ≡ first_unsound file (visits_of file image)
      unfolding visits_of
      lowest_first h = sym
          (first_unsound_lem file (visits_of file image)
          ∙ first_lowest first_buckets (omega arith) (state_of file) given.known.ranges.formed image given.formed
          given.behind (unsound file) no_bucket lowest there (ap not low.bad)
          (λ a l. ap not (low.under a l)) (omega arith))

      -- otherwise the best of all is
      pub searching_done : {end best k : ℕ} → end ≡ buckets first_buckets header.state
          → Searching file believed lowest best k → end ≤ k → best ≡ first_unsound file (visits_of file image)
      unfolding visits_of
      searching_done {end} {best} {k} ee so past =
          sym (best_done first_buckets believed (unsound file) (buckets_of file) k best
          (omega (arith, starting_buckets given end ee)))
          ∙ so.is
          ∙ ap (λ (n : ℕ). best_from first_buckets believed (unsound file) (n - (lowest + 1)) (lowest + 1) lowest)
          (existing file)
          ∙ ap (λ (n : ℕ). best_from first_buckets n (unsound file)
          (buckets first_buckets (state_of file) - (lowest + 1)) (lowest + 1) lowest) eb
          ∙ first_visited first_buckets (omega arith) (state_of file) given.known.ranges.formed image
          given.formed given.behind (unsound file) no_bucket lowest there (ap not low.bad)
          (λ a l. ap not (low.under a l))
          ∙ sym (first_unsound_lem file (visits_of file image))
