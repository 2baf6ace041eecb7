-- The key's own bucket, and whether it holds the key and is full, by what was found there.
use Rattle.std.specs.Prelude.{ℕ, ◌<◌, ◌≡◌, refl, true, List}
use Rattle.std.proofs.Math.Path.{ap, ap₂}
use Rattle.std.proofs.Common.{◌∙◌, arith}
use Rattle.std.proofs.Math.Dec.{leb, ltb}
use Rattle.address.specs.Limits.{first_buckets}
use Rattle.address.specs.Rules.{address}
use Rattle.address.specs.Rules.Address.{address_exists}
use Rattle.bucket.specs.Region.{count_of, slot_of}
use Rattle.file.specs.File.{slots_of, state_of, buckets_of, header_sound, region_of}
use Rattle.file.specs.File.Judge.{header_ranges, existing}
use Rattle.route.specs.Way.{own_of, held, full}

pub own_is : (file : List ℕ) (key a : ℕ) → address first_buckets (state_of file) key ≡ a → own_of file key ≡ a
unfolding own_of
own_is file key a e = e

-- it is there
pub own_exists : (file : List ℕ) → header_sound file ≡ true → (key : ℕ) → own_of file key < buckets_of file
own_exists file header key = rw (own_is file key (address first_buckets (state_of file) key) refl)
    (omega (
      arith,
      existing file,
      address_exists first_buckets (omega arith) (state_of file) (header_ranges file header).formed key,
    ))

module _ (file : List ℕ) (key a : ℕ) (own : a ≡ own_of file key) where
  pub held_is : (k n : ℕ) → k ≡ slot_of (region_of file a) key → n ≡ count_of (region_of file a)
      → ltb k n ≡ held file key
  unfolding held
  held_is k n ek en = ap₂ ltb (ek ∙ ap (λ (x : ℕ). slot_of (region_of file x) key) own)
      (en ∙ ap (λ (x : ℕ). count_of (region_of file x)) own)

  pub full_is : (S n : ℕ) → S ≡ slots_of file → n ≡ count_of (region_of file a) → leb S n ≡ full file key
  unfolding full
  full_is S n eS en = ap₂ leb eS (en ∙ ap (λ (x : ℕ). count_of (region_of file x)) own)
