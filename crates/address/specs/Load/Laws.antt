-- Load control by its laws: the factor tells the bucket's level, due is a comparison of fractions, and the code's
-- products have room in 64 bits.
use Rattle.std.specs.Prelude.{ℕ, suc, ◌+◌, ◌*◌, ◌^◌, ◌≤◌, ◌<◌, ◌≡◌, refl, true, false, ◌&&◌, ◌↔◌, leb, ltb}
use Rattle.std.proofs.Common.{ap₂, mul_assoc, mul-le-mul, arith}
use Rattle.std.proofs.Math.Logic.{⊎_elim}
use borrow.Author.Tests.{lt-ltb, le-ltb, le-leb, lt-leb}
use Rattle.address.specs.Compare.{below}
use Rattle.address.specs.declared.Image.{Image}
use Rattle.address.specs.Room.{widest, Room, ImageRoom, span_room}
use Rattle.address.specs.Rules.{span, buckets, level}
use Rattle.address.specs.Rules.Cases.{buckets_is, level_split, level_born, level_rest, level_low}
use Rattle.address.specs.Load.{percent, threshold_fits, overfull, factor, due, «over», exceeds}

pub threshold_is : (t : ℕ) → threshold_fits t ≡ (leb 1 t && leb t percent)
unfolding threshold_fits
threshold_is t = refl

pub overfull_no : (b x : ℕ) → x ≤ b → overfull b x ≡ false
unfolding overfull
overfull_no = le-ltb

pub overfull_yes : (b x : ℕ) → b < x → overfull b x ≡ true
unfolding overfull
overfull_yes = lt-ltb

module _ (N : ℕ) (s : Image) (a : ℕ) where
  -- the factor is one more than the bucket's level is above the file's
  pub factor_levels : factor N s a + s.level ≡ suc (level N s a)
  unfolding factor
  factor_levels = ⊎_elim
      (λ l. rw (lt-ltb a s.pointer l) (omega (arith, level_split N s a l)))
      (λ l. ⊎_elim
      (λ m. rw (le-ltb a s.pointer l, lt-leb (span N s.level) a m) (omega (arith, level_rest N s a l m)))
      (λ m. rw (le-ltb a s.pointer l, le-leb (span N s.level) a m) (omega (arith, level_born N s a m)))
      (below a (span N s.level)))
      (below a s.pointer)

  -- so it is 2 exactly where that level is i+1
  pub factor_two : factor N s a ≡ 2 ↔ level N s a ≡ suc s.level
  factor_two = omega (arith, factor_levels)

  pub factor_few : factor N s a ≤ 2
  unfolding factor
  factor_few = ⊎_elim
      (λ l. rw (lt-ltb a s.pointer l) (omega arith))
      (λ l. ⊎_elim
      (λ m. rw (le-ltb a s.pointer l, lt-leb (span N s.level) a m) (omega arith))
      (λ m. rw (le-ltb a s.pointer l, le-leb (span N s.level) a m) (omega arith))
      (below a (span N s.level)))
      (below a s.pointer)

-- split exactly when x·f·2^i over b·(2^i + n) exceeds t over 100
pub due_exceeds : (N : ℕ) (s : Image) (b a x t : ℕ)
    → due N s b a x t
    ≡ exceeds («over» (x * factor N s a * span N s.level) (b * buckets N s)) («over» t percent)
unfolding due exceeds
due_exceeds N s b a x t = ap₂ ltb (mul_assoc t b (buckets N s)) (omega arith)

-- what the code's test of the level tells
module _ (N : ℕ) (s : Image) (a : ℕ) {j : ℕ} (is : j ≡ level N s a) where
  pub factor_same : j ≡ s.level → 1 ≡ factor N s a
  factor_same e = omega (arith, factor_levels N s a)

  pub factor_up : (j ≡ s.level → ⊥) → 2 ≡ factor N s a
  factor_up other = omega (arith, factor_levels N s a, factor_few N s a, level_low N s a, other)

-- the code's comparison, of 32-bit counts: each product has room in 64 bits
module _ (N : ℕ) (s : Image) (room : ImageRoom N s) where
  buckets_room : buckets N s ≤ 2 * widest
  buckets_room = omega (arith, buckets_is N s, room.near, span_room N s.level lower)
    where
      lower : Room N s.level
      lower = record { some = room.levels.some; few = room.levels.few; low = omega (arith, room.levels.low) }

  module _ (t b : ℕ) (low : t ≤ percent) (small : b < 2 ^ 32) where
    wanted : t * b ≤ percent * 2 ^ 32
    wanted = mul-le-mul {n₁ = t} {m₁ = b} {n₂ = percent} {m₂ = 2 ^ 32} low (omega (arith, small))

    pub wanted_room : t * b < 2 ^ 64
    wanted_room = omega (arith, wanted)

    pub wanted_all_room : {m : ℕ} → m ≡ buckets N s → t * b * m < 2 ^ 64
    wanted_all_room {m} em = omega (
      arith,
      mul-le-mul {n₁ = t * b} {m₁ = m} {n₂ = percent * 2 ^ 32} {m₂ = 2 * widest} wanted (omega (arith, buckets_room)),
    )

module _ (w x : ℕ) (narrow : w ≤ widest) (small : x < 2 ^ 32) where
  given : percent * w * x ≤ percent * widest * 2 ^ 32
  given = mul-le-mul {n₁ = percent * w} {m₁ = x} {n₂ = percent * widest} {m₂ = 2 ^ 32} (omega arith)
      (omega (arith, small))

  pub given_room : percent * w * x < 2 ^ 64
  given_room = omega (arith, given)

  pub given_all_room : {f : ℕ} → f ≤ 2 → percent * w * x * f < 2 ^ 64
  given_all_room {f} few = omega (
    arith,
    mul-le-mul {n₁ = percent * w * x} {m₁ = f} {n₂ = percent * widest * 2 ^ 32} {m₂ = 2} given few,
  )

pub due_is : (N : ℕ) (s : Image) (b a x t : ℕ) {w m f : ℕ} → w ≡ span N s.level → m ≡ buckets N s
    → f ≡ factor N s a
    → ltb (t * b * m) (percent * w * x * f) ≡ due N s b a x t
unfolding due
due_is N s b a x t ew em ef = λ i. ltb (t * b * em i) (percent * ew i * x * ef i)
