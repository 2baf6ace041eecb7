-- What the code of the rules asks of its figures, so that every span fits a machine number: no limit of the file, only
-- the machine's room.
use Rattle.std.specs.Prelude.{ℕ, suc, ◌*◌, ◌^◌, ◌%◌, ◌≤◌, ◌<◌, ◌≡◌, refl}
use Rattle.std.proofs.Common.{sym, ap, ◌∙◌, mul-le-mul_left, mul-le-mul_right, mod-eq_of_lt, le_trans, arith, pow_mono}
use Rattle.address.specs.declared.Image.{Image}
use Rattle.address.specs.Rules.{span, hash}
use Rattle.address.specs.Rules.Hash.{span_is, hash_is, hash_lt}

-- The widest span that there is room for, 2^24.
abbrev pub widest : ℕ
widest = 16777216

-- 1 to 16 first buckets, and a level of at most 20.
pub record Room (first level : ℕ) : Type 0 where
  pub some : 0 < first
  pub few : first ≤ 16
  pub low : level ≤ 20

-- The same of an image, one level up, with a pointer no greater than the greatest span.
pub record ImageRoom (first : ℕ) (image : Image) : Type 0 where
  pub levels : Room first (suc image.level)
  pub near : image.pointer ≤ widest

module _ (N k : ℕ) (room : Room N k) where
  -- spans are then at most 2^24
  pub span_room : span N k ≤ widest
  span_room = rw (span_is N k)
      (le_trans (mul-le-mul_right (2 ^ k) room.few) (mul-le-mul_left 16 (pow_mono room.low)))

  pub hash_room : (C : ℕ) → hash N k C < widest
  hash_room C = omega (arith, hash_lt N room.some k C, span_room)

  -- and a shift at any width above that loses nothing
  pub span_shift : (m : ℕ) → widest < m → N * 2 ^ k % m ≡ span N k
  span_shift m wide = ap (λ (s : ℕ). s % m) (sym (span_is N k)) ∙ mod-eq_of_lt (omega (arith, span_room))

  pub span_shift_one : (m : ℕ) → widest < m → N ≡ 1 → 1 * 2 ^ k % m ≡ span N k
  span_shift_one m wide one = ap (λ (n : ℕ). n * 2 ^ k % m) (sym one) ∙ span_shift m wide

  -- the hash is the remainder by whatever equals the span
  pub hash_by : (C s : ℕ) → s ≡ span N k → (C % s ≡ hash N k C) × (C % s < widest)
  hash_by C s e = rw (ap (λ (z : ℕ). C % z) e ∙ sym (hash_is N k C)) (refl, hash_room C)
