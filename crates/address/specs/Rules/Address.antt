-- The address of a key and the level of a bucket together: an existing bucket a is the address of C exactly if h_{level
-- a}(C) = a. By cases: a below the pointer, a born of a split, or a not yet split; in each h_{i+1}(C) is h_i(C) or one
-- span more.
use Rattle.std.specs.Prelude.{ℕ, suc, ◌+◌, ◌≤◌, ◌<◌, ◌≡◌, ◌↔◌, ◌⊎◌}
use Rattle.std.proofs.Common.{ap, inl, inr, ⊎_elim, arith}
use Rattle.address.specs.Compare.{below}
use Rattle.address.specs.declared.Image.{Image}
use Rattle.address.specs.Rules.{Formed, span, buckets, hash, address, level}
use Rattle.address.specs.Rules.Hash.{span_suc, hash_lt, hash_small, hash_suc}
use Rattle.address.specs.Rules.Cases.{buckets_is, address_low, address_high, level_split, level_born, level_rest}

module _ (N : ℕ) (positive : 0 < N) (s : Image) (formed : Formed N s) where
  -- the address of a key is a bucket that exists
  pub address_exists : (C : ℕ) → address N s C < buckets N s
  address_exists C = rw (buckets_is N s) (⊎_elim low high (below (hash N s.level C) s.pointer))
    where
      low : hash N s.level C < s.pointer → address N s C < span N s.level + s.pointer
      low h = rw (address_low N s C h)
          (⊎_elim (λ e. omega (arith, e)) (λ e. omega (arith, e)) (hash_suc N positive s.level C))

      high : s.pointer ≤ hash N s.level C → address N s C < span N s.level + s.pointer
      high h = rw (address_high N s C h) (omega (arith, hash_lt N positive s.level C))

  -- a bucket's number is below the span of its level
  pub level_spans : (a : ℕ) → a < buckets N s → a < span N (level N s a)
  level_spans a h = ⊎_elim
      (λ l. rw (level_split N s a l) (omega (arith, span_suc N s.level)))
      (λ l. ⊎_elim (λ m. rw (level_rest N s a l m) m)
      (λ m. rw (level_born N s a m) (omega (arith, span_suc N s.level, buckets_is N s)))
      (below a (span N s.level)))
      (below a s.pointer)

  module _ (a C : ℕ) (exists : a < buckets N s) where
    -- what the key's own bucket shows of it, and what shows the key's own bucket
    pub address_own : address N s C ≡ a ↔ hash N (level N s a) C ≡ a
    address_own = go (below low s.pointer) (below a s.pointer) (below a (span N s.level))
        (hash_suc N positive s.level C)
      where
        low : ℕ
        low = hash N s.level C

        at_level : {k : ℕ} → level N s a ≡ k → hash N (level N s a) C ≡ hash N k C
        at_level e = ap (λ (k : ℕ). hash N k C) e

        go : (low < s.pointer) ⊎ (s.pointer ≤ low)
            → (a < s.pointer) ⊎ (s.pointer ≤ a)
            → (a < span N s.level) ⊎ (span N s.level ≤ a)
            → (hash N (suc s.level) C ≡ low) ⊎ (hash N (suc s.level) C ≡ low + span N s.level)
            → address N s C ≡ a ↔ hash N (level N s a) C ≡ a
        go (inl l) (inl m) u v = omega (arith, address_low N s C l, at_level (level_split N s a m))
        go (inl l) (inr m) (inl u) (inl v) = omega (arith, address_low N s C l, at_level (level_rest N s a m u))
        go (inl l) (inr m) (inl u) (inr v) = omega (arith, address_low N s C l, at_level (level_rest N s a m u))
        go (inl l) (inr m) (inr u) v = omega (arith, address_low N s C l, at_level (level_born N s a u))
        go (inr l) (inl m) u (inl v) = omega (arith, address_high N s C l, at_level (level_split N s a m))
        go (inr l) (inl m) u (inr v) = omega
            (arith, address_high N s C l, at_level (level_split N s a m), buckets_is N s)
        go (inr l) (inr m) (inl u) v = omega (arith, address_high N s C l, at_level (level_rest N s a m u))
        go (inr l) (inr m) (inr u) (inl v) = omega
            (arith, address_high N s C l, at_level (level_born N s a u), hash_lt N positive s.level C)
        go (inr l) (inr m) (inr u) (inr v) = omega (
          arith,
          address_high N s C l,
          at_level (level_born N s a u),
          hash_lt N positive s.level C,
          buckets_is N
              s,
        )

  -- a bucket's number is its own address
  pub address_number : (a : ℕ) → a < buckets N s → address N s a ≡ a
  address_number a h = (address_own a a h).1 (hash_small N (level N s a) (level_spans a h))
