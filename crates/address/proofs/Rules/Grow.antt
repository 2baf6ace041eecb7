-- What a split does to (i, n): only bucket n and the new bucket have another level; only keys of bucket n move, and
-- only to the new bucket. By the two cases of growth: the pointer goes up by one, or has come to the span and the level
-- goes up.
use Rattle.std.specs.Prelude.{ℕ, suc, ◌<◌, ◌≡◌, ◌⊎◌}
use Rattle.std.proofs.Common.{sym, ◌∙◌, inl, inr, ⊎_elim, arith}
use Rattle.address.specs.Compare.{below}
use Rattle.address.specs.declared.Image.{Image}
use Rattle.address.specs.Rules.{«at», Formed, span, buckets, hash, address, level, splitting, newborn}
use Rattle.address.specs.Rules.{grown}
use Rattle.address.specs.Rules.Hash.{span_suc, hash_lt, hash_suc}
use Rattle.address.specs.Rules.Address.{address_own}
use Rattle.address.specs.Rules.Cases.{buckets_is, newborn_is, address_low}
use Rattle.address.specs.Rules.Cases.{address_high, level_split, level_born, level_rest}
use Rattle.address.specs.Rules.Grow.{by_growth}

module _ (N : ℕ) (positive : 0 < N) (s : Image) (formed : Formed N s) where
  -- the new bucket is the next number
  pub newborn_next : newborn N s ≡ buckets N s
  newborn_next = omega (arith, newborn_is N s, buckets_is N s)

  -- before: bucket n has level i
  pub level_before : level N s (splitting s) ≡ s.level
  level_before = level_rest N s s.pointer (omega arith) formed

  -- after: both have level i+1
  pub level_old : level N (grown N s) (splitting s) ≡ suc s.level
  level_old = by_growth N positive s formed (λ g. level N g s.pointer ≡ suc s.level)
      (λ h. level_split N («at» s.level (suc s.pointer)) s.pointer (omega arith))
      (λ h. level_rest N («at» (suc s.level) 0) s.pointer (omega arith) (omega (arith, span_suc N s.level)))

  pub level_newborn : level N (grown N s) (newborn N s) ≡ suc s.level
  level_newborn = by_growth N positive s formed (λ g. level N g (newborn N s) ≡ suc s.level)
      (λ h. level_born N («at» s.level (suc s.pointer)) (newborn N s) (omega (arith, newborn_is N s)))
      (λ h. level_rest N («at» (suc s.level) 0) (newborn N s) (omega arith)
      (omega (arith, newborn_is N s, span_suc N s.level)))

  -- every other bucket keeps its level
  pub level_other : (a : ℕ) → a < buckets N s → (a ≡ splitting s → ⊥) → level N (grown N s) a ≡ level N s a
  level_other a exists other = by_growth N positive s formed (λ g. level N g a ≡ level N s a) more full
    where
      more : suc s.pointer < span N s.level → level N («at» s.level (suc s.pointer)) a ≡ level N s a
      more h = ⊎_elim
          (λ l. level_split N («at» s.level (suc s.pointer)) a (omega arith) ∙ sym (level_split N s a l))
          (λ l. ⊎_elim
          (λ m. level_rest N («at» s.level (suc s.pointer)) a (omega arith) m ∙ sym (level_rest N s a l m))
          (λ m. level_born N («at» s.level (suc s.pointer)) a m ∙ sym (level_born N s a m))
          (below a (span N s.level)))
          (below a s.pointer)

      full : suc s.pointer ≡ span N s.level → level N («at» (suc s.level) 0) a ≡ level N s a
      full h = level_rest N («at» (suc s.level) 0) a (omega arith)
          (omega (arith, buckets_is N s, span_suc N s.level))
          ∙ sym (⊎_elim (λ l. level_split N s a l) (λ l. level_born N s a (omega arith)) (below a s.pointer))

  -- the keys of bucket n are those with h_i(C) = n
  pub pointed : (C : ℕ) → address N s C ≡ splitting s → hash N s.level C ≡ splitting s
  pointed C own = rw level_before at
      ((address_own N positive s formed s.pointer C (omega (arith, buckets_is N s))).0 own)

  -- a key of bucket n stays there or goes to the new bucket, by h_{i+1}
  pub address_divided : (C : ℕ) → address N s C ≡ splitting s → address N (grown N s) C ≡ hash N (suc s.level) C
  address_divided C own = by_growth N positive s formed (λ g. address N g C ≡ hash N (suc s.level) C)
      (λ h. address_low N («at» s.level (suc s.pointer)) C (omega (arith, pointed C own)))
      (λ h. address_high N («at» (suc s.level) 0) C (omega arith))

  pub divided_cases : (C : ℕ) → address N s C ≡ splitting s
      → (hash N (suc s.level) C ≡ splitting s) ⊎ (hash N (suc s.level) C ≡ newborn N s)
  divided_cases C own = ⊎_elim
      (λ e. inl (omega (arith, e, pointed C own)))
      (λ e. inr (omega (arith, e, pointed C own, newborn_is N s)))
      (hash_suc N positive s.level C)

  -- every other key keeps its address
  pub address_other : (C : ℕ) → (address N s C ≡ splitting s → ⊥) → address N (grown N s) C ≡ address N s C
  address_other C other = by_growth N positive s formed (λ g. address N g C ≡ address N s C) more full
    where
      elsewhere : hash N s.level C ≡ s.pointer → ⊥
      elsewhere e = other (address_high N s C (omega arith) ∙ e)

      more : suc s.pointer < span N s.level → address N («at» s.level (suc s.pointer)) C ≡ address N s C
      more h = ⊎_elim
          (λ l. address_low N («at» s.level (suc s.pointer)) C (omega arith) ∙ sym (address_low N s C l))
          (λ l. address_high N («at» s.level (suc s.pointer)) C (omega (arith, elsewhere))
          ∙ sym (address_high N s C l))
          (below (hash N s.level C) s.pointer)

      full : suc s.pointer ≡ span N s.level → address N («at» (suc s.level) 0) C ≡ address N s C
      full h = address_high N («at» (suc s.level) 0) C (omega arith)
          ∙ sym (address_low N s C (omega (arith, elsewhere, hash_lt N positive s.level C)))
