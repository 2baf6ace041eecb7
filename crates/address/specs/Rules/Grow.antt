-- What a split does to (i, n): well formed, and one bucket more. By the two cases of growth: the pointer goes up by
-- one, or has come to the span and the level goes up. Levels and addresses after it: proofs/Rules/Grow.antt.
use Rattle.std.specs.Prelude.{ℕ, suc, ◌+◌, ◌≤◌, ◌<◌, ◌≡◌}
use Rattle.std.proofs.Common.{sym, subst, ◌∙◌, ⊎_elim, arith}
use Rattle.address.specs.Compare.{below}
use Rattle.address.specs.declared.Image.{Image}
use Rattle.address.specs.Rules.{«at», Formed, span, buckets, wrapped}
use Rattle.address.specs.Rules.{grown}
use Rattle.address.specs.Rules.Hash.{span_suc, span_pos}
use Rattle.address.specs.Rules.Cases.{buckets_is, grown_is, wrapped_below, wrapped_full}

-- wrapping keeps the number of buckets, and leaves a pointer below the span
pub wrapped_formed : (N : ℕ) → 0 < N → (k p : ℕ) → Formed N (wrapped N k p)
wrapped_formed N positive k p = ⊎_elim
    (λ h. rw (wrapped_below N k p h) h)
    (λ h. rw (wrapped_full N k p h) (span_pos N positive (suc k)))
    (below p (span N k))

pub wrapped_buckets : (N k p : ℕ) → p ≤ span N k → buckets N (wrapped N k p) ≡ span N k + p
wrapped_buckets N k p h = ⊎_elim
    (λ l. rw (wrapped_below N k p l) (buckets_is N («at» k p)))
    (λ l. rw (wrapped_full N k p l) (omega (arith, buckets_is N («at» (suc k) 0), span_suc N k)))
    (below p (span N k))

module _ (N : ℕ) (positive : 0 < N) (s : Image) (formed : Formed N s) where
  pub by_growth : (P : Image → Type 0)
      → (suc s.pointer < span N s.level → P («at» s.level (suc s.pointer)))
      → (suc s.pointer ≡ span N s.level → P («at» (suc s.level) 0)) → P (grown N s)
  by_growth P more full = ⊎_elim
      (λ h. subst P (sym (grown_is N s ∙ wrapped_below N s.level (suc s.pointer) h)) (more h))
      (λ h. subst P (sym (grown_is N s ∙ wrapped_full N s.level (suc s.pointer) h)) (full (omega arith)))
      (below (suc s.pointer) (span N s.level))

  pub grown_formed : Formed N (grown N s)
  grown_formed = rw (grown_is N s) (wrapped_formed N positive s.level (suc s.pointer))

  pub grown_buckets : buckets N (grown N s) ≡ suc (buckets N s)
  grown_buckets = rw (grown_is N s, wrapped_buckets N s.level (suc s.pointer) formed)
      (omega (arith, buckets_is N s))
