-- The image after a key was sent by a client that is not ahead: well formed, never ahead, and, where the first bucket
-- did not keep the key, of more buckets than before. A first bucket a of level j that does not keep the key is below
-- 2^(j-1), and the client then believes in exactly 2^(j-1) + a + 1 buckets.
use Rattle.std.specs.Prelude.{ℕ, suc, ◌+◌, ◌-◌, ◌≤◌, ◌<◌, ◌≡◌}
use Rattle.std.proofs.Common.{refl, ap, ◌∙◌, ⊎_elim, arith}
use Rattle.address.specs.Compare.{below, same}
use Rattle.address.specs.declared.Image.{Image}
use Rattle.address.specs.Rules.{Formed, NotAhead, span, buckets, hash, address, level, wrapped}
use Rattle.address.specs.Rules.{keeps, adjusted, image_after}
use Rattle.address.specs.Rules.Hash.{span_suc, span_mono}
use Rattle.address.specs.Rules.Cases.{buckets_is, level_split, level_low, keeps_yes, keeps_no, adjusted_kept}
use Rattle.address.specs.Rules.Cases.{adjusted_behind}
use Rattle.address.specs.Rules.Grow.{wrapped_formed, wrapped_buckets}
use Rattle.address.specs.Rules.Route.{first_own, first_level, left_level, left_low, place}

pub image_after_is : (N : ℕ) (file image : Image) (C : ℕ) → image_after N file image C
    ≡ adjusted N image (address N image C) (level N file (address N image C))
    (keeps N (address N image C) (level N file (address N image C)) C)
unfolding image_after
image_after_is N file image C = refl

module _ (N : ℕ) (positive : 0 < N) (file : Image) (formed : Formed N file)
    (image : Image) (image_formed : Formed N image) (behind : NotAhead N file image) (C : ℕ) where
  pub after_kept : hash N (level N file (address N image C)) C ≡ address N image C → image_after N file image C ≡ image
  unfolding image_after
  after_kept e = rw (keeps_yes N (address N image C) (level N file (address N image C)) C e)
      (adjusted_kept N image (address N image C) (level N file (address N image C)))

  module _ (leaves : hash N (level N file (address N image C)) C ≡ address N image C → ⊥) where
    -- the client's level of the bucket is too low
    client_level : level N image (address N image C) < level N file (address N image C)
    client_level = left_level N positive file formed C (address N image C) (level N image (address N image C))
        (first_level N positive file formed image image_formed behind C)
        (first_own N positive file formed image image_formed behind C) leaves

    -- a first bucket that does not keep the key has j > i'
    pub left_behind : image.level < level N file (address N image C)
    left_behind = omega (arith, level_low N image (address N image C), client_level)

    low : address N image C < span N (level N file (address N image C) - 1)
    low = left_low N positive file formed C (address N image C) (level N image (address N image C))
        (first_level N positive file formed image image_formed behind C)
        (first_own N positive file formed image image_formed behind C) leaves

    pub after_left : image_after N file image C
        ≡ wrapped N (level N file (address N image C) - 1) (suc (address N image C))
    unfolding image_after
    after_left = rw (keeps_no N (address N image C) (level N file (address N image C)) C leaves)
        (adjusted_behind N image (address N image C) (level N file (address N image C)) left_behind)

    pub after_buckets : buckets N (image_after N file image C)
        ≡ span N (level N file (address N image C) - 1) + suc (address N image C)
    after_buckets = ap (buckets N) after_left
        ∙ wrapped_buckets N (level N file (address N image C) - 1) (suc (address N image C)) low

    -- more buckets than before
    pub after_more : buckets N image < buckets N (image_after N file image C)
    after_more = ⊎_elim
        (λ h. omega (arith, after_buckets, buckets_is N image, span_suc N image.level, span_mono N h))
        (λ h. level_with (omega (arith, left_behind)))
        (below image.level (level N file (address N image C) - 1))
      where
        level_with : image.level ≡ level N file (address N image C) - 1
            → buckets N image < buckets N (image_after N file image C)
        level_with e = ⊎_elim
            (λ l. absurd (omega (arith, level_split N image (address N image C) l, client_level)))
            (λ l. omega (arith, after_buckets, buckets_is N image, ap (span N) e))
            (below (address N image C) image.pointer)

    -- and no more than exist
    after_exist : buckets N (image_after N file image C) ≤ buckets N file
    after_exist = ⊎_elim
        (λ l. omega (arith, after_buckets, l, ap (span N) l.1, buckets_is N file))
        (λ l. omega (
          arith,
          after_buckets,
          low,
          ap (span N) l.1,
          span_suc N (level N file (address N image C) - 1),
          buckets_is N file,
        ))
        (place N positive file formed (address N image C) (level N file (address N image C) - 1)
        (omega (arith, left_behind)) low)

  -- whether kept or not: well formed, not ahead, and of no fewer buckets
  pub after_formed : Formed N (image_after N file image C)
  after_formed = ⊎_elim
      (λ e. rw (after_kept e) image_formed)
      (λ e. rw (after_left e) (wrapped_formed N positive _ _))
      (same (hash N (level N file (address N image C)) C) (address N image C))

  pub after_behind : NotAhead N file (image_after N file image C)
  after_behind = ⊎_elim
      (λ e. rw (after_kept e) behind)
      after_exist
      (same (hash N (level N file (address N image C)) C) (address N image C))

  pub after_grows : buckets N image ≤ buckets N (image_after N file image C)
  after_grows = ⊎_elim
      (λ e. omega (arith, ap (buckets N) (after_kept e)))
      (λ e. omega (arith, after_more e))
      (same (hash N (level N file (address N image C)) C) (address N image C))
