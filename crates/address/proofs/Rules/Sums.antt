-- A sum over the visits of a scan is the sum over all buckets, in any order, since each bucket stands among the visits
-- once.
use Rattle.std.specs.Prelude.{ℕ, ◌<◌, ◌≡◌}
use Rattle.std.proofs.Common.{sym, ◌∙◌, arith}
use Rattle.address.specs.declared.Image.{Image}
use Rattle.address.specs.Rules.{Formed, NotAhead, buckets, numbers, visits}
use Rattle.address.specs.Rules.Earlier.{numbers_each}
use Rattle.address.specs.Rules.Sums.{sum_of, sum_counted, counted_same, numbers_once}
use Rattle.address.proofs.Rules.Scan.{visits_once}
use Rattle.address.proofs.Rules.Earlier.{visits_each}

-- a sum over the visits is the sum over all buckets
pub visits_sum : (N : ℕ) → 0 < N → (file : Image) → Formed N file → (image : Image) → Formed N image
    → NotAhead N file image → (f : ℕ → ℕ) → sum_of f (visits N file image) ≡ sum_of f (numbers 0 (buckets N file))
visits_sum N positive file formed image image_formed behind f =
    sum_counted f (visits N file image) (buckets N file)
    (visits_each N positive file formed image image_formed behind (λ x. x < buckets N file) (λ x h. h))
    ∙ counted_same f (visits N file image) (numbers 0 (buckets N file)) (buckets N file)
    (λ x h. visits_once N positive file formed image image_formed behind x h
    ∙ sym (numbers_once x 0 (buckets N file) (omega arith) (omega arith)))
    ∙ sym (sum_counted f (numbers 0 (buckets N file)) (buckets N file)
    (numbers_each (λ x. x < buckets N file) 0 (buckets N file) (λ x low high. omega arith)))
