-- Load control's decision on figures, computed: on both sides of the threshold, and with each factor.
use Rattle.std.specs.Prelude.{ℕ, ◌+◌, ◌≡◌, refl, true, false}
use Rattle.std.proofs.Common.{ap, ◌∙◌}
use Rattle.address.specs.Rules.{«at», span, buckets}
use Rattle.address.specs.Rules.Cases.{buckets_is}
use Rattle.address.specs.Rules.Hash.{span_is}
use Rattle.address.specs.Load.{overfull, factor, due}

pub record Examples : Type 0 where
  -- a count at the capacity is not overfull, one above it is
  pub at_capacity : (overfull 2 2 ≡ false) × (overfull 2 3 ≡ true)
  -- in (1, 1) buckets 0 and 2 are of level 2, bucket 1 is not
  pub factors : (factor 1 («at» 1 1) 0 ≡ 2) × (factor 1 («at» 1 1) 1 ≡ 1) × (factor 1 («at» 1 1) 2 ≡ 2)
  -- bucket 1 with 3 records of capacity 2: 100 · 2 · 3 · 1 = 600 is above 99 · 2 · 3, and not above 100 · 2 · 3
  pub rest : (due 1 («at» 1 1) 2 1 3 99 ≡ true) × (due 1 («at» 1 1) 2 1 3 100 ≡ false)
  -- bucket 0 with as many: 100 · 2 · 3 · 2 = 1200
  pub split : due 1 («at» 1 1) 2 0 3 100 ≡ true
  -- bucket 2, just born, with as many
  pub born : due 1 («at» 1 1) 2 2 3 100 ≡ true

-- two buckets are the span of level 1, three all that there are in (1, 1)
two : span 1 1 ≡ 2
two = span_is 1 1

three : buckets 1 («at» 1 1) ≡ 3
three = buckets_is 1 («at» 1 1) ∙ ap (λ (n : ℕ). n + 1) two

pub examples : Examples
unfolding overfull factor due
examples = record {
  at_capacity = (refl, refl);
  factors = (refl, rw two, rw two);
  rest = (rw (two, three), rw (two, three));
  split = rw (two, three);
  born = rw (two, three);
}
