-- A scan's visits are in the order that `earlier` tells from two numbers alone. Every bucket that was sent a message is
-- believed in or has its parent among those that have handled theirs; so the children of the next one come after all
-- that were sent one before, the lower first.
use Prim.Native.Nat.{ℕ, zero, suc, ◌+◌, ◌-◌, ◌≤◌, ◌<◌}
use Rattle.std.specs.Prelude.{◌≡◌, List, ◌++◌, ◌⊎◌, length, get_or}
use Rattle.std.proofs.Math.Path.{refl}
use Rattle.std.proofs.Common.{sym, subst, ◌∙◌, inl, inr, arith, take_all}
use Rattle.std.proofs.Math.Bool.{true}
use Rattle.std.proofs.Math.Logic.{⊎_elim}
use Rattle.std.proofs.Math.ListN.{get_or-append}
use Rattle.address.specs.Compare.{below}
use Rattle.address.specs.declared.Image.{Image}
use Rattle.address.specs.Rules.{Formed, NotAhead, span, buckets, level, child, numbers, visits}
use Rattle.address.specs.Rules.{parent, earlier}
use Rattle.address.specs.Rules.Hash.{span_suc}
use Rattle.address.specs.Rules.Address.{level_spans}
use Rattle.address.proofs.Rules.Scan.{visits_only, visits_length}
use Rattle.address.specs.Rules.Order.{born, Told, Scanning, scanning_few}
use Rattle.address.specs.Rules.Order.{scanning_waits, scanning_next, scanning_done, child_later}
use Rattle.address.proofs.Rules.Order.{scanning_start}
use Rattle.address.specs.Rules.Earlier.{between_spans, first_believed, numbers_ordered, numbers_each, Ordered, Sooner}
use Rattle.address.specs.Rules.Earlier.{AllOf, each_map, each_append, each_all, ordered_at, born_ordered, born_parent}

module _ (N : ℕ) (positive : 0 < N) (file : Image) (formed : Formed N file)
    (image : Image) (image_formed : Formed N image) (behind : NotAhead N file image) where
  -- every bucket has a message level, and its number is below the span of it
  told_of : (a : ℕ) → (l : ℕ) × Told N image a l × (a < span N l)
  told_of a = ⊎_elim believed not_believed (below a (buckets N image))
    where
      believed : a < buckets N image → (l : ℕ) × Told N image a l × (a < span N l)
      believed h = (
        level N image a,
        record { believed = λ b. refl; under = λ b. absurd (omega arith); above = λ b. absurd (omega arith) },
        level_spans N positive image image_formed a h,
      )

      not_believed : buckets N image ≤ a → (l : ℕ) × Told N image a l × (a < span N l)
      not_believed h =
          let (k, low, high) = between_spans N a positive (omega (arith, first_believed N image)) in (
            suc k,
            record {
              believed = λ b. absurd (omega arith);
              under = λ b. high;
              above = λ b. omega (arith, span_suc N k);
            },
            high,
          )

  -- The first h of the buckets that were sent a message have handled theirs: a bucket is believed in or was born of one
  -- of them.
  abbrev Caused : ℕ → List ℕ → ℕ → Type 0
  Caused h sent x = (x < buckets N image) ⊎ ((j : ℕ) × (j < h) × (parent N x ≡ get_or sent j 0))

  record Queued (h : ℕ) (sent : List ℕ) : Type 0 where
    under_way : Scanning N file image h sent
    order : Ordered N (buckets N image) sent
    caused : AllOf (Caused h sent) sent

  queued_start : Queued 0 (numbers 0 (buckets N image))
  queued_start = record {
    under_way = scanning_start N positive file formed image image_formed behind;
    order = numbers_ordered N positive (buckets N image) (first_believed N image) 0 (buckets N image) (omega arith);
    caused = numbers_each (Caused 0 (numbers 0 (buckets N image))) 0 (buckets N image)
        (λ x low high. inl (omega arith));
  }

  module _ (h : ℕ) (sent : List ℕ) (so : Queued h sent) (more : h < buckets N file) where
    waits : h < length sent
    waits = scanning_waits N positive file formed image image_formed behind h sent so.under_way more

    queued_next : (a l c : ℕ) → a ≡ get_or sent h 0 → Told N image a l → a < span N l
        → Scanning N file image (suc h) (sent ++ born N a l c) → Queued (suc h) (sent ++ born N a l c)
    queued_next a l c ea told low next = record {
      under_way = next;
      order = born_ordered N positive (buckets N image) (first_believed N image) a c l sent low
          (λ k up. child_later N image image_formed a l k told up) so.order
          (each_map (Caused h sent) (Sooner N positive (buckets N image) (first_believed N image) a (child N a l))
          sooner sent
          so.caused);
      caused = each_append (Caused (suc h) after) sent (born N a l c)
          (each_map (Caused h sent) (Caused (suc h) after) kept sent so.caused)
          (each_map (λ x. parent N x ≡ a) (Caused (suc h) after)
          (λ x e. inr (h, omega arith, e ∙ ea ∙ sym (stays h waits))) (born N a l c)
          (born_parent N positive (buckets N image) (first_believed N image) a l c low));
    }
      where
        after : List ℕ
        after = sent ++ born N a l c

        stays : (j : ℕ) → j < length sent → get_or after j 0 ≡ get_or sent j 0
        stays j there = get_or-append sent (born N a l c) 0 j there

        sooner : (x : ℕ) → Caused h sent x
            → Sooner N positive (buckets N image) (first_believed N image) a (child N a l) x
        sooner x (inl b) = inl b
        sooner x (inr (j, done, e)) = inr
            (inl (rw (e, ea) (ordered_at N (buckets N image) sent j h so.order done waits)))

        kept : (x : ℕ) → Caused h sent x → Caused (suc h) after x
        kept x (inl b) = inl b
        kept x (inr (j, done, e)) = inr (j, omega arith, e ∙ sym (stays j (omega (arith, waits))))

  queued_done : (c h : ℕ) (sent : List ℕ) → h + c ≡ buckets N file → Queued h sent
      → Ordered N (buckets N image) (visits N file image)
  queued_done zero h sent all so = subst (Ordered N (buckets N image))
      (sym (take_all h sent
      (omega (arith, scanning_few N positive file formed image image_formed behind h sent so.under_way)))
      ∙ scanning_done N positive file formed image image_formed behind h sent so.under_way (omega arith))
      so.order
  queued_done (suc c) h sent all so =
      let a : ℕ = get_or sent h 0 in
      let (l, told, low) = told_of a in
      let answered = scanning_next N positive file formed image image_formed behind h sent so.under_way (omega arith)
      a l refl told in
      queued_done c (suc h) (sent ++ born N a l (level N file a - l)) (omega arith)
      (queued_next h sent so (omega arith) a l (level N file a - l) refl told low answered.next)

  -- the visits of a scan are in order
  pub visits_ordered : Ordered N (buckets N image) (visits N file image)
  visits_ordered = queued_done (buckets N file) 0 (numbers 0 (buckets N image)) (omega arith) queued_start

  -- by places
  pub visits_earlier : (p q : ℕ) → p < q → q < buckets N file
      → earlier N (buckets N image) (get_or (visits N file image) p 0) (get_or (visits N file image) q 0) ≡ true
  visits_earlier p q h there = ordered_at N (buckets N image) (visits N file image) p q visits_ordered h
      (omega (arith, visits_length N positive file formed image image_formed behind))

  -- a property of all buckets is one of each visit
  pub visits_each : (P : ℕ → Type 0) → ((x : ℕ) → x < buckets N file → P x) → AllOf P (visits N file image)
  visits_each P f = each_all P (visits N file image)
      (λ x h. ⊎_elim (f x)
      (λ past. absurd (omega (arith, visits_only N positive file formed image image_formed behind x past)))
      (below x (buckets N file)))
