-- Two buckets followed up to their parents: whichever of the two reached is first, its descendant is.
use Rattle.std.specs.Prelude.{ℕ, ◌≤◌, ◌<◌, ◌≡◌, refl, Bool, true, false, ◌&&◌, ◌⊎◌, ltb, leb}
use Rattle.std.proofs.Common.{sym, ap₂, ◌∙◌, inl, inr, arith, leb-true, leb-false}
use Rattle.address.specs.Limits.{first_buckets}
use Rattle.address.specs.Rules.{parent, earlier}
use Rattle.address.specs.Rules.Earlier.{earlier_number, earlier_parents}
use Rattle.layout.specs.Bytes.Tests.{and_left, and_right}

-- What is known of the two that were reached from a bucket and another: they are visited in the same order.
pub record Lockstep (believed bucket other one two : ℕ) : Type 0 where
  pub some : 0 < believed
  pub alike : earlier first_buckets believed one two ≡ earlier first_buckets believed bucket other

pub lockstep_start : (believed bucket other : ℕ) → 0 < believed → Lockstep believed bucket other bucket other
lockstep_start believed bucket other some = record { some = some; alike = refl }

module _ {believed bucket other one two : ℕ} (so : Lockstep believed bucket other one two) where
  -- neither is believed in
  pub lockstep_past : (leb believed one && leb believed two) ≡ true → (believed ≤ one) × (believed ≤ two)
  lockstep_past e = (
    leb-true believed one (and_left (leb believed one) (leb believed two) e),
    leb-true believed two (and_right (leb believed one) (leb believed two) e),
  )

  -- one of them is
  pub lockstep_believed : (leb believed one && leb believed two) ≡ false
      → ltb one two ≡ earlier first_buckets believed bucket other
  lockstep_believed e = sym (earlier_number first_buckets (omega arith) believed so.some one two
      (go (leb believed one) (leb believed two) (leb-false believed one) (leb-false believed two) e)) ∙ so.alike
    where
      go : (a b : Bool) → (a ≡ false → one < believed) → (b ≡ false → two < believed) → (a && b) ≡ false
          → (one < believed) ⊎ ((two < believed) ⊎ (parent first_buckets one ≡ parent first_buckets two))
      go true b l r h = inr (inl (r h))
      go false b l r h = inl (l h)

  module _ {above beside : ℕ} (ea : above ≡ parent first_buckets one) (eb : beside ≡ parent first_buckets two) where
    -- they have one parent
    pub lockstep_siblings : above ≡ beside → ltb one two ≡ earlier first_buckets believed bucket other
    lockstep_siblings e =
        sym (earlier_number first_buckets (omega arith) believed so.some one two (inr (inr cc))) ∙ so.alike

    -- or their parents are reached next
    pub lockstep_parents : (leb believed one && leb believed two) ≡ true → (above ≡ beside → ⊥)
        → Lockstep believed bucket other above beside
    lockstep_parents past e =
        let (low, high) = lockstep_past past in
        record {
          some = so.some;
          alike = ap₂ (earlier first_buckets believed) ea eb
              ∙ sym
              (earlier_parents first_buckets (omega arith) believed so.some one two low high
              (λ s. e (ea ∙ s ∙ sym eb)))
              ∙ so.alike;
        }
