-- Two numbers compared: what a proof by cases starts from.
use Rattle.std.specs.Prelude.{ℕ, ◌≤◌, ◌<◌, ◌≡◌, ◌⊎◌}
use Rattle.std.proofs.Common.{inl, inr, arith}
use Rattle.std.proofs.Math.Logic.{by_cases}
use Rattle.std.proofs.Math.Decide.{dec_lt, ℕ_discrete}

pub below : (a b : ℕ) → (a < b) ⊎ (b ≤ a)
below a b = by_cases (dec_lt a b) inl (λ h. inr (omega arith))

pub same : (a b : ℕ) → (a ≡ b) ⊎ (a ≡ b → ⊥)
same a b = by_cases (ℕ_discrete a b) inl inr
