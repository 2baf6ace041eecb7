-- The new bucket of a split was born of the bucket that was split.
use Rattle.std.specs.Prelude.{ℕ, ◌<◌, ◌≡◌}
use Rattle.std.proofs.Common.{◌∙◌, arith}
use Rattle.address.specs.declared.Image.{Image}
use Rattle.address.specs.Rules.{Formed, newborn, parent}
use Rattle.address.specs.Rules.Hash.{span_suc}
use Rattle.address.specs.Rules.Cases.{newborn_is}
use Rattle.address.specs.Rules.Parent.{parent_of}

-- the new bucket of a split was born of the bucket that was split
pub parent_newborn : (N : ℕ) → 0 < N → (s : Image) → Formed N s → parent N (newborn N s) ≡ s.pointer
parent_newborn N positive s formed =
    parent_of N positive (newborn N s) s.level (omega (arith, newborn_is N s))
    (omega (arith, newborn_is N s, span_suc N s.level))
    ∙ omega (arith, newborn_is N s)
