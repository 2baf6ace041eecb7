-- Load control (02 §2): when an overfull bucket makes a split due, over the number of first buckets N. Numbers only.
-- The definitions are shut, and known by the laws of the modules below.
pub mod Laws
pub mod Table
use Rattle.std.specs.Prelude.{ℕ, ◌*◌, Bool, cond, ◌&&◌, ◌||◌, leb, ltb}
use Rattle.address.specs.declared.Image.{Image}
use Rattle.address.specs.Rules.{span, buckets}

-- A threshold t in percent from 1 to 100.
abbrev pub percent : ℕ
percent = 100

pub threshold_fits : ℕ → Bool
threshold_fits t = leb 1 t && leb t percent

-- After an overfull insert, which leaves a count x above the capacity b,
pub overfull : ℕ → ℕ → Bool
overfull b x = ltb b x

-- into bucket a in (i, n), take f = 2 if a < n or a ≥ 2^i, else 1,
pub factor : ℕ → Image → ℕ → ℕ
factor N s a = cond (ltb a s.pointer || leb (span N s.level) a) 2 1

-- and split exactly when 100·2^i·x·f > t·b·(2^i + n).
pub due : ℕ → Image → ℕ → ℕ → ℕ → ℕ → Bool
due N s b a x t = ltb (t * b * buckets N s) (percent * span N s.level * x * factor N s a)

-- A fraction, and when one exceeds another: by cross products.
pub record Fraction : Type 0 where
  pub above : ℕ
  pub below : ℕ

abbrev pub «over» : ℕ → ℕ → Fraction
«over» x y = record { above = x; below = y }

pub exceeds : Fraction → Fraction → Bool
exceeds p q = ltb (q.above * p.below) (p.above * q.below)
