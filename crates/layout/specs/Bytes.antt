-- Bytes in lent memory: numbers of several bytes, marks, zeros, and what a write leaves. A list of bytes is a list of
-- numbers below 256.
pub mod Tests
pub mod Apart
pub mod Edit
pub mod Numbers
pub mod Words
use Rattle.std.specs.Prelude.{ℕ, zero, suc, ◌+◌, ◌*◌, ◌/◌, ◌%◌, ◌<◌, Bool, true, cond, ◌&&◌, List, [], ◌∷◌, ◌++◌, eqb}
use Rattle.std.specs.Prelude.{length, get_or, take, drop}

-- Every element is a byte.
abbrev pub Bytes : List ℕ → Type 0
Bytes xs = (k : ℕ) → get_or xs k 0 < 256

-- The byte at a place; past the end it reads as 0.
abbrev pub byte_at : List ℕ → ℕ → ℕ
byte_at xs at = get_or xs at 0

-- Little-endian: the number of n bytes that stands at a place.
pub le_at : ℕ → List ℕ → ℕ → ℕ
le_at zero xs at = 0
le_at (suc n) xs at = byte_at xs at + 256 * le_at n xs (suc at)

-- The n bytes of a number, the lowest first.
pub le_bytes : ℕ → ℕ → List ℕ
le_bytes zero x = []
le_bytes (suc n) x = x % 256 ∷ le_bytes n (x / 256)

-- A two-byte mark stands at a place.
abbrev pub marked : List ℕ → ℕ → List ℕ → Bool
marked xs at mark = eqb (byte_at xs at) (byte_at mark 0) && eqb (byte_at xs (at + 1)) (byte_at mark 1)

-- The test passes at every number below n.
pub all_below : (ℕ → Bool) → ℕ → Bool
all_below test zero = true
all_below test (suc n) = all_below test n && test n

-- All bytes are zero.
pub all_zero : List ℕ → Bool
all_zero xs = all_below (λ k. eqb (byte_at xs k) 0) (length xs)

-- The first of c numbers from k on at which the test passes, and the number past them if it passes at none.
pub first_from : (ℕ → Bool) → ℕ → ℕ → ℕ
first_from test zero k = k
first_from test (suc c) k = cond (test k) k (first_from test c (suc k))

-- The bytes from a place on are overwritten by others.
pub edit : ℕ → List ℕ → List ℕ → List ℕ
edit at ys xs = take at xs ++ ys ++ drop (at + length ys) xs

-- n bytes from a place on.
pub part : ℕ → ℕ → List ℕ → List ℕ
part at n xs = take n (drop at xs)
