-- The answer block of insert and search as document 01 has it, and the forwards that it tells.
pub mod Block
use Rattle.std.specs.Prelude.{ℕ, ◌-◌, cond, List, [], ◌∷◌, ◌++◌, eqb, length, get_or, replicate}
use Rattle.address.specs.Limits.{no_bucket}
use Rattle.layout.specs.Bytes.{le_bytes}

-- The answer block: byte 0 the reply; byte 1 how many buckets the route has; bytes 2-7 their numbers in order, 65,535
-- where unused; byte 8 the count held after an accepted insert, otherwise 0 (02 §1); byte 9 zero; bytes 10-23 the
-- payload a search found, otherwise zero.
pub entry : List ℕ → ℕ → List ℕ
entry way k = le_bytes 2 (get_or way k no_bucket)

pub block : ℕ → List ℕ → ℕ → List ℕ → List ℕ
block r way count payload = (r ∷ length way ∷ []) ++ entry way 0 ++ entry way 1 ++ entry way 2 ++ (count ∷ 0 ∷ [])
    ++ payload

pub no_payload : List ℕ
no_payload = replicate 14 0

-- Forwards are the route's buckets less one, or 0 without a route; of bytes that are no answer block, 0.
pub forwards_in : List ℕ → ℕ
forwards_in answer = cond (eqb (length answer) 24) (get_or answer 1 0 - 1) 0
