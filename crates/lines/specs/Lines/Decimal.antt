-- The digits of a number: by cases, and how many there are.
use Rattle.std.specs.Prelude.{ℕ, zero, suc, ◌+◌, ◌/◌, ◌%◌, ◌^◌, ◌≤◌, ◌<◌, ◌≡◌, List, [], ◌∷◌, ◌++◌, length}
use Rattle.std.proofs.Common.{◌∙◌, add-one, arith, lt-ltb, le-ltb, length-append}
use Rattle.std.proofs.Math.Logic.{by_cases}
use Rattle.std.proofs.Math.Decide.{dec_lt}
use Rattle.lines.specs.Bytes.{digit0}
use Rattle.lines.specs.Lines.{decimal_within, decimal}

-- what bounds the recursion is enough if it is above the number
enough : (m n x : ℕ) → x < m → x < n → decimal_within m x ≡ decimal_within n x
unfolding decimal_within
enough zero n x h k = absurd (omega arith)
enough (suc m) zero x h k = absurd (omega arith)
enough (suc m) (suc n) x h k = by_cases (dec_lt x 10)
    (λ l. rw (lt-ltb x 10 l))
    (λ l. rw (le-ltb x 10 (omega arith), enough m n (x / 10) (omega arith) (omega arith)))

module _ (x : ℕ) where
  pub decimal_one : x < 10 → decimal x ≡ (digit0 + x) ∷ []
  unfolding decimal decimal_within
  decimal_one h = rw (lt-ltb x 10 h)

  pub decimal_more : 10 ≤ x → decimal x ≡ decimal (x / 10) ++ ((digit0 + x % 10) ∷ [])
  unfolding decimal decimal_within
  decimal_more h = rw (le-ltb x 10 h, enough x (suc (x / 10)) (x / 10) (omega arith) (omega arith))

  pub decimal_tail : 10 ≤ x → length (decimal x) ≡ suc (length (decimal (x / 10)))
  decimal_tail h = rw (decimal_more h)
      (length-append (decimal (x / 10)) ((digit0 + x % 10) ∷ []) ∙ add-one (length (decimal (x / 10))))

  pub decimal_some : 0 < length (decimal x)
  decimal_some = by_cases (dec_lt x 10) (λ l. rw (decimal_one l) (omega arith))
      (λ l. omega (arith, decimal_tail (omega arith)))

-- what holds of one digit, and of one more digit, holds of all
module _ (P : ℕ → List ℕ → Type 0)
    (one : (x : ℕ) → x < 10 → P x ((digit0 + x) ∷ []))
    (more : (x : ℕ) → 10 ≤ x → (ds : List ℕ) → P (x / 10) ds → P x (ds ++ ((digit0 + x % 10) ∷ []))) where
  within : (most x : ℕ) → x < most → P x (decimal x)
  within zero x h = absurd (omega arith)
  within (suc most) x h = by_cases (dec_lt x 10)
      (λ l. rw (decimal_one x l) (one x l))
      (λ l. rw (decimal_more x (omega arith)) (more x (omega arith) _ (within most (x / 10) (omega arith))))

  pub by_digits : (x : ℕ) → P x (decimal x)
  by_digits x = within (suc x) x (omega arith)

-- a number below 10^n has at most n digits
pub decimal_length : (n x : ℕ) → x < 10 ^ suc n → length (decimal x) ≤ suc n
decimal_length zero x h = rw (decimal_one x (omega arith)) (omega arith)
decimal_length (suc n) x h = by_cases (dec_lt x 10)
    (λ l. rw (decimal_one x l) (omega arith))
    (λ l. omega (arith, decimal_tail x (omega arith), decimal_length n (x / 10) (omega arith)))
