-- A sum over a list of numbers below a bound is the sum over the numbers below it, each as often as it stands in the
-- list. That a sum over a scan's visits is the sum over all buckets: proofs/Rules/Sums.antt.
use Prim.Native.Nat.{ℕ, zero, suc, ◌+◌, ◌-◌, ◌*◌, ◌≤◌, ◌<◌}
use Rattle.std.specs.Prelude.{◌≡◌}
use Rattle.std.proofs.Math.Path.{refl, sym, ap}
use Rattle.std.proofs.Common.{◌∙◌, arith}
use mathlib.Core.List.{List, [], ◌∷◌}
use Rattle.std.proofs.Math.Logic.{⊎_elim}
use Rattle.address.specs.Compare.{same}
use Rattle.address.specs.Rules.{numbers}
use Rattle.address.specs.Rules.Scan.{times, times_none, times_here, times_there}
use Rattle.address.specs.Rules.Order.{numbers_cons, numbers_none}
use Rattle.address.specs.Rules.Earlier.{AllOf}

-- The sum of a figure of each number in a list.
pub sum_of : (ℕ → ℕ) → List ℕ → ℕ
sum_of f [] = 0
sum_of f (x ∷ xs) = f x + sum_of f xs

pub sum_none : (f : ℕ → ℕ) → sum_of f [] ≡ 0
unfolding sum_of
sum_none f = refl

pub sum_cons : (f : ℕ → ℕ) (x : ℕ) (xs : List ℕ) → sum_of f (x ∷ xs) ≡ f x + sum_of f xs
unfolding sum_of
sum_cons f x xs = refl

-- over numbers in a row, by the first of them
pub sum_more : (f : ℕ → ℕ) (k end : ℕ) → k < end
    → sum_of f (numbers k (end - k)) ≡ f k + sum_of f (numbers (k + 1) (end - (k + 1)))
sum_more f k end h =
    ap (sum_of f) (numbers_cons k end h) ∙ sum_cons f k (numbers (k + 1) (end - (k + 1)))

pub sum_done : (f : ℕ → ℕ) (k end : ℕ) → end ≤ k → sum_of f (numbers k (end - k)) ≡ 0
sum_done f k end h = ap (sum_of f) (numbers_none k (end - k) (omega arith)) ∙ sum_none f

-- The figures of the numbers below n, each as often as it stands in a list.
pub counted : (ℕ → ℕ) → List ℕ → ℕ → ℕ
counted f xs zero = 0
counted f xs (suc n) = counted f xs n + times n xs * f n

module _ (f : ℕ → ℕ) where
  counted_none : (n : ℕ) → counted f [] n ≡ 0
  unfolding counted
  counted_none zero = refl
  counted_none (suc n) = rw (times_none n) (omega (arith, counted_none n))

  counted_past : (x : ℕ) (xs : List ℕ) (n : ℕ) → n ≤ x → counted f (x ∷ xs) n ≡ counted f xs n
  unfolding counted
  counted_past x xs zero h = refl
  counted_past x xs (suc n) h = rw (times_there n x xs (omega arith), counted_past x xs n (omega arith))

  counted_cons : (x : ℕ) (xs : List ℕ) (n : ℕ) → x < n → counted f (x ∷ xs) n ≡ f x + counted f xs n
  unfolding counted
  counted_cons x xs zero h = absurd (omega arith)
  counted_cons x xs (suc n) h = ⊎_elim here
      (λ e. there e (counted_cons x xs n (omega (arith, e)))) (same n x)
    where
      here : n ≡ x → counted f (x ∷ xs) (suc n) ≡ f x + counted f xs (suc n)
      here e = rw (times_here n x xs e, counted_past x xs n (omega arith)) (omega (arith, ap f e))

      there : (n ≡ x → ⊥) → counted f (x ∷ xs) n ≡ f x + counted f xs n
          → counted f (x ∷ xs) (suc n) ≡ f x + counted f xs (suc n)
      there e so = rw (times_there n x xs e) (omega (arith, so))

  -- a list of numbers below n
  pub sum_counted : (xs : List ℕ) (n : ℕ) → AllOf (λ x. x < n) xs → sum_of f xs ≡ counted f xs n
  unfolding sum_of
  sum_counted [] n e = sym (counted_none n)
  sum_counted (x ∷ xs) n e = omega (arith, sum_counted xs n e.1, counted_cons x xs n e.0)

  -- two lists in which every number below n stands equally often
  pub counted_same : (xs ys : List ℕ) (n : ℕ) → ((x : ℕ) → x < n → times x xs ≡ times x ys)
      → counted f xs n ≡ counted f ys n
  unfolding counted
  counted_same xs ys zero s = refl
  counted_same xs ys (suc n) s = rw (s n (omega arith), counted_same xs ys n (λ x h. s x (omega arith)))

-- each number of a row stands there once
numbers_lower : (x a c : ℕ) → x < a → times x (numbers a c) ≡ 0
unfolding numbers
numbers_lower x a zero h = times_none x
numbers_lower x a (suc c) h = times_there x a (numbers (suc a) c) (omega arith)
    ∙ numbers_lower x (suc a) c (omega arith)

pub numbers_once : (x a c : ℕ) → a ≤ x → x < a + c → times x (numbers a c) ≡ 1
unfolding numbers
numbers_once x a zero low high = absurd (omega arith)
numbers_once x a (suc c) low high = ⊎_elim
    (λ e. times_here x a (numbers (suc a) c) e ∙ ap suc (numbers_lower x (suc a) c (omega (arith, e))))
    (λ e. times_there x a (numbers (suc a) c) e ∙ numbers_once x (suc a) c (omega (arith, e)) (omega arith))
    (same x a)
