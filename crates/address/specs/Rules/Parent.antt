-- The parent of a bucket: for 2^k ≤ b < 2^(k+1) it is b - 2^k, the bucket of whose split b was born; the first buckets
-- have none. Trying level after level stops at that k, since spans double.
use Prim.Native.Nat.{ℕ, zero, suc, ◌+◌, ◌-◌, ◌*◌, ◌^◌, ◌%◌, ◌≤◌, ◌<◌}
use Rattle.std.specs.Prelude.{◌≡◌, cond, ltb, Option, None, Some, unwrap_or}
use Rattle.std.proofs.Common.{sym, ◌∙◌, mod-eq_of_lt}
use Rattle.std.proofs.Math.Path.{refl, ap}
use Rattle.std.proofs.Math.Logic.{⊎_elim}
use native.Mathlib.Omega.{arith}
use borrow.Author.Tests.{lt-ltb, le-ltb, le-leb, lt-leb}
use Rattle.std.specs.Int.Count.{count_leading_zeros}
use Rattle.std.proofs.lemmas.Nat.{leading_top}
use Rattle.address.specs.Compare.{below}
use Rattle.address.specs.Limits.{first_buckets, no_bucket}
use Rattle.address.specs.Rules.{span, top_span, parent}
use Rattle.address.specs.Rules.Hash.{span_is, span_mono, span_above}

pub parent_none : (N b : ℕ) → b < N → parent N b ≡ no_bucket
unfolding parent
parent_none N b h = rw (lt-ltb _ _ h)

module _ (N : ℕ) (positive : 0 < N) (b k : ℕ) (above : span N k ≤ b) (under : b < span N (suc k)) where
  top : (j most : ℕ) → j ≤ k → k ≤ j + most → top_span N b j most ≡ span N k
  unfolding top_span
  top j zero up near = ap (span N) (omega arith)
  top j (suc most) up near = ⊎_elim
      (λ l. rw (le-leb (span N (suc j)) b (omega (arith, span_mono N l))) (top (suc j) most l (omega arith)))
      (λ l. here (omega arith))
      (below j k)
    where
      here : j ≡ k → top_span N b j (suc most) ≡ span N k
      here e = rw (lt-leb (span N (suc j)) b (omega (arith, ap (λ (z : ℕ). span N (suc z)) e))) (ap (span N) e)

  pub parent_of : parent N b ≡ b - span N k
  unfolding parent
  parent_of = rw (
    le-ltb b N (omega (arith, span_mono N first, span_is N 0)),
    top 0 b (omega arith)
        (omega (arith, span_above N positive k)),
  )
    where
      first : 0 ≤ k
      first = omega arith

-- The leading zeros of a number of 32 bits tell the power of two to take off.
pub record ByZeros (b : ℕ) : Type 0 where
  pub few : count_leading_zeros 32 b ≤ 31
  pub fits : 1 * 2 ^ (31 - count_leading_zeros 32 b) % 4294967296 ≤ b
  pub is : b - 1 * 2 ^ (31 - count_leading_zeros 32 b) % 4294967296 ≡ parent 1 b

pub by_zeros : (b : ℕ) → 0 < b → b < 2 ^ 32 → ByZeros b
by_zeros b some small =
    let (k, sum, above, under) = leading_top 32 b some small in
    let place : 31 - count_leading_zeros 32 b ≡ k = omega arith in
    let small_power : 1 * 2 ^ k < 4294967296 = omega arith in
    let shift : 1 * 2 ^ (31 - count_leading_zeros 32 b) % 4294967296 ≡ span 1 k =
    ap (λ (z : ℕ). 1 * 2 ^ z % 4294967296) place ∙ mod-eq_of_lt small_power ∙ sym (span_is 1 k) in
    record {
      few = omega arith;
      fits = omega (arith, span_is 1 k);
      is = ap (λ (z : ℕ). b - z) shift
          ∙ sym (parent_of 1 (omega arith) b k (omega (arith, span_is 1 k)) (omega (arith, span_is 1 (suc k))));
    }

-- A bucket or none is told by one number.
pub parent_number : (b : ℕ) {found : Option ℕ} {number : ℕ}
    → found ≡ cond (ltb b first_buckets) None (Some (parent first_buckets b)) → number ≡ unwrap_or found no_bucket
    → number ≡ parent first_buckets b
parent_number b {found} {number} e en = en ∙ ap (λ (o : Option ℕ). unwrap_or o no_bucket) e ∙ ⊎_elim
    (λ l. rw (lt-ltb b first_buckets l) (sym (parent_none first_buckets b l)))
    (λ l. rw (le-ltb b first_buckets l) refl)
    (below b first_buckets)

-- no second parent fits
pub parent_single : (N b o p : ℕ) → o ≡ parent N b → p ≡ parent N b → o ≡ p
parent_single N b o p eo ep = eo ∙ sym ep

-- nor a second answer of a parent that may be none
pub found_single : (N b : ℕ) (o p : Option ℕ) → o ≡ cond (ltb b N) None (Some (parent N b))
    → p ≡ cond (ltb b N) None (Some (parent N b)) → o ≡ p
found_single N b o p eo ep = eo ∙ sym ep
