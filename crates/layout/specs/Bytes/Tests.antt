-- Tests over every number below a bound, and the first number that passes one.
use Rattle.std.specs.Prelude.{ℕ, zero, suc, ◌+◌, ◌-◌, ◌≤◌, ◌<◌, ◌≡◌, refl, Bool, true, false, cond, ◌&&◌, List, eqb}
use Rattle.std.specs.Prelude.{length, get_or, replicate}
use Rattle.std.proofs.Common.{sym, ap, ◌∙◌, true≢false, ⊎_elim, eq-or-lt_of_le, le_of_suc-le-suc, add-one, arith}
use Rattle.std.proofs.Common.{eqb-true, eq-eqb, ext_get_or}
use Rattle.std.proofs.lemmas.List.{length-replicate, get_or-replicate}
use Rattle.layout.specs.Bytes.{all_below, all_zero, first_from}

-- both parts of a conjunction
pub and_left : (a b : Bool) → (a && b) ≡ true → a ≡ true
and_left true b h = refl
and_left false b h = h

pub and_right : (a b : Bool) → (a && b) ≡ true → b ≡ true
and_right true b h = h
and_right false b h = cc

pub and_both : (a b : Bool) → a ≡ true → b ≡ true → (a && b) ≡ true
and_both a b h l = rw (h, l)

pub and_none : (a b : Bool) → b ≡ false → (a && b) ≡ false
and_none true b h = h
and_none false b h = refl

-- a test that passes everywhere passes at each number
pub all_at : (test : ℕ → Bool) (n k : ℕ) → all_below test n ≡ true → k < n → test k ≡ true
unfolding all_below
all_at test zero k h l = absurd (omega arith)
all_at test (suc n) k h l = ⊎_elim
    (λ e. ap test e ∙ and_right (all_below test n) (test n) h)
    (λ m. all_at test n k (and_left (all_below test n) (test n) h) m)
    (eq-or-lt_of_le (le_of_suc-le-suc l))

-- and one that passes at each passes everywhere
pub all_of : (test : ℕ → Bool) (n : ℕ) → ((k : ℕ) → k < n → test k ≡ true) → all_below test n ≡ true
unfolding all_below
all_of test zero h = refl
all_of test (suc n) h = and_both (all_below test n) (test n) (all_of test n (λ k l. h k (omega arith)))
    (h n (omega arith))

-- one failure fails the whole
pub all_fails : (test : ℕ → Bool) (n k : ℕ) → k < n → test k ≡ false → all_below test n ≡ false
all_fails test n k l h = go (all_below test n) refl
  where
    go : (b : Bool) → all_below test n ≡ b → all_below test n ≡ false
    go false e = e
    go true e = absurd (true≢false (sym (all_at test n k e l) ∙ h))

-- so far, and one number more
pub all_none : (test : ℕ → Bool) → all_below test 0 ≡ true
unfolding all_below
all_none test = refl

pub all_more : (test : ℕ → Bool) (n : ℕ) → all_below test (n + 1) ≡ (all_below test n && test n)
unfolding all_below
all_more test n = rw (add-one n)

-- so far zero, one byte more, and all
pub zero_more : (xs : List ℕ) (k : ℕ) (clean : Bool) → clean ≡ all_below (λ i. eqb (get_or xs i 0) 0) k
    → (clean && eqb (get_or xs k 0) 0) ≡ all_below (λ i. eqb (get_or xs i 0) 0) (k + 1)
zero_more xs k clean so = ap (λ (b : Bool). b && eqb (get_or xs k 0) 0) so
    ∙ sym (all_more (λ i. eqb (get_or xs i 0) 0) k)

pub zero_done : (xs : List ℕ) (k : ℕ) (clean : Bool) → k ≤ length xs → length xs ≤ k
    → clean ≡ all_below (λ i. eqb (get_or xs i 0) 0) k → clean ≡ all_zero xs
unfolding all_zero
zero_done xs k clean below above so = so ∙ ap (all_below (λ i. eqb (get_or xs i 0) 0)) all
  where
    all : k ≡ length xs
    all = omega arith

-- all zero is a list of zeros
pub zero_replicate : (xs : List ℕ) → all_zero xs ≡ true → xs ≡ replicate (length xs) 0
unfolding all_zero
zero_replicate xs h = ext_get_or 0 xs (replicate (length xs) 0) (sym (length-replicate (length xs) 0))
    (λ k l. eqb-true (get_or xs k 0) 0 (all_at (λ i. eqb (get_or xs i 0) 0) (length xs) k h l)
    ∙ sym (get_or-replicate (length xs) k 0 0 l))

pub zero_all : (xs : List ℕ) → ((k : ℕ) → k < length xs → get_or xs k 0 ≡ 0) → all_zero xs ≡ true
unfolding all_zero
zero_all xs each = all_of (λ i. eqb (get_or xs i 0) 0) (length xs) (λ k l. eq-eqb (get_or xs k 0) 0 (each k l))

pub replicate_zero : (n : ℕ) → all_zero (replicate n 0) ≡ true
unfolding all_zero
replicate_zero n = all_of (λ i. eqb (get_or (replicate n 0) i 0) 0) (length (replicate n 0))
    (λ k l. eq-eqb (get_or (replicate n 0) k 0) 0
    (get_or-replicate n k 0 0 (omega (arith, length-replicate {A = ℕ} n 0))))

-- the first number that passes: here, later, or none
pub first_here : (test : ℕ → Bool) (e k : ℕ) → k < e → test k ≡ true → first_from test (e - k) k ≡ k
unfolding first_from
first_here test e k h t = ap (λ (c : ℕ). first_from test c k) more ∙ rw t
  where
    more : e - k ≡ suc (e - suc k)
    more = omega arith

pub first_later : (test : ℕ → Bool) (e k : ℕ) → k < e → test k ≡ false
    → first_from test (e - k) k ≡ first_from test (e - (k + 1)) (k + 1)
unfolding first_from
first_later test e k h t = ap (λ (c : ℕ). first_from test c k) more ∙ rw (t, add-one k)
  where
    more : e - k ≡ suc (e - (k + 1))
    more = omega arith

pub first_none : (test : ℕ → Bool) (e k : ℕ) → e ≤ k → first_from test (e - k) k ≡ k
unfolding first_from
first_none test e k h = ap (λ (c : ℕ). first_from test c k) none
  where
    none : e - k ≡ 0
    none = omega arith

-- what the first number shows: it is within, it passes if it is below the end, and none before it does
pub first_within : (test : ℕ → Bool) (c k : ℕ) → (k ≤ first_from test c k) × (first_from test c k ≤ k + c)
unfolding first_from
first_within test zero k = omega arith
first_within test (suc c) k = go (test k) (first_within test c (suc k))
  where
    go : (b : Bool) → (suc k ≤ first_from test c (suc k)) × (first_from test c (suc k) ≤ suc k + c)
        → (k ≤ cond b k (first_from test c (suc k))) × (cond b k (first_from test c (suc k)) ≤ k + suc c)
    go true h = omega arith
    go false h = omega arith

pub first_passes : (test : ℕ → Bool) (c k : ℕ) → first_from test c k < k + c → test (first_from test c k) ≡ true
unfolding first_from
first_passes test zero k h = absurd (omega arith)
first_passes test (suc c) k h = go (test k) refl (first_passes test c (suc k)) h
  where
    go : (b : Bool) → test k ≡ b → (first_from test c (suc k) < suc k + c → test (first_from test c (suc k)) ≡ true)
        → cond b k (first_from test c (suc k)) < k + suc c → test (cond b k (first_from test c (suc k))) ≡ true
    go true e rest l = e
    go false e rest l = rest (omega arith)

pub first_before : (test : ℕ → Bool) (c k i : ℕ) → k ≤ i → i < first_from test c k → test i ≡ false
unfolding first_from
first_before test zero k i low high = absurd (omega arith)
first_before test (suc c) k i low high = go (test k) refl (first_before test c (suc k) i) high
  where
    go : (b : Bool) → test k ≡ b → (suc k ≤ i → i < first_from test c (suc k) → test i ≡ false)
        → i < cond b k (first_from test c (suc k)) → test i ≡ false
    go true e rest l = absurd (omega arith)
    go false e rest l = ⊎_elim (λ same. ap test (sym same) ∙ e) (λ more. rest more l) (eq-or-lt_of_le low)
