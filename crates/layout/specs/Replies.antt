-- The numbered replies: each is given exactly under its condition, and the first match wins.
pub mod Passing
pub mod Refused
use Rattle.std.specs.Prelude.{ℕ, ◌≡◌, refl, Bool, true, false, cond, List, [], ◌∷◌, ◌++◌, eqb}
use Rattle.std.proofs.Common.{ap, ne_eqb}

-- A refusal: its condition and its number.
pub record Refusal : Type 0 where
  pub holds : Bool
  pub number : ℕ

abbrev pub refuse : ℕ → Bool → Refusal
refuse number holds = record { holds = holds; number = number }

-- The number of the first refusal whose condition holds, or the reply of a call that is not refused.
pub reply : List Refusal → ℕ → ℕ
reply [] done = done
reply (refusal ∷ rest) done = cond refusal.holds refusal.number (reply rest done)

pub reply_none : (done : ℕ) → reply [] done ≡ done
unfolding reply
reply_none done = refl

pub reply_is : (number : ℕ) (holds : Bool) (rest : List Refusal) (done : ℕ)
    → reply (refuse number holds ∷ rest) done ≡ cond holds number (reply rest done)
unfolding reply
reply_is number holds rest done = refl

pub reply_here : (number : ℕ) (holds : Bool) (rest : List Refusal) (done : ℕ) → holds ≡ true
    → reply (refuse number holds ∷ rest) done ≡ number
unfolding reply
reply_here number holds rest done h = rw h

pub reply_past : (number : ℕ) (holds : Bool) (rest : List Refusal) (done : ℕ) → holds ≡ false
    → reply (refuse number holds ∷ rest) done ≡ reply rest done
unfolding reply
reply_past number holds rest done h = rw h

-- refusals behind others
pub reply_append : (first rest : List Refusal) (done : ℕ) → reply (first ++ rest) done ≡ reply first (reply rest done)
unfolding reply
reply_append [] rest done = refl
reply_append (refusal ∷ first) rest done = ap (λ (n : ℕ). cond refusal.holds refusal.number n)
    (reply_append first rest done)

-- Every number of the refusals is one of some.
abbrev pub Numbers : (ℕ → Type 0) → List Refusal → Type 0
Numbers P [] = Unit {0}
Numbers P (refusal ∷ rest) = P refusal.number × Numbers P rest

pub numbers_append : (P : ℕ → Type 0) (first rest : List Refusal) → Numbers P first → Numbers P rest
    → Numbers P (first ++ rest)
numbers_append P [] rest one two = two
numbers_append P (refusal ∷ first) rest one two = (one.0, numbers_append P first rest one.1 two)

-- the reply is one of them, or that of a call that is not refused
pub reply_among : (P : ℕ → Type 0) (refusals : List Refusal) → Numbers P refusals → (done : ℕ) → P done
    → P (reply refusals done)
unfolding reply
reply_among P [] all done fine = fine
reply_among P (refusal ∷ rest) all done fine = go refusal.holds (reply_among P rest all.1 done fine)
  where
    go : (b : Bool) → P (reply rest done) → P (cond b refusal.number (reply rest done))
    go true later = all.0
    go false later = later

-- where no refusal has the number 0, the reply to 0 tells whether any holds
pub reply_else : (refusals : List Refusal) → Numbers (λ n. n ≡ 0 → ⊥) refusals → (done : ℕ)
    → reply refusals done ≡ cond (eqb (reply refusals 0) 0) done (reply refusals 0)
unfolding reply
reply_else [] some done = refl
reply_else (refusal ∷ rest) some done = go refusal.holds (reply_else rest some.1 done)
  where
    go : (b : Bool) → reply rest done ≡ cond (eqb (reply rest 0) 0) done (reply rest 0)
        → cond b refusal.number (reply rest done)
        ≡ cond (eqb (cond b refusal.number (reply rest 0)) 0) done (cond b refusal.number (reply rest 0))
    go true later = rw (ne_eqb refusal.number 0 some.0) refl
    go false later = later
