-- That every number of a list passes a test: by the list's first number, by its parts, by another test, and by what
-- stands in it.
use Rattle.std.specs.Prelude.{ℕ, ◌<◌, ◌≡◌, refl, Bool, true, false, ◌&&◌, List, [], ◌∷◌, ◌++◌}
use Rattle.std.proofs.Common.{sym, ap, ap₂, ◌∙◌, true≢false, ⊎_elim, arith}
use Rattle.std.proofs.Math.Bool.{and-true, and_assoc}
use Rattle.address.specs.Compare.{same}
use Rattle.address.specs.Rules.Route.{Below, last, last_one, last_next}
use Rattle.address.specs.Rules.Scan.{times, times_none, times_there}
use Rattle.layout.specs.Bytes.Tests.{and_left, and_right}
use Rattle.bucket.specs.Region.{every}

pub every_none : (test : ℕ → Bool) → every test [] ≡ true
unfolding every
every_none test = refl

-- by the first number
module _ (test : ℕ → Bool) (a : ℕ) (xs : List ℕ) where
  pub every_first : every test (a ∷ xs) ≡ true → test a ≡ true
  unfolding every
  every_first all = and_left (test a) (every test xs) all

  pub every_rest : every test (a ∷ xs) ≡ true → every test xs ≡ true
  unfolding every
  every_rest all = and_right (test a) (every test xs) all

  pub every_next : test a ≡ true → every test (a ∷ xs) ≡ every test xs
  unfolding every
  every_next h = rw h

  pub every_fails : test a ≡ false → every test (a ∷ xs) ≡ false
  unfolding every
  every_fails h = rw h

-- by its parts: a first part that passes, and one number more at the end
pub every_past : (test : ℕ → Bool) (xs ys : List ℕ) → every test xs ≡ true → every test (xs ++ ys) ≡ every test ys
every_past test [] ys h = refl
every_past test (a ∷ xs) ys h = every_next test a (xs ++ ys) (every_first test a xs h)
    ∙ every_past test xs ys (every_rest test a xs h)

pub every_append : (test : ℕ → Bool) (xs : List ℕ) (a : ℕ) → every test (xs ++ (a ∷ [])) ≡ (every test xs && test a)
unfolding every
every_append test [] a = and-true (test a)
every_append test (first ∷ xs) a = ap (λ (b : Bool). test first && b) (every_append test xs a)
    ∙ sym (and_assoc (test first) (every test xs) (test a))

-- tests that agree on each number
pub every_same : (f g : ℕ → Bool) → ((a : ℕ) → f a ≡ g a) → (xs : List ℕ) → every f xs ≡ every g xs
unfolding every
every_same f g agree [] = refl
every_same f g agree (a ∷ xs) = ap₂ ◌&&◌ (agree a) (every_same f g agree xs)

-- what stands in the list passes, and what fails does not stand there
pub every_among : (test : ℕ → Bool) (xs : List ℕ) (a : ℕ) → every test xs ≡ true → 0 < times a xs → test a ≡ true
every_among test [] a all some = absurd (omega (arith, times_none a))
every_among test (b ∷ xs) a all some = ⊎_elim
    (λ e. ap test e ∙ every_first test b xs all)
    (λ e. every_among test xs a (every_rest test b xs all) (omega (arith, times_there a b xs e)))
    (same a b)

pub every_times : (test : ℕ → Bool) (xs : List ℕ) (a : ℕ) → every test xs ≡ true → test a ≡ false → times a xs ≡ 0
every_times test [] a all fails = times_none a
every_times test (first ∷ xs) a all fails =
    times_there a first xs (λ e. true≢false (sym (every_first test first xs all) ∙ ap test (sym e) ∙ fails))
    ∙ every_times test xs a (every_rest test first xs all) fails

-- so the last number of a route passes
pub every_last : (test : ℕ → Bool) (a : ℕ) (xs : List ℕ) → every test (a ∷ xs) ≡ true → test (last a xs) ≡ true
every_last test a [] all = ap test (last_one a) ∙ every_first test a [] all
every_last test a (b ∷ xs) all = ap test (last_next a b xs) ∙ every_last test b xs (every_rest test a (b ∷ xs) all)

-- numbers below a bound, each of which passes
pub every_below : (test : ℕ → Bool) (most : ℕ) → ((a : ℕ) → a < most → test a ≡ true) → (xs : List ℕ)
    → Below most xs → every test xs ≡ true
every_below test most each [] low = every_none test
every_below test most each (a ∷ xs) low = every_next test a xs (each a low.0)
    ∙ every_below test most each xs low.1
