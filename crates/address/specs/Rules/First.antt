-- The first number of a list that passes a test, and a walk over the numbers that keeps the earlier bad bucket of the
-- best and the next. That it ends at the one that a scan visits first: proofs/Rules/First.antt.
use Prim.Native.Nat.{ℕ, zero, suc, ◌+◌, ◌-◌, ◌≤◌, ◌<◌}
use Rattle.std.specs.Prelude.{◌≡◌, Bool, true, false, cond, ◌&&◌, List, [], ◌∷◌, ◌⊎◌}
use Rattle.std.proofs.Math.Path.{refl, ap}
use Rattle.std.proofs.Common.{sym, ◌∙◌, inl, inr, add-one}
use Rattle.std.proofs.Math.Logic.{⊎_elim}
use native.Mathlib.Omega.{arith}
use Rattle.address.specs.Compare.{same}
use Rattle.address.specs.Rules.{earlier}
use Rattle.address.specs.Rules.Scan.{times, times_none, times_here, times_there}
use Rattle.address.specs.Rules.Earlier.{each_of, Ordered}

-- The first number of a list that passes a test, and another number if none does.
pub first_of : (ℕ → Bool) → ℕ → List ℕ → ℕ
first_of test none [] = none
first_of test none (x ∷ xs) = cond (test x) x (first_of test none xs)

module _ (test : ℕ → Bool) (none : ℕ) where
  pub first_none : first_of test none [] ≡ none
  unfolding first_of
  first_none = refl

  pub first_here : (x : ℕ) (xs : List ℕ) → test x ≡ true → first_of test none (x ∷ xs) ≡ x
  unfolding first_of
  first_here x xs e = rw e

  pub first_there : (x : ℕ) (xs : List ℕ) → test x ≡ false → first_of test none (x ∷ xs) ≡ first_of test none xs
  unfolding first_of
  first_there x xs e = rw e

  pub differ : (x y : ℕ) → test x ≡ true → test y ≡ false → x ≡ y → ⊥
  differ x y ex ey s =
      let z : true ≡ false = sym ex ∙ ap test s ∙ ey in
      let z : ◌≡◌ {A = ℕ} 0 1 = cc in omega arith

  -- Of a list that holds a number x that passes, f is the first: it passes, it stands there, and it is x or before x.
  pub record First (N believed : ℕ) (xs : List ℕ) (x f : ℕ) : Type 0 where
    pub passes : test f ≡ true
    pub stands : 0 < times f xs
    pub leads : (f ≡ x) ⊎ (earlier N believed f x ≡ true)

  pub first_leads : (N believed : ℕ) (xs : List ℕ) (x : ℕ) → Ordered N believed xs → test x ≡ true → 0 < times x xs
      → First N believed xs x (first_of test none xs)
  first_leads N believed [] x o passes there = absurd (omega (arith, times_none x))
  first_leads N believed (y ∷ ys) x o passes there = ⊎_elim here
      (λ e. later e
      (first_leads N believed ys x o.1 passes (omega (arith, times_there x y ys (differ x y passes e)))))
      (either (test y))
    where
      either : (b : Bool) → (b ≡ true) ⊎ (b ≡ false)
      either true = inl refl
      either false = inr refl

      here : test y ≡ true → First N believed (y ∷ ys) x (first_of test none (y ∷ ys))
      here e = rw (first_here y ys e) (record {
        passes = e;
        stands = omega (arith, times_here y y ys refl);
        leads = ⊎_elim (λ s. inl (sym s))
            (λ s. inr (each_of (λ z. earlier N believed y z ≡ true) ys x o.0
            (omega (arith, times_there x y ys s)))) (same x y);
      })

      later : test y ≡ false → First N believed ys x (first_of test none ys)
          → First N believed (y ∷ ys) x (first_of test none (y ∷ ys))
      later e f = rw (first_there y ys e) (record {
        passes = f.passes;
        stands = omega (arith, f.stands, times_there (first_of test none ys) y ys (differ _ y f.passes e));
        leads = f.leads;
      })

-- ---- the first bad bucket in visit order, found in number order

-- Of the best bucket so far and the next: the next if it is bad and visited earlier.
abbrev pub better : ℕ → ℕ → (ℕ → Bool) → ℕ → ℕ → ℕ
better N believed bad best next = cond (bad next && earlier N believed next best) next best

-- The best of one bucket and the c numbers from the next on.
pub best_from : ℕ → ℕ → (ℕ → Bool) → ℕ → ℕ → ℕ → ℕ
best_from N believed bad zero next best = best
best_from N believed bad (suc c) next best = best_from N believed bad c (suc next) (better N believed bad best next)

module _ (N believed : ℕ) (bad : ℕ → Bool) where
  pub best_zero : (next best : ℕ) → best_from N believed bad zero next best ≡ best
  unfolding best_from
  best_zero next best = refl

  pub best_suc : (c next best : ℕ) → best_from N believed bad (suc c) next best
      ≡ best_from N believed bad c (suc next) (better N believed bad best next)
  unfolding best_from
  best_suc c next best = refl

module _ (N believed : ℕ) (bad : ℕ → Bool) (end next best : ℕ) where
  pub best_more : next < end
      → best_from N believed bad (end - next) next best
      ≡ best_from N believed bad (end - (next + 1)) (next + 1) (better N believed bad best next)
  unfolding best_from
  best_more h =
      let more : end - next ≡ suc (end - suc next) = omega arith in
      ap (λ (c : ℕ). best_from N believed bad c next best) more
      ∙ ap (λ (n : ℕ). best_from N believed bad (end - n) n (better N believed bad best next)) (sym (add-one next))

  pub best_done : end ≤ next → best_from N believed bad (end - next) next best ≡ best
  unfolding best_from
  best_done h =
      let none : end - next ≡ 0 = omega arith in ap (λ (c : ℕ). best_from N believed bad c next best) none
