-- What a walk has noted, by its count: none, one, two or three buckets, and one more after each.
use Prim.Native.Nat.{ℕ, zero, suc, ◌+◌, ◌≤◌}
use Rattle.std.specs.Prelude.{◌≡◌, refl, cond, List, [], ◌∷◌, ◌++◌, ltb, length, get_or, set, take}
use Rattle.std.proofs.Common.{◌∙◌, sym, ap, ap₂}
use Rattle.std.proofs.lemmas.List.{take_more_set, get_or-take, length-set}
use native.Mathlib.Omega.{arith}
use Rattle.address.specs.Limits.{no_bucket}
use Rattle.route.specs.declared.walk.Walk.{Walk}
use Rattle.route.specs.Way.{noted}

-- a bucket that is noted, or none
abbrev pub shown : ℕ → ℕ → ℕ → ℕ
shown count k bucket = cond (ltb k count) bucket no_bucket

module _ (walk : Walk) where
  abbrev first : ℕ
  first = get_or walk.met 0 0

  abbrev second : ℕ
  second = get_or walk.met 1 0

  abbrev third : ℕ
  third = get_or walk.met 2 0

  by_count : (P : List ℕ → ℕ → Type 0) → walk.count ≤ 3
      → P [] 0 → P (first ∷ []) 1 → P (first ∷ second ∷ []) 2 → P (first ∷ second ∷ third ∷ []) 3
      → P (noted walk) walk.count
  unfolding noted
  by_count P few p0 p1 p2 p3 = go walk.count few
    where
      go : (n : ℕ) → n ≤ 3 → P (take n (first ∷ second ∷ third ∷ [])) n
      go zero h = p0
      go (suc zero) h = p1
      go (suc (suc zero)) h = p2
      go (suc (suc (suc zero))) h = p3
      go (suc (suc (suc (suc n)))) h = absurd (omega arith)

  pub noted_length : walk.count ≤ 3 → length (noted walk) ≡ walk.count
  noted_length few = by_count (λ l n. length l ≡ n) few refl refl refl refl

  pub noted_first : walk.count ≤ 3 → get_or (noted walk) 0 no_bucket ≡ shown walk.count 0 (get_or walk.met 0 0)
  noted_first few = by_count (λ l n. get_or l 0 no_bucket ≡ shown n 0 first) few refl refl refl refl

  pub noted_second : walk.count ≤ 3 → get_or (noted walk) 1 no_bucket ≡ shown walk.count 1 (get_or walk.met 1 0)
  noted_second few = by_count (λ l n. get_or l 1 no_bucket ≡ shown n 1 second) few refl refl refl refl

  pub noted_third : walk.count ≤ 3 → get_or (noted walk) 2 no_bucket ≡ shown walk.count 2 (get_or walk.met 2 0)
  noted_third few = by_count (λ l n. get_or l 2 no_bucket ≡ shown n 2 third) few refl refl refl refl

  pub noted_none : walk.count ≡ 0 → noted walk ≡ []
  unfolding noted
  noted_none e = rw e

  -- its first bucket, if there is one
  pub noted_start : 1 ≤ walk.count → get_or (noted walk) 0 0 ≡ get_or walk.met 0 0
  unfolding noted
  noted_start some = get_or-take walk.count (first ∷ second ∷ third ∷ []) 0 0 (omega (arith, some))

-- three places are the whole array
whole : (met : List ℕ) → length met ≡ 3 → get_or met 0 0 ∷ get_or met 1 0 ∷ get_or met 2 0 ∷ [] ≡ met
whole [] long = absurd (omega (arith, long))
whole (x ∷ []) long = absurd (omega (arith, long))
whole (x ∷ (y ∷ [])) long = absurd (omega (arith, long))
whole (x ∷ (y ∷ (z ∷ []))) long = refl
whole (x ∷ (y ∷ (z ∷ (w ∷ ws)))) long = absurd (omega (arith, long))

-- one bucket more
pub note_next : (walk next : Walk) (a : ℕ) → walk.count ≤ 2 → length walk.met ≡ 3
    → next.met ≡ set walk.met walk.count a → next.count ≡ walk.count + 1 → noted next ≡ noted walk ++ (a ∷ [])
unfolding noted
note_next walk next a few long em ec =
    ap₂ take ec (whole next.met (ap length em ∙ length-set walk.met walk.count a ∙ long) ∙ em)
    ∙ take_more_set walk.met walk.count a (omega (arith, few, long))
    ∙ ap (λ (l : List ℕ). take walk.count l ++ (a ∷ [])) (sym (whole walk.met long))
