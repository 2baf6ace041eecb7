-- Reading a number digit by digit: each step keeps what is still to be read the same, and a byte that is no digit, or a
-- number past the limit, spoils it for good.
use Rattle.std.specs.Prelude.{ℕ, ◌+◌, ◌-◌, ◌*◌, ◌/◌, ◌^◌, ◌≤◌, ◌<◌, Bool, ◌&&◌, length, get_or, drop}
use Rattle.std.specs.Prelude.{Option, Some, None, nat_le}
use Rattle.std.specs.Bool.{then_some}
use Rattle.std.specs.Char.{IsAsciiDigit, IsNotAsciiDigit}
use Rattle.std.proofs.Math.Path.{◌≡◌, refl, sym}
use Rattle.std.proofs.Common.{◌∙◌, ⊎_elim, add-one, drop_of_length-le, drop-cons}
use Rattle.std.proofs.Math.Logic.{by_cases}
use Rattle.std.proofs.Math.Decide.{dec_lt}
use Rattle.std.proofs.Math.Bool.{true, false, cond, and-false, and-eq-true_iff}
use mathlib.Core.List.{List, [], ◌∷◌}
use native.Mathlib.Omega.{arith}
use borrow.Author.Tests.{lt-ltb, le-ltb, le-leb, lt-leb, eq-eqb, ne_eqb, ltb-true}
use Rattle.std.proofs.Math.Dec.{ltb}
use Rattle.lines.specs.Bytes.{digit0, digit9}
use Rattle.commands.specs.Text.{all_digits, no_spare_zero, spelled, value, is_number, number_from, number_of}

pub spelled_least : (v : ℕ) (bs : List ℕ) → v ≤ spelled v bs
unfolding spelled
spelled_least v [] = omega arith
spelled_least v (b ∷ bs) = omega (arith, spelled_least (v * 10 + (b - digit0)) bs)

number_past : (limit v : ℕ) → limit ≤ v → (bs : List ℕ) → number_from limit v bs ≡ None
unfolding number_from
number_past limit v h bs = rw (le-ltb (spelled v bs) limit (omega (arith, spelled_least v bs)), and-false)

module _ (limit v : ℕ) where
  from_end : (bytes : List ℕ) (i : ℕ) → length bytes ≤ i → v < limit → number_from limit v (drop i bytes) ≡ Some v
  unfolding number_from all_digits spelled
  from_end bytes i over h = rw (drop_of_length-le bytes over, lt-ltb _ _ h)

  module _ (bytes : List ℕ) (i : ℕ) (inside : i < length bytes) where
    from_low : get_or bytes i 0 < digit0 → number_from limit v (drop i bytes) ≡ None
    unfolding number_from all_digits
    from_low h = rw (drop-cons bytes i 0 inside, lt-leb _ _ h)

    from_high : digit9 < get_or bytes i 0 → number_from limit v (drop i bytes) ≡ None
    unfolding number_from all_digits
    from_high h = rw (drop-cons bytes i 0 inside, lt-leb (get_or bytes i 0) _ h, and-false)

    from_digit : (w : ℕ) → w ≡ get_or bytes i 0 → digit0 ≤ w → w ≤ digit9
        → number_from limit v (drop i bytes) ≡ number_from limit (v * 10 + (w - digit0)) (drop (i + 1) bytes)
    unfolding number_from all_digits spelled
    from_digit w e h l = rw (drop-cons bytes i 0 inside, ← e, le-leb digit0 w h, le-leb w digit9 l, add-one)

    from_over : (w : ℕ) → w ≡ get_or bytes i 0 → digit0 ≤ w → w ≤ digit9 → limit ≤ v * 10 + (w - digit0)
        → number_from limit v (drop i bytes) ≡ None
    from_over w e h l past = from_digit w e h l ∙ number_past limit _ past _

-- one step of the loop, by what its tests told: what is still to be read stays the whole
module _ (most v : ℕ) (bytes : List ℕ) (i : ℕ) {whole : Option ℕ}
    (so : number_from (most + 1) v (drop i bytes) ≡ whole) where
  pub read_end : length bytes ≤ i → v ≤ most → Some v ≡ whole
  read_end over h = sym (from_end (most + 1) v bytes i over (omega arith)) ∙ so

  module _ (inside : i < length bytes) where
    pub read_low : get_or bytes i 0 < digit0 → None ≡ whole
    read_low h = sym (from_low (most + 1) v bytes i inside h) ∙ so

    pub read_high : digit9 < get_or bytes i 0 → None ≡ whole
    read_high h = sym (from_high (most + 1) v bytes i inside h) ∙ so

    module _ {w : ℕ} (is : w ≡ get_or bytes i 0) (low : digit0 ≤ get_or bytes i 0)
        (high : get_or bytes i 0 ≤ digit9) where
      pub read_digit : number_from (most + 1) (v * 10 + (w - digit0)) (drop (i + 1) bytes) ≡ whole
      read_digit = sym (from_digit (most + 1) v bytes i inside w is (omega arith) (omega arith)) ∙ so

      read_over : most < v * 10 + (w - digit0) → None ≡ whole
      read_over past =
          sym (from_over (most + 1) v bytes i inside w is (omega arith) (omega arith) (omega arith)) ∙ so

      pub read_great : most / 10 < v → None ≡ whole
      read_great past = read_over (omega arith)

      pub read_past : most - v * 10 < w - digit0 → None ≡ whole
      read_past past = read_over (omega arith)

  -- by the code's own tests: at the end one of the limit, before it whether the byte is a digit
  pub read_whole : length bytes ≤ i → then_some (nat_le v most) v ≡ whole
  read_whole over = by_cases (dec_lt most v)
      (λ past. rw (lt-leb v most past) (sym (number_past (most + 1) v (omega arith) (drop i bytes)) ∙ so))
      (λ small. rw (le-leb v most (omega arith)) (read_end over (omega arith)))

  module _ (inside : i < length bytes) where
    pub read_other : IsNotAsciiDigit (get_or bytes i 0) → None ≡ whole
    read_other h = ⊎_elim (read_low inside) (read_high inside) h

    module _ (digit : IsAsciiDigit (get_or bytes i 0)) where
      pub read_more : {w d : ℕ} → d ≡ get_or bytes i 0 - digit0 → w ≡ v * 10 + d
          → number_from (most + 1) w (drop (i + 1) bytes) ≡ whole
      read_more d-is w-is = rw (w-is, d-is) (read_digit inside refl (omega arith) (omega arith))

      module _ (room : most < 2 ^ 64) where
        pub read_product : (v * 10 < 2 ^ 64 → ⊥) → None ≡ whole
        read_product past = read_over inside refl (omega arith) (omega arith) (omega (arith, past))

        pub read_sum : {d : ℕ} → d ≡ get_or bytes i 0 - digit0 → (v * 10 + d < 2 ^ 64 → ⊥) → None ≡ whole
        read_sum d-is past = read_over inside refl (omega arith) (omega arith) (omega (arith, past))

-- a field by its length and its first byte: none, one digit, a spare zero, or no spare zero
module _ (limit : ℕ) where
  number_lean : (bs : List ℕ) → no_spare_zero bs ≡ true → number_of limit bs ≡ number_from limit 0 bs
  unfolding number_of is_number number_from value
  number_lean bs h = rw h (lean (all_digits bs))
    where
      lean : (t : Bool) → cond (t && true && ltb (spelled 0 bs) limit) (Some (spelled 0 bs)) None
          ≡ cond (t && ltb (spelled 0 bs) limit) (Some (spelled 0 bs)) None
      lean true = refl
      lean false = refl

  number_spare : (bs : List ℕ) → no_spare_zero bs ≡ false → number_of limit bs ≡ None
  unfolding number_of is_number
  number_spare bs h = rw (h, and-false)

  pub number_none : (bs : List ℕ) → length bs ≡ 0 → None ≡ number_of limit bs
  unfolding no_spare_zero
  number_none [] h = sym (number_spare [] refl)
  number_none (b ∷ bs) h = absurd (omega arith)

  pub number_one : (bs : List ℕ) → length bs ≡ 1 → {read : Option ℕ} → read ≡ number_from limit 0 bs
      → read ≡ number_of limit bs
  unfolding no_spare_zero
  number_one [] h e = absurd (omega arith)
  number_one (b ∷ []) h e = e ∙ sym (number_lean (b ∷ []) refl)
  number_one (b ∷ c ∷ cs) h e = absurd (omega arith)

  pub number_zero : (bs : List ℕ) → (length bs ≡ 0 → ⊥) → (length bs ≡ 1 → ⊥) → get_or bs 0 0 ≡ digit0
      → None ≡ number_of limit bs
  unfolding no_spare_zero
  number_zero [] some more e = absurd (some refl)
  number_zero (b ∷ []) some more e = absurd (more refl)
  number_zero (b ∷ c ∷ cs) some more e = sym (number_spare (b ∷ c ∷ cs) (rw (eq-eqb b digit0 e)))

  pub number_many : (bs : List ℕ) → (length bs ≡ 0 → ⊥) → (length bs ≡ 1 → ⊥) → (get_or bs 0 0 ≡ digit0 → ⊥)
      → {read : Option ℕ} → read ≡ number_from limit 0 bs → read ≡ number_of limit bs
  unfolding no_spare_zero
  number_many [] some more h e = absurd (some refl)
  number_many (b ∷ []) some more h e = absurd (more refl)
  number_many (b ∷ c ∷ cs) some more h e = e ∙ sym (number_lean (b ∷ c ∷ cs) (rw (ne_eqb b digit0 h)))

  -- and by its length as the code tests it
  module _ (bs : List ℕ) (long : 2 ≤ length bs) where
    pub number_spared : get_or bs 0 0 ≡ digit0 → None ≡ number_of limit bs
    number_spared = number_zero bs (λ e. omega arith) (λ e. omega arith)

    pub number_long : (get_or bs 0 0 ≡ digit0 → ⊥) → {read : Option ℕ} → read ≡ number_from limit 0 bs
        → read ≡ number_of limit bs
    number_long h e = number_many bs (λ e. omega arith) (λ e. omega arith) h e

  -- what a reading tells
  pub number_good : (bs : List ℕ) (n : ℕ) → number_of limit bs ≡ Some n → (is_number limit bs ≡ true) × (value bs ≡ n)
  unfolding number_of
  number_good bs n e = good (is_number limit bs) e
    where
      good : (t : Bool) → cond t (Some (value bs)) None ≡ Some n → (t ≡ true) × (value bs ≡ n)
      good true e = (refl, cc)
      good false e = let z : ◌≡◌ {A = ℕ} 0 1 = cc in absurd (omega arith)

  pub number_small : (bs : List ℕ) (n : ℕ) → number_of limit bs ≡ Some n → n < limit
  unfolding is_number
  number_small bs n e =
      let (good, is) = number_good bs n e in
      omega (
        arith,
        is,
        ltb-true (value bs) limit
            ((and-eq-true_iff (all_digits bs && no_spare_zero bs) (ltb (value bs) limit)).0 good).1,
      )

  pub number_bad : (bs : List ℕ) → number_of limit bs ≡ None → is_number limit bs ≡ false
  unfolding number_of
  number_bad bs e = bad (is_number limit bs) e
    where
      bad : (t : Bool) → cond t (Some (value bs)) None ≡ None → t ≡ false
      bad true e = let z : ◌≡◌ {A = ℕ} 0 1 = cc in absurd (omega arith)
      bad false e = refl
