-- Which keys of a bucket match, as bits, the first key's the lowest. The keys that such bits select are the matching
-- ones, as many as bits are set; the trailing zeros of what is left of the bits tell the next of them.
use Rattle.std.specs.Prelude.{ℕ, zero, suc, ◌+◌, ◌-◌, ◌*◌, ◌/◌, ◌%◌, ◌^◌, ◌≤◌, ◌<◌, ◌≡◌, refl, Bool, true, false, cond}
use Rattle.std.specs.Prelude.{List, [], ◌∷◌, eqb, length, get_or, drop}
use Rattle.std.proofs.Math.Path.{sym}
use Rattle.std.proofs.Common.{ap, ◌∙◌, pow-suc, div-one, length-drop, pow_mono}
use Rattle.std.proofs.Math.Nat.{pow-succ', div-div-eq-div-mul}
use native.Mathlib.Omega.{arith}
use mir.Val.{bool_byte}
use Rattle.std.specs.Int.Count.{ones, ones_step, count_trailing_zeros, under}
use Rattle.address.specs.Limits.{most_slots}
use Rattle.scan.specs.Scan.{of_lift, matching}
use Rattle.scan.specs.Scan.Way.{rest_first, rest_none}

-- A bit for each key that is of a lift.
pub bits_of : ℕ → List ℕ → ℕ
bits_of lift [] = 0
bits_of lift (key ∷ keys) = cond (of_lift lift key) 1 0 + 2 * bits_of lift keys

-- The keys whose bit is set.
pub selected : ℕ → List ℕ → List ℕ
selected bits [] = []
selected bits (key ∷ keys) = cond (eqb (bits % 2) 1) (key ∷ selected (bits / 2) keys) (selected (bits / 2) keys)

-- the lowest bit, and the others
low_bit : (b : Bool) (rest : ℕ) → (cond b 1 0 + 2 * rest) % 2 ≡ cond b 1 0
low_bit true rest = omega arith
low_bit false rest = omega arith

high_bits : (b : Bool) (rest : ℕ) → (cond b 1 0 + 2 * rest) / 2 ≡ rest
high_bits true rest = omega arith
high_bits false rest = omega arith

pub select_match : (lift : ℕ) (keys : List ℕ) → selected (bits_of lift keys) keys ≡ matching lift keys
unfolding bits_of selected matching
select_match lift [] = refl
select_match lift (key ∷ keys) = rw
    (low_bit (of_lift lift key) (bits_of lift keys), high_bits (of_lift lift key) (bits_of lift keys))
    (go (of_lift lift key) (select_match lift keys))
  where
    go : (b : Bool) → selected (bits_of lift keys) keys ≡ matching lift keys
        → cond (eqb (cond b 1 0) 1) (key ∷ selected (bits_of lift keys) keys) (selected (bits_of lift keys) keys)
        ≡ cond b (key ∷ matching lift keys) (matching lift keys)
    go true rest = ap (λ (l : List ℕ). key ∷ l) rest
    go false rest = rest

-- as many bits as keys, and as many set as match
pub bits_few : (lift : ℕ) (keys : List ℕ) → bits_of lift keys < 2 ^ length keys
unfolding bits_of
bits_few lift [] = omega arith
bits_few lift (key ∷ keys) = go (of_lift lift key) (bits_few lift keys)
  where
    go : (b : Bool) → bits_of lift keys < 2 ^ length keys → cond b 1 0 + 2 * bits_of lift keys < 2 ^ suc (length keys)
    go true rest = omega (arith, pow-suc 2 (length keys))
    go false rest = omega (arith, pow-suc 2 (length keys))

ones_none : ones 0 ≡ 0
unfolding ones
ones_none = refl

pub bits_count : (lift : ℕ) (keys : List ℕ) → ones (bits_of lift keys) ≡ length (matching lift keys)
unfolding bits_of matching
bits_count lift [] = ones_none
bits_count lift (key ∷ keys) = ones_step (cond (of_lift lift key) 1 0 + 2 * bits_of lift keys)
    ∙ rw (low_bit (of_lift lift key) (bits_of lift keys), high_bits (of_lift lift key) (bits_of lift keys))
    (go (of_lift lift key) (bits_count lift keys))
  where
    go : (b : Bool) → ones (bits_of lift keys) ≡ length (matching lift keys)
        → cond b 1 0 + ones (bits_of lift keys) ≡ length (cond b (key ∷ matching lift keys) (matching lift keys))
    go true rest = omega (arith, rest)
    go false rest = omega (arith, rest)

-- ---- the bits are found from the last key to the first

pub record Tested (lift : ℕ) (keys : List ℕ) (k bits : ℕ) : Type 0 where
  pub within : k ≤ length keys
  pub is : bits ≡ bits_of lift (drop k keys)

pub test_none : (lift : ℕ) (keys : List ℕ) (k : ℕ) → k ≡ length keys → Tested lift keys k 0
unfolding bits_of
test_none lift keys k e = record { within = omega arith; is = sym (ap (bits_of lift) (rest_none keys k (omega arith))) }

module _ {lift : ℕ} {keys : List ℕ} {k bits : ℕ} (so : Tested lift keys k bits) where
  pub test_more : (k ≡ 0 → ⊥) → (bit : ℕ) → bit ≡ cond (of_lift lift (get_or keys (k - 1) 0)) 1 0
      → Tested lift keys (k - 1) (bits * 2 + bit)
  unfolding bits_of
  test_more some bit e = record {
    within = omega (arith, so.within);
    is = sym (ap (bits_of lift) onto ∙ sum);
  }
    where
      back : k - 1 + 1 ≡ k
      back = omega arith

      onto : drop (k - 1) keys ≡ get_or keys (k - 1) 0 ∷ drop k keys
      onto = rest_first keys (k - 1) (omega (arith, so.within))
          ∙ ap (λ (n : ℕ). get_or keys (k - 1) 0 ∷ drop n keys) back

      sum : cond (of_lift lift (get_or keys (k - 1) 0)) 1 0 + 2 * bits_of lift (drop k keys) ≡ bits * 2 + bit
      sum = omega (arith, so.is, e)

  pub test_room : (k ≡ 0 → ⊥) → length keys ≤ most_slots → bits < 9223372036854775808
  test_room some short = omega (arith, so.is, bits_few lift (drop k keys), pow_mono few)
    where
      few : length (drop k keys) ≤ 63
      few = omega (arith, length-drop k keys)

-- ---- the next selected key

pub select_none : (keys : List ℕ) → selected 0 keys ≡ []
unfolding selected
select_none [] = refl
select_none (key ∷ keys) = select_none keys

pub record Next (bits : ℕ) (keys : List ℕ) (zeros : ℕ) : Type 0 where
  pub within : zeros < length keys
  pub is : selected bits keys ≡ get_or keys zeros 0 ∷ selected (bits / 2 ^ zeros / 2) (drop (suc zeros) keys)
  pub few : bits / 2 ^ zeros / 2 < 2 ^ length (drop (suc zeros) keys)

pub next : (d bits : ℕ) (keys : List ℕ) → length keys ≤ d → (bits ≡ 0 → ⊥) → bits < 2 ^ length keys
    → Next bits keys (count_trailing_zeros d bits)
unfolding count_trailing_zeros selected
next d bits [] short some few = absurd (some (omega arith))
next zero bits (key ∷ keys) short some few = absurd (omega arith)
next (suc d) bits (key ∷ keys) short some few = go (bits % 2) refl
    (λ even. next d (bits / 2) keys (omega arith) (λ none. some (omega arith)) half)
  where
    half : bits / 2 < 2 ^ length keys
    half = omega (arith, pow-suc 2 (length keys))

    go : (r : ℕ) → bits % 2 ≡ r → (bits % 2 ≡ 0 → Next (bits / 2) keys (count_trailing_zeros d (bits / 2)))
        → Next bits (key ∷ keys) (under r (count_trailing_zeros d (bits / 2)))
    go zero e later =
        let t = count_trailing_zeros d (bits / 2) in
        let n = later e in
        let shift : bits / 2 ^ suc t ≡ bits / 2 / 2 ^ t = ap (λ (x : ℕ). bits / x) (pow-succ' 2 t)
        ∙ sym (div-div-eq-div-mul bits 2 (2 ^ t)) in
        record {
          within = omega (arith, n.within);
          is = rw (e, shift) n.is;
          few = rw shift n.few;
        }
    go (suc zero) e later = record { within = omega arith; is = rw (e, div-one bits); few = rw (div-one bits) half }
    go (suc (suc r)) e later = absurd (omega arith)

-- a test as a number
pub bit_is : (b : Bool) → bool_byte b ≡ cond b 1 0
bit_is true = refl
bit_is false = refl

pub bit_few : (b : Bool) → bool_byte b ≤ 1
bit_few true = omega arith
bit_few false = omega arith
