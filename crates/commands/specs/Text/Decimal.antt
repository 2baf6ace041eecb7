-- Reading the digits of a number gives the number back, and no other digits without spare zeros do.
use Rattle.std.specs.Prelude.{ℕ, ◌+◌, ◌-◌, ◌*◌, ◌/◌, ◌%◌, ◌≤◌, ◌<◌, ◌≡◌, refl, true, ◌&&◌, List, [], ◌∷◌, ◌++◌, ◌≢◌}
use Rattle.std.specs.Prelude.{leb, ltb, eqb, Some}
use Rattle.std.proofs.Common.{◌∙◌, sym, ap, ap₂, append_assoc, append-nil, arith}
use Rattle.std.proofs.Math.Bool.{and-eq-true_iff}
use Rattle.std.proofs.lemmas.Bool.{false≢true}
use Rattle.std.proofs.Math.Logic.{by_cases}
use Rattle.std.proofs.Math.Decide.{dec_lt}
use borrow.Author.Tests.{lt-ltb, le-leb, ne_eqb, ltb-true, leb-true, eqb-false, not-true}
use Rattle.std.proofs.Math.Seq.{append_snoc}
use Rattle.lines.specs.Bytes.{digit0, digit9}
use Rattle.lines.specs.Lines.{decimal}
use Rattle.lines.specs.Lines.Decimal.{decimal_one, decimal_more, by_digits}
use Rattle.commands.specs.Text.{all_digits, no_spare_zero, spelled, value, is_number, number_of}

all_append : (bs : List ℕ) (b : ℕ) → all_digits bs ≡ true → digit0 ≤ b → b ≤ digit9 → all_digits (bs ++ (b ∷ [])) ≡ true
unfolding all_digits
all_append [] b h low high = rw (le-leb digit0 b low, le-leb b digit9 high)
all_append (c ∷ cs) b h low high =
    let (first, rest) = (and-eq-true_iff (leb digit0 c && leb c digit9) (all_digits cs)).0 h in
    rw (first, all_append cs b rest low high)

pub decimal_digits : (x : ℕ) → all_digits (decimal x) ≡ true
unfolding all_digits
decimal_digits = by_digits (λ x ds. all_digits ds ≡ true)
    (λ x h. rw (le-leb digit0 (digit0 + x) (omega arith), le-leb (digit0 + x) digit9 (omega arith)))
    (λ x h ds k. all_append ds (digit0 + x % 10) k (omega arith) (omega arith))

-- before the digits of a number above 0 no zero is spared, whatever follows
decimal_leads : (x : ℕ) → 0 < x → (cs : List ℕ) → no_spare_zero (decimal x ++ cs) ≡ true
unfolding no_spare_zero
decimal_leads = by_digits (λ x ds. 0 < x → (cs : List ℕ) → no_spare_zero (ds ++ cs) ≡ true)
    (λ x h some cs. first (digit0 + x) (omega arith) cs)
    (λ x h ds k some cs. rw (append_assoc ds ((digit0 + x % 10) ∷ []) cs) (k (omega arith) ((digit0 + x % 10) ∷ cs)))
  where
    first : (b : ℕ) → digit0 < b → (cs : List ℕ) → no_spare_zero (b ∷ cs) ≡ true
    first b h [] = refl
    first b h (c ∷ cs) = rw (ne_eqb b digit0 (λ e. omega arith))

pub decimal_spare : (x : ℕ) → no_spare_zero (decimal x) ≡ true
unfolding no_spare_zero
decimal_spare x = by_cases (dec_lt x 10)
    (λ l. rw (decimal_one x l))
    (λ l. rw (decimal_more x (omega arith)) (decimal_leads (x / 10) (omega arith) ((digit0 + x % 10) ∷ [])))

spelled_append : (v : ℕ) (bs cs : List ℕ) → spelled v (bs ++ cs) ≡ spelled (spelled v bs) cs
unfolding spelled
spelled_append v [] cs = refl
spelled_append v (b ∷ bs) cs = spelled_append (v * 10 + (b - digit0)) bs cs

-- reading gives the number back
pub decimal_value : (x : ℕ) → value (decimal x) ≡ x
unfolding value spelled
decimal_value = by_digits (λ x ds. value ds ≡ x)
    (λ x h. omega arith)
    (λ x h ds k. rw (spelled_append 0 ds ((digit0 + x % 10) ∷ [])) (omega (arith, k)))

module _ (limit x : ℕ) (small : x < limit) where
  pub decimal_is_number : is_number limit (decimal x) ≡ true
  unfolding is_number
  decimal_is_number = rw (decimal_digits x, decimal_spare x, decimal_value x, lt-ltb x limit small)

  pub decimal_number : number_of limit (decimal x) ≡ Some x
  unfolding number_of
  decimal_number = rw (decimal_is_number, decimal_value x)

-- a byte in front of digits that are all digits is one
pub digit_first : (b : ℕ) (bs : List ℕ) → all_digits (b ∷ bs) ≡ true
    → (digit0 ≤ b) × (b ≤ digit9) × (all_digits bs ≡ true)
unfolding all_digits
digit_first b bs h =
    let (ends, rest) = (and-eq-true_iff (leb digit0 b && leb b digit9) (all_digits bs)).0 h in
    let (low, high) = (and-eq-true_iff (leb digit0 b) (leb b digit9)).0 ends in
    (leb-true digit0 b low, leb-true b digit9 high, rest)

digit_decimal : (b : ℕ) → digit0 ≤ b → b ≤ digit9 → decimal (0 * 10 + (b - digit0)) ≡ b ∷ []
digit_decimal b low high =
    let back : digit0 + (0 * 10 + (b - digit0)) ≡ b = omega arith in
    decimal_one (0 * 10 + (b - digit0)) (omega arith) ∙ ap (λ (d : ℕ). d ∷ []) back

-- after a number above 0, digits are the further digits of what they spell with it
decimal_spelled : (bs : List ℕ) (v : ℕ) → 0 < v → all_digits bs ≡ true → decimal (spelled v bs) ≡ decimal v ++ bs
unfolding spelled
decimal_spelled [] v some h = sym (append-nil (decimal v))
decimal_spelled (b ∷ bs) v some h =
    let (low, high, rest) = digit_first b bs h in
    let front : (v * 10 + (b - digit0)) / 10 ≡ v = omega arith in
    let last : digit0 + (v * 10 + (b - digit0)) % 10 ≡ b = omega arith in
    decimal_spelled bs (v * 10 + (b - digit0)) (omega arith) rest
    ∙ ap (λ (ds : List ℕ). ds ++ bs)
    (decimal_more (v * 10 + (b - digit0)) (omega arith) ∙ ap₂ (λ (q r : ℕ). decimal q ++ (r ∷ [])) front last)
    ∙ append_snoc (decimal v) b bs

-- a number has one spelling
pub decimal_only : (bs : List ℕ) → all_digits bs ≡ true → no_spare_zero bs ≡ true → decimal (value bs) ≡ bs
unfolding value spelled no_spare_zero
decimal_only [] h k = absurd (false≢true k)
decimal_only (b ∷ []) h k =
    let (low, high, rest) = digit_first b [] h in
    digit_decimal b low high
decimal_only (b ∷ c ∷ cs) h k =
    let (low, high, rest) = digit_first b (c ∷ cs) h in
    let leads : b ≢ digit0 = eqb-false b digit0 (not-true (eqb b digit0) k) in
    decimal_spelled (c ∷ cs) (0 * 10 + (b - digit0)) (omega arith) rest
    ∙ ap (λ (ds : List ℕ). ds ++ (c ∷ cs)) (digit_decimal b low high)

pub number_spelling : (limit : ℕ) (bs : List ℕ) → is_number limit bs ≡ true
    → (decimal (value bs) ≡ bs) × (value bs < limit)
unfolding is_number
number_spelling limit bs h =
    let (shape, small) = (and-eq-true_iff (all_digits bs && no_spare_zero bs) (ltb (value bs) limit)).0 h in
    let (digits, lean) = (and-eq-true_iff (all_digits bs) (no_spare_zero bs)).0 shape in
    (decimal_only bs digits lean, ltb-true (value bs) limit small)
