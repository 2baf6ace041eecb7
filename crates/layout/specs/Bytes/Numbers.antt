-- Numbers of several bytes: read after written, written after read, and read past a write. Each goes byte by byte.
use Rattle.std.specs.Prelude.{ℕ, zero, suc, ◌+◌, ◌*◌, ◌/◌, ◌%◌, ◌^◌, ◌-◌, ◌≤◌, ◌<◌, ◌≡◌, refl, Bool, ◌&&◌, List, []}
use Rattle.std.specs.Prelude.{◌∷◌, ◌++◌, ltb, eqb, length, get_or, take, drop, replicate}
use Rattle.std.proofs.Common.{sym, ap, ap₂, ◌∙◌, add-zero, zero-add, add-suc, suc-add, add_assoc, mul-zero, mul_assoc}
use Rattle.std.proofs.Common.{mul-le-mul_left, pow-suc, add-one, arith, eq-eqb, ne_eqb, lt-ltb, le-ltb, Fits, drop-cons}
use Rattle.std.proofs.Common.{get_or-drop, get_or-append-add}
use Rattle.std.proofs.Math.Bool.{and_assoc, and-true}
use Rattle.std.proofs.Math.Logic.{by_cases}
use Rattle.std.proofs.Math.Decide.{ℕ_discrete}
use Rattle.std.proofs.Math.Nat.{pow-succ'}
use Rattle.std.proofs.Math.Numerals.{add-two, add-three, add-four, add_five, add_six, add_seven}
use Rattle.std.specs.Int.{w8}
use Rattle.std.specs.Int.Bits.{bit_or, bit_xor, or_zero_l, or_add_and, xor_add_and, xor_self}
use Rattle.std.proofs.lemmas.Nat.{and_le_l, and_le_r}
use Rattle.layout.specs.Bytes.{Bytes, le_at, le_bytes, marked, all_below, all_zero, edit, part}
use Rattle.layout.specs.Bytes.Edit.{part_at, length_part, edit_overlap}
use Rattle.layout.specs.Bytes.Tests.{all_none}

pub length_le_bytes : (n x : ℕ) → length (le_bytes n x) ≡ n
unfolding le_bytes
length_le_bytes zero x = refl
length_le_bytes (suc n) x = ap suc (length_le_bytes n (x / 256))

pub le_bytes_bytes : (n x : ℕ) → Bytes (le_bytes n x)
unfolding le_bytes
le_bytes_bytes zero x k = omega arith
le_bytes_bytes (suc n) x zero = omega arith
le_bytes_bytes (suc n) x (suc k) = le_bytes_bytes n (x / 256) k

-- the same bytes are the same number
pub le_same : (n : ℕ) (xs ys : List ℕ) (p q : ℕ) → ((k : ℕ) → k < n → get_or xs (p + k) 0 ≡ get_or ys (q + k) 0)
    → le_at n xs p ≡ le_at n ys q
unfolding le_at
le_same zero xs ys p q same = refl
le_same (suc n) xs ys p q same = omega (arith, first, le_same n xs ys (suc p) (suc q) next)
  where
    first : get_or xs p 0 ≡ get_or ys q 0
    first = rw (add-zero p, add-zero q) at (same 0 (omega arith))

    next : (k : ℕ) → k < n → get_or xs (suc p + k) 0 ≡ get_or ys (suc q + k) 0
    next k h = rw (add-suc p k, add-suc q k, ← (suc-add p k), ← (suc-add q k)) at (same (suc k) (omega arith))

-- the number behind the first byte
le_behind : (n y : ℕ) (xs : List ℕ) (at : ℕ) → le_at n (y ∷ xs) (suc at) ≡ le_at n xs at
le_behind n y xs at = le_same n (y ∷ xs) xs (suc at) at (λ k h. ap (λ (i : ℕ). get_or (y ∷ xs) i 0) (suc-add at k))

-- n bytes hold a number below 256^n
pub le_lt : (n : ℕ) (xs : List ℕ) (at : ℕ) → Bytes xs → le_at n xs at < 256 ^ n
unfolding le_at
le_lt zero xs at b = omega arith
le_lt (suc n) xs at b = omega (arith, le_lt n xs (suc at) b, b at, pow-suc 256 n)

-- a number that fits is read as it was written
pub le_back : (n x : ℕ) → x < 256 ^ n → (rest : List ℕ) → le_at n (le_bytes n x ++ rest) 0 ≡ x
unfolding le_at le_bytes
le_back zero x h rest = omega arith
le_back (suc n) x h rest = omega (
  arith,
  le_behind n (x % 256) (le_bytes n (x / 256) ++ rest) 0,
  le_back n (x / 256) (omega (arith, pow-suc 256 n)) rest,
)

-- what was read is written as it stood
pub le_again : (n : ℕ) (xs : List ℕ) (at : ℕ) → Bytes xs → at + n ≤ length xs
    → le_bytes n (le_at n xs at) ≡ part at n xs
unfolding le_bytes le_at part
le_again zero xs at b fits = refl
le_again (suc n) xs at b fits = rw (drop-cons xs at 0 (omega arith))
    (ap₂ ◌∷◌ low (ap (le_bytes n) high ∙ le_again n xs (suc at) b (omega arith)))
  where
    low : (get_or xs at 0 + 256 * le_at n xs (suc at)) % 256 ≡ get_or xs at 0
    low = omega (arith, b at)

    high : (get_or xs at 0 + 256 * le_at n xs (suc at)) / 256 ≡ le_at n xs (suc at)
    high = omega (arith, b at)

-- the number of two bytes as their sum, and of eight
pub le_two : (xs : List ℕ) (at : ℕ) → get_or xs at 0 + get_or xs (at + 1) 0 * 256 ≡ le_at 2 xs at
unfolding le_at
le_two xs at = rw (add-one at) (omega arith)

pub le_eight : (xs : List ℕ) (at : ℕ)
    → get_or xs at 0 + get_or xs (at + 1) 0 * 256 + get_or xs (at + 2) 0 * 65536 + get_or xs (at + 3) 0 * 16777216
    + get_or xs (at + 4) 0 * 4294967296
    + get_or xs (at + 5) 0 * 1099511627776 + get_or xs (at + 6) 0 * 281474976710656
    + get_or xs (at + 7) 0 * 72057594037927936
    ≡ le_at 8 xs at
unfolding le_at
le_eight xs at = rw (add-one at, add-two at, add-three at, add-four at, add_five at, add_six at, add_seven at)
    (omega arith)

-- the sums that compile to one load, as the code reads them at a list's start
pub two_read : (xs : List ℕ) {a b : ℕ} → a ≡ get_or xs 0 0 → b ≡ get_or xs 1 0 → a + b * 256 ≡ le_at 2 xs 0
two_read xs p q = omega (arith, le_two xs 0)

pub eight_read : (xs : List ℕ) {a b c d e f g h : ℕ} → a ≡ get_or xs 0 0 → b ≡ get_or xs 1 0 → c ≡ get_or xs 2 0
    → d ≡ get_or xs 3 0 → e ≡ get_or xs 4 0 → f ≡ get_or xs 5 0 → g ≡ get_or xs 6 0 → h ≡ get_or xs 7 0
    → a + b * 256 + c * 65536 + d * 16777216 + e * 4294967296 + f * 1099511627776 + g * 281474976710656
    + h * 72057594037927936
    ≡ le_at 8 xs 0
unfolding le_at
eight_read xs p q r s t u v w = omega arith

-- the bytes that one store writes
pub le_bytes_two : (x : ℕ) → le_bytes 2 x ≡ x % 256 ∷ x / 256 % 256 ∷ []
unfolding le_bytes
le_bytes_two x = refl

pub le_bytes_eight : (x : ℕ)
    → le_bytes 8 x ≡ x % 256 ∷ x / 256 % 256 ∷ x / 256 / 256 % 256 ∷ x / 256 / 256 / 256 % 256
    ∷ x / 256 / 256 / 256 / 256 % 256
    ∷ x / 256 / 256 / 256 / 256 / 256 % 256 ∷ x / 256 / 256 / 256 / 256 / 256 / 256 % 256
    ∷ x / 256 / 256 / 256 / 256 / 256 / 256 / 256 % 256 ∷ []
unfolding le_bytes
le_bytes_eight x = refl

-- and what the code writes of them
pub two_put : (at x : ℕ) (xs : List ℕ) {exit : List ℕ} → exit ≡ edit at (x % 256 ∷ x / 256 % 256 ∷ []) xs
    → exit ≡ edit at (le_bytes 2 x) xs
two_put at x xs e = e ∙ ap (λ (ys : List ℕ). edit at ys xs) (sym (le_bytes_two x))

pub eight_put : (at x : ℕ) (xs : List ℕ) {exit : List ℕ}
    → exit ≡ edit at
    (x % 256 ∷ x / 256 % 256 ∷ x / 256 / 256 % 256 ∷ x / 256 / 256 / 256 % 256 ∷ x / 256 / 256 / 256 / 256 % 256
    ∷ x / 256 / 256 / 256 / 256 / 256 % 256 ∷ x / 256 / 256 / 256 / 256 / 256 / 256 % 256
    ∷ x / 256 / 256 / 256 / 256 / 256 / 256 / 256 % 256 ∷ []) xs
    → exit ≡ edit at (le_bytes 8 x) xs
eight_put at x xs e = e ∙ ap (λ (ys : List ℕ). edit at ys xs) (sym (le_bytes_eight x))

-- the bytes of a sum: a byte and then the rest's, two bytes and then the rest's
le_bytes_byte : (n x rest : ℕ) → x < 256 → le_bytes (suc n) (x + rest * 256) ≡ x ∷ le_bytes n rest
unfolding le_bytes
le_bytes_byte n x rest small = ap₂ ◌∷◌ low (ap (le_bytes n) high)
  where
    low : (x + rest * 256) % 256 ≡ x
    low = omega arith

    high : (x + rest * 256) / 256 ≡ rest
    high = omega arith

le_bytes_pair : (n x rest : ℕ)
    → le_bytes (suc (suc n)) (x % 65536 + rest * 65536) ≡ x % 256 ∷ x / 256 % 256 ∷ le_bytes n rest
le_bytes_pair n x rest =
    ap (le_bytes (suc (suc n))) sum
    ∙ le_bytes_byte (suc n) (x % 256) (x / 256 % 256 + rest * 256) (omega arith)
    ∙ ap (λ (l : List ℕ). x % 256 ∷ l) (le_bytes_byte n (x / 256 % 256) rest (omega arith))
  where
    sum : x % 65536 + rest * 65536 ≡ x % 256 + (x / 256 % 256 + rest * 256) * 256
    sum = omega arith

-- two bytes and three pairs of bytes, packed into one number
pub le_bytes_packed : (a b x y z : ℕ) → a < 256 → b < 256
    → le_bytes 8 (a + b * 256 + x % 65536 * 65536 + y % 65536 * 4294967296 + z % 65536 * 281474976710656)
    ≡ (a ∷ b ∷ []) ++ le_bytes 2 x ++ le_bytes 2 y ++ le_bytes 2 z
unfolding le_bytes
le_bytes_packed a b x y z small little =
    ap (le_bytes 8) sum
    ∙ le_bytes_byte 7 a (b + first * 256) small
    ∙ ap (λ (l : List ℕ). a ∷ l) (le_bytes_byte 6 b first little)
    ∙ ap (λ (l : List ℕ). a ∷ b ∷ l) (le_bytes_pair 4 x second)
    ∙ ap (λ (l : List ℕ). a ∷ b ∷ x % 256 ∷ x / 256 % 256 ∷ l) (le_bytes_pair 2 y third)
    ∙ ap (λ (l : List ℕ). a ∷ b ∷ x % 256 ∷ x / 256 % 256 ∷ y % 256 ∷ y / 256 % 256 ∷ l) (le_bytes_pair 0 z 0)
  where
    third : ℕ
    third = z % 65536 + 0 * 65536

    second : ℕ
    second = y % 65536 + third * 65536

    first : ℕ
    first = x % 65536 + second * 65536

    sum : a + b * 256 + x % 65536 * 65536 + y % 65536 * 4294967296 + z % 65536 * 281474976710656
        ≡ a + (b + first * 256) * 256
    sum = omega arith

-- one byte as a longer number
pub le_bytes_zero : (n : ℕ) → le_bytes n 0 ≡ replicate n 0
unfolding le_bytes
le_bytes_zero zero = refl
le_bytes_zero (suc n) = ap (λ (l : List ℕ). 0 ∷ l) (le_bytes_zero n)

pub le_bytes_small : (n x : ℕ) → x < 256 → le_bytes (suc n) x ≡ x ∷ replicate n 0
le_bytes_small n x small = ap (le_bytes (suc n)) sum ∙ le_bytes_byte n x 0 small
    ∙ ap (λ (l : List ℕ). x ∷ l) (le_bytes_zero n)
  where
    sum : x ≡ x + 0 * 256
    sum = omega arith

-- a number behind a place, and one that stands behind a list
pub le_drop : (n : ℕ) (xs : List ℕ) (s at : ℕ) → le_at n (drop s xs) at ≡ le_at n xs (s + at)
le_drop n xs s at = le_same n (drop s xs) xs at (s + at)
    (λ k h. get_or-drop s xs (at + k) 0 ∙ ap (λ (i : ℕ). get_or xs i 0) (sym (add_assoc s at k)))

pub le_seam : (n : ℕ) (ps xs : List ℕ) (at : ℕ) → length ps ≡ at → le_at n (ps ++ xs) at ≡ le_at n xs 0
le_seam n ps xs at e = sym
    (le_same n xs (ps ++ xs) 0 at
    (λ k h. ap (λ (i : ℕ). get_or xs i 0) (zero-add k)
    ∙ sym (ap (λ (i : ℕ). get_or (ps ++ xs) (i + k) 0) (sym e) ∙ get_or-append-add ps xs k 0)))

-- a number in a part
pub le_part : (n : ℕ) (xs : List ℕ) (s m at : ℕ) → at + n ≤ m → le_at n (part s m xs) at ≡ le_at n xs (s + at)
le_part n xs s m at h = le_same n (part s m xs) xs at (s + at)
    (λ k l. part_at s m xs (at + k) (omega arith) ∙ ap (λ (i : ℕ). get_or xs i 0) (sym (add_assoc s at k)))

-- and at the start of a part that is cut out for it
pub cut_read : (n : ℕ) (xs : List ℕ) (at : ℕ) {x : ℕ} → x ≡ le_at n (take (at + n - at) (drop at xs)) 0
    → x ≡ le_at n xs at
unfolding part
cut_read n xs at e = e ∙ ap (λ (m : ℕ). le_at n (take m (drop at xs)) 0) wide ∙ le_part n xs at n 0 (omega arith)
    ∙ ap (le_at n xs) (add-zero at)
  where
    wide : at + n - at ≡ n
    wide = omega arith

-- two bytes are another two exactly if their numbers are equal
pub two_same : (x y p q : ℕ) → x < 256 → p < 256 → eqb (x + y * 256) (p + q * 256) ≡ (eqb x p && eqb y q)
two_same x y p q low high = by_cases (ℕ_discrete x p)
    (λ e. by_cases (ℕ_discrete y q)
    (λ f. rw (eq-eqb (x + y * 256) (p + q * 256) (omega (arith, e, f)), eq-eqb x p e, eq-eqb y q f))
    (λ f. rw (ne_eqb (x + y * 256) (p + q * 256) (omega (arith, e, f)), eq-eqb x p e, ne_eqb y q f)))
    (λ e. rw (ne_eqb (x + y * 256) (p + q * 256) (omega (arith, e)), ne_eqb x p e))

pub mark_read : (xs mark : List ℕ) (at : ℕ) {number first second : ℕ} → number ≡ le_at 2 xs at
    → first ≡ get_or mark 0 0 → first < 256 → second ≡ get_or mark 1 0 → ((k : ℕ) → Fits w8 (get_or xs k 0))
    → eqb number (first + second * 256) ≡ marked xs at mark
mark_read xs mark at {number} {first} {second} e p small q known =
    ap₂ eqb (e ∙ sym (le_two xs at)) (ap₂ (λ (x y : ℕ). x + y * 256) p q)
    ∙ two_same (get_or xs at 0) (get_or xs (at + 1) 0) (get_or mark 0 0) (get_or mark 1 0) (known at).fits (omega arith)

-- ---- zeros, eight bytes at a time

sum_none : (x y : ℕ) → eqb (x + 256 * y) 0 ≡ (eqb x 0 && eqb y 0)
sum_none x y = by_cases (ℕ_discrete x 0)
    (λ e. by_cases (ℕ_discrete y 0)
    (λ f. rw (eq-eqb x 0 e, eq-eqb y 0 f) (eq-eqb (x + 256 * y) 0 (omega arith)))
    (λ f. rw (eq-eqb x 0 e, ne_eqb y 0 f) (ne_eqb (x + 256 * y) 0 (λ z. f (omega arith)))))
    (λ e. rw (ne_eqb x 0 e) (ne_eqb (x + 256 * y) 0 (λ z. e (omega arith))))

pub or_none : (a b : ℕ) → eqb (bit_or a b) 0 ≡ (eqb a 0 && eqb b 0)
or_none a b = by_cases (ℕ_discrete a 0)
    (λ e. rw (eq-eqb a 0 e) (ap (λ (x : ℕ). eqb (bit_or x b) 0) e ∙ ap (λ (x : ℕ). eqb x 0) (or_zero_l b)))
    (λ e. rw (ne_eqb a 0 e) (ne_eqb (bit_or a b) 0 (λ z. e (omega (arith, or_add_and a b, and_le_r a b)))))

xor_none : (a b : ℕ) → eqb (bit_xor a b) 0 ≡ eqb a b
xor_none a b = by_cases (ℕ_discrete a b)
    (λ e. eq-eqb (bit_xor a b) 0 (ap (bit_xor a) (sym e) ∙ xor_self a) ∙ sym (eq-eqb a b e))
    (λ e. ne_eqb (bit_xor a b) 0 (λ z. e (omega (arith, z, xor_add_and a b, and_le_l a b, and_le_r a b)))
    ∙ sym (ne_eqb a b e))

-- two numbers are equal and a third is zero, as one test
pub both_none : (a b c : ℕ) → eqb (bit_or (bit_xor a b) c) 0 ≡ (eqb a b && eqb c 0)
both_none a b c = or_none (bit_xor a b) c ∙ ap (λ (t : Bool). t && eqb c 0) (xor_none a b)

-- the bytes before a place and the number there are zero if all these bytes are
pub zero_number : (xs : List ℕ) (n at : ℕ)
    → all_below (λ i. eqb (get_or xs i 0) 0) (at + n)
    ≡ (all_below (λ i. eqb (get_or xs i 0) 0) at && eqb (le_at n xs at) 0)
unfolding le_at all_below
zero_number xs zero at = ap (all_below (λ i. eqb (get_or xs i 0) 0)) (add-zero at)
    ∙ sym (and-true (all_below (λ i. eqb (get_or xs i 0) 0) at))
zero_number xs (suc n) at =
    ap (all_below (λ i. eqb (get_or xs i 0) 0)) (add-suc at n ∙ sym (suc-add at n))
    ∙ zero_number xs n (suc at)
    ∙ and_assoc (all_below (λ i. eqb (get_or xs i 0) 0) at) (eqb (get_or xs at 0) 0) (eqb (le_at n xs (suc at)) 0)
    ∙ ap (λ (b : Bool). all_below (λ i. eqb (get_or xs i 0) 0) at && b)
    (sym (sum_none (get_or xs at 0) (le_at n xs (suc at))))

-- a number's bytes from one on are zero if the number is below that one's worth
pub le_split : (n m : ℕ) (xs : List ℕ) (at : ℕ) → le_at (n + m) xs at ≡ le_at n xs at + 256 ^ n * le_at m xs (at + n)
unfolding le_at
le_split zero m xs at = rw (zero-add m, add-zero at) (omega arith)
le_split (suc n) m xs at = rw (suc-add n m) (omega
    (arith, le_split n m xs (suc at), ap (λ (i : ℕ). 256 ^ n * le_at m xs i) place, worth))
  where
    place : suc at + n ≡ at + suc n
    place = omega arith

    worth : 256 ^ suc n * le_at m xs (at + suc n) ≡ 256 * (256 ^ n * le_at m xs (at + suc n))
    worth = ap (λ (x : ℕ). x * le_at m xs (at + suc n)) (pow-succ' 256 n) ∙ mul_assoc 256 (256 ^ n) _

pub zeros_behind : (n m : ℕ) (xs : List ℕ) (at : ℕ) → Bytes xs → at + n + m ≤ length xs
    → ltb (le_at (n + m) xs at) (256 ^ n) ≡ all_zero (part (at + n) m xs)
unfolding all_zero
zeros_behind n m xs at bytes fits = by_cases (ℕ_discrete high 0)
    (λ e. lt-ltb (le_at (n + m) xs at) (256 ^ n) (omega (arith, le_split n m xs at, le_lt n xs at bytes, mul_none e))
    ∙ sym (all ∙ eq-eqb high 0 e))
    (λ e. le-ltb (le_at (n + m) xs at) (256 ^ n) (omega (arith, le_split n m xs at, mul_some e))
    ∙ sym (all ∙ ne_eqb high 0 e))
  where
    high : ℕ
    high = le_at m xs (at + n)

    mul_none : high ≡ 0 → 256 ^ n * le_at m xs (at + n) ≡ 0
    mul_none e = ap (λ (x : ℕ). 256 ^ n * x) e ∙ mul-zero (256 ^ n)

    mul_some : (high ≡ 0 → ⊥) → 256 ^ n * 1 ≤ 256 ^ n * le_at m xs (at + n)
    mul_some e = mul-le-mul_left (256 ^ n) (omega (arith, e))

    all : all_below (λ k. eqb (get_or (part (at + n) m xs) k 0) 0) (length (part (at + n) m xs)) ≡ eqb high 0
    all = ap (all_below (λ k. eqb (get_or (part (at + n) m xs) k 0) 0))
        (length_part (at + n) m xs fits ∙ sym (zero-add m))
        ∙ zero_number (part (at + n) m xs) m 0
        ∙ ap (λ (b : Bool). b && eqb (le_at m (part (at + n) m xs) 0) 0)
        (all_none (λ k. eqb (get_or (part (at + n) m xs) k 0) 0))
        ∙ ap (λ (x : ℕ). eqb x 0)
        (le_part m xs (at + n) m 0 (omega arith) ∙ ap (le_at m xs) (add-zero (at + n)))

-- what was seen so far and a word more, and the same by the words' number
pub word_more : (xs : List ℕ) (at seen word : ℕ) → eqb seen 0 ≡ all_below (λ i. eqb (get_or xs i 0) 0) at
    → word ≡ le_at 8 xs at → eqb (bit_or seen word) 0 ≡ all_below (λ i. eqb (get_or xs i 0) 0) (at + 8)
word_more xs at seen word so e = or_none seen word ∙ ap₂ ◌&&◌ so (ap (λ (x : ℕ). eqb x 0) e) ∙ sym (zero_number xs 8 at)

pub words_more : (xs : List ℕ) (k seen word : ℕ) → eqb seen 0 ≡ all_below (λ i. eqb (get_or xs i 0) 0) (8 * k)
    → word ≡ le_at 8 xs (8 * k)
    → eqb (bit_or seen word) 0 ≡ all_below (λ i. eqb (get_or xs i 0) 0) (8 * (k + 1))
words_more xs k seen word so e = word_more xs (8 * k) seen word so e ∙ ap (all_below (λ i. eqb (get_or xs i 0) 0)) place
  where
    place : 8 * k + 8 ≡ 8 * (k + 1)
    place = omega arith

-- fourteen bytes are copied as two numbers of eight that overlap
pub fourteen_copied : (at from : ℕ) (bytes source : List ℕ) → ((k : ℕ) → Fits w8 (get_or source k 0))
    → from + 14 ≤ length source → at + 14 ≤ length bytes
    → {x y : ℕ} → x ≡ le_at 8 source from → y ≡ le_at 8 source (from + 6)
    → {one exit : List ℕ} → one ≡ edit at (le_bytes 8 x) bytes → exit ≡ edit (at + 6) (le_bytes 8 y) one
    → exit ≡ edit at (part from 14 source) bytes
fourteen_copied at from bytes source known fits room ex ey e1 e2 =
    e2
    ∙ ap₂ (λ (l r : List ℕ). edit (at + 6) l r)
    (ap (le_bytes 8) ey ∙ le_again 8 source (from + 6) (λ k. (known k).fits) (omega arith))
    (e1 ∙ ap (λ (l : List ℕ). edit at l bytes)
    (ap (le_bytes 8) ex ∙ le_again 8 source from (λ k. (known k).fits) (omega arith)))
    ∙ edit_overlap at from 8 8 6 source bytes (omega arith) (omega arith) fits room
