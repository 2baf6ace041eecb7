-- Words of eight bytes: the library's number of a word is `le_at`'s, its bytes are `le_bytes`', and a list of bytes is
-- zero if its words and what is left behind them are.
use Rattle.std.specs.Prelude.{ℕ, zero, suc, ◌+◌, ◌*◌, ◌/◌, ◌%◌, ◌^◌, ◌-◌, ◌≤◌, ◌<◌, ◌≡◌, refl, Bool, true, ◌&&◌, List}
use Rattle.std.specs.Prelude.{[], ◌∷◌, ◌++◌, eqb, length, get_or, take, drop, replicate, fold}
use Rattle.std.specs.Int.{w8, w64, from_le_bytes, to_le_bytes}
use Rattle.std.specs.Int.Bits.{bit_or}
use Rattle.std.specs.List.{concat}
use Rattle.std.specs.Simd.{first_chunks}
use Rattle.std.proofs.Common.{sym, ap, ap₂, ◌∙◌, zero-add, add-zero, add-suc, suc-add, add_comm, zero-mul, mul-zero}
use Rattle.std.proofs.Common.{append-nil, arith, Fits}
use Rattle.std.proofs.Common.{get_or-append-add, take-append-drop, take-add, length-append, length-drop}
use Rattle.std.proofs.lemmas.List.{drop-replicate}
use Rattle.std.proofs.lemmas.Nat.{le_bytes_8}
use lib.Pointwise.{pointwise}
use Rattle.std.proofs.Math.Nat.{suc-mul}
use Rattle.std.proofs.Math.Bool.{and_assoc, and-true}
use Rattle.std.proofs.Math.ListN.{get_or-append}
use Rattle.std.proofs.Math.Seq.{get_or-take, get_or-drop, length-take-le}
use Rattle.layout.specs.Bytes.{le_at, le_bytes, marked, all_below, all_zero, edit, part}
use Rattle.layout.specs.Bytes.Edit.{part_two, part_is}
use Rattle.layout.specs.Bytes.Numbers.{length_le_bytes, le_bytes_bytes, le_same, le_lt, le_back, le_eight, le_split}
use Rattle.layout.specs.Bytes.Numbers.{or_none, zero_number}
use Rattle.layout.specs.Bytes.Tests.{all_none, replicate_zero}

-- the library's number of eight bytes, and its bytes of a number
pub from_eight : (xs : List ℕ) → from_le_bytes w64 xs ≡ le_at 8 xs 0
from_eight xs = le_eight xs 0

pub to_eight : (x : ℕ) → x < 2 ^ 64 → to_le_bytes w64 x ≡ le_bytes 8 x
to_eight x fits = le_bytes_8 (le_bytes 8 x) x (length_le_bytes 8 x) (le_bytes_bytes 8 x)
    (sym (from_eight (le_bytes 8 x) ∙ ap (λ (l : List ℕ). le_at 8 l 0) (sym (append-nil (le_bytes 8 x)))
    ∙ le_back 8 x fits []))

-- a number's first bytes
pub le_first : (n m x : ℕ) → take n (le_bytes (n + m) x) ≡ le_bytes n x
unfolding le_bytes
le_first zero m x = refl
le_first (suc n) m x = rw (suc-add n m) (ap (λ (l : List ℕ). x % 256 ∷ l) (le_first n m (x / 256)))

-- and what a write of them is
pub first_put : (n at x : ℕ) (xs : List ℕ) → n ≤ 8 → x < 2 ^ 64 → {word exit : List ℕ} → word ≡ to_le_bytes w64 x
    → exit ≡ edit at (take n word) xs → exit ≡ edit at (le_bytes n x) xs
first_put n at x xs few fits e f = f ∙ ap (λ (l : List ℕ). edit at l xs)
    (ap (take n) (e ∙ to_eight x fits ∙ ap (λ (m : ℕ). le_bytes m x) whole) ∙ le_first n (8 - n) x)
  where
    whole : 8 ≡ n + (8 - n)
    whole = omega arith

-- bytes that are cut out with zeros behind them are the number of these bytes
zeros_at : (n k : ℕ) → get_or (replicate {A = ℕ} n 0) k 0 ≡ 0
zeros_at zero k = refl
zeros_at (suc n) zero = refl
zeros_at (suc n) (suc k) = zeros_at n k

le_zeros : (n : ℕ) (xs : List ℕ) (at : ℕ) → ((k : ℕ) → get_or xs (at + k) 0 ≡ 0) → le_at n xs at ≡ 0
unfolding le_at
le_zeros zero xs at none = refl
le_zeros (suc n) xs at none = omega (arith, first, le_zeros n xs (suc at) (λ k. next k))
  where
    first : get_or xs at 0 ≡ 0
    first = ap (λ (i : ℕ). get_or xs i 0) (sym (add-zero at)) ∙ none 0

    next : (k : ℕ) → get_or xs (suc at + k) 0 ≡ 0
    next k = ap (λ (i : ℕ). get_or xs i 0) place ∙ none (suc k)
      where
        place : suc at + k ≡ at + suc k
        place = omega arith

pub word_read : (n at : ℕ) (xs : List ℕ) → n ≤ 8 → at + n ≤ length xs → {cut : List ℕ} {x : ℕ}
    → cut ≡ take (at + n - at) (drop at xs) → x ≡ from_le_bytes w64 (cut ++ drop n (replicate 8 0)) → x ≡ le_at n xs at
word_read n at xs few fits {cut} e f =
    f ∙ from_eight word ∙ ap (λ (m : ℕ). le_at m word 0) whole ∙ omega (arith, le_split n (8 - n) word 0, front, none)
  where
    word : List ℕ
    word = cut ++ drop n (replicate 8 0)

    whole : 8 ≡ n + (8 - n)
    whole = omega arith

    known : cut ≡ take n (drop at xs)
    known = e ∙ ap (λ (m : ℕ). take m (drop at xs)) wide
      where
        wide : at + n - at ≡ n
        wide = omega arith

    long : length cut ≡ n
    long = ap length known ∙ length-take-le n (drop at xs) (omega (arith, length-drop at xs))

    front : le_at n word 0 ≡ le_at n xs at
    front = le_same n word xs 0 at (λ k h. ap (λ (i : ℕ). get_or word i 0) (zero-add k)
        ∙ get_or-append cut (drop n (replicate 8 0)) 0 k (omega (arith, long))
        ∙ ap (λ (l : List ℕ). get_or l k 0) known ∙ get_or-take n (drop at xs) k 0 h ∙ get_or-drop at xs k 0)

    none : 256 ^ n * le_at (8 - n) word (0 + n) ≡ 0
    none = ap (λ (x : ℕ). 256 ^ n * x) (le_zeros (8 - n) word (0 + n) (λ k. ap (λ (i : ℕ). get_or word i 0) (place k)
        ∙ get_or-append-add cut (drop n (replicate 8 0)) k 0
        ∙ ap (λ (l : List ℕ). get_or l k 0) (drop-replicate n 8 0) ∙ zeros_at (8 - n) k))
        ∙ mul-zero (256 ^ n)
      where
        place : (k : ℕ) → 0 + n + k ≡ length cut + k
        place k = omega (arith, long)

pub word_below : (n at : ℕ) (xs : List ℕ) → ((k : ℕ) → Fits w8 (get_or xs k 0)) → {x : ℕ} → x ≡ le_at n xs at
    → x < 256 ^ n
word_below n at xs known e = rw e (le_lt n xs at (λ k. (known k).fits))

-- bytes that are cut out are a part
pub part_cut : (at n : ℕ) (xs : List ℕ) {ys : List ℕ} → ys ≡ take (at + n - at) (drop at xs) → ys ≡ part at n xs
part_cut at n xs e = e ∙ ap (λ (m : ℕ). take m (drop at xs)) wide ∙ sym (part_is at n xs)
  where
    wide : at + n - at ≡ n
    wide = omega arith

-- two bytes are a mark's
pub mark_same : (xs mark : List ℕ) (at : ℕ) → at + 2 ≤ length xs → length mark ≡ 2 → {here : List ℕ}
    → here ≡ part at 2 xs → pointwise eqb here mark ≡ marked xs at mark
mark_same xs (x ∷ y ∷ []) at fits two e = ap (λ (l : List ℕ). pointwise eqb l (x ∷ y ∷ [])) (e ∙ part_two at xs fits)
    ∙ ap (λ (b : Bool). eqb (get_or xs at 0) x && b) (and-true (eqb (get_or xs (at + 1) 0) y))
mark_same xs [] at fits two e = absurd (omega (arith, two))
mark_same xs (x ∷ []) at fits two e = absurd (omega (arith, two))
mark_same xs (x ∷ (y ∷ (z ∷ zs))) at fits two e = absurd (omega (arith, two))

-- a test that passes below the sum of two numbers passes below the first, and from there on
all_split : (test : ℕ → Bool) (n m : ℕ)
    → all_below test (n + m) ≡ (all_below test n && all_below (λ k. test (n + k)) m)
unfolding all_below
all_split test n zero = ap (all_below test) (add-zero n) ∙ sym (and-true (all_below test n))
all_split test n (suc m) = ap (all_below test) (add-suc n m) ∙ ap (λ (b : Bool). b && test (n + m)) (all_split test n m)
    ∙ and_assoc (all_below test n) (all_below (λ k. test (n + k)) m) (test (n + m))

all_same : (one two : ℕ → Bool) (n : ℕ) → ((k : ℕ) → k < n → one k ≡ two k) → all_below one n ≡ all_below two n
unfolding all_below
all_same one two zero same = refl
all_same one two (suc n) same = ap₂ ◌&&◌ (all_same one two n (λ k h. same k (omega arith))) (same n (omega arith))

-- all zero, list after list
pub zero_append : (xs ys : List ℕ) → all_zero (xs ++ ys) ≡ (all_zero xs && all_zero ys)
unfolding all_zero
zero_append xs ys = ap (all_below (λ k. eqb (get_or (xs ++ ys) k 0) 0)) (length-append xs ys)
    ∙ all_split (λ k. eqb (get_or (xs ++ ys) k 0) 0) (length xs) (length ys)
    ∙ ap₂ ◌&&◌
    (all_same _ _ (length xs) (λ k h. ap (λ (x : ℕ). eqb x 0) (get_or-append xs ys 0 k h)))
    (all_same _ _ (length ys) (λ k h. ap (λ (x : ℕ). eqb x 0) (get_or-append-add xs ys k 0)))

-- a word is zero if its number is
word_zero : (word : List ℕ) → length word ≡ 8 → eqb (from_le_bytes w64 word) 0 ≡ all_zero word
unfolding all_zero
word_zero word long = ap (λ (x : ℕ). eqb x 0) (from_eight word)
    ∙ sym (ap (all_below (λ k. eqb (get_or word k 0) 0)) (long ∙ sym (zero-add 8)) ∙ zero_number word 8 0
    ∙ ap (λ (b : Bool). b && eqb (le_at 8 word 0) 0) (all_none (λ k. eqb (get_or word k 0) 0)))

-- what was seen of words is zero if all of them are
words_seen : (words : List (List ℕ)) → ((k : ℕ) → k < length words → length (get_or words k []) ≡ 8) → (seen : ℕ)
    → eqb (fold (λ (s : ℕ) (word : List ℕ). bit_or s (from_le_bytes w64 word)) seen words) 0
    ≡ (eqb seen 0 && all_zero (concat words))
words_seen [] long seen = sym (ap (λ (b : Bool). eqb seen 0 && b) nothing ∙ and-true (eqb seen 0))
  where
    nothing : all_zero [] ≡ true
    nothing = replicate_zero 0
words_seen (word ∷ words) long seen =
    words_seen words (λ k h. long (suc k) (omega arith)) (bit_or seen (from_le_bytes w64 word))
    ∙ ap (λ (b : Bool). b && all_zero (concat words)) (or_none seen (from_le_bytes w64 word)
    ∙ ap (λ (b : Bool). eqb seen 0 && b) (word_zero word (long 0 (omega arith))))
    ∙ and_assoc (eqb seen 0) (all_zero word) (all_zero (concat words))
    ∙ ap (λ (b : Bool). eqb seen 0 && b) (sym (zero_append word (concat words)))

pub words_none : (words : List (List ℕ)) → ((k : ℕ) → k < length words → length (get_or words k []) ≡ 8) → {seen : ℕ}
    → seen ≡ fold (λ (s : ℕ) (word : List ℕ). bit_or s (from_le_bytes w64 word)) 0 words
    → eqb seen 0 ≡ all_zero (concat words)
words_none words long e = ap (λ (x : ℕ). eqb x 0) e ∙ words_seen words long 0

-- and what was seen of bytes if all are
byte_zero : (x : ℕ) → eqb x 0 ≡ all_zero (x ∷ [])
unfolding all_zero all_below
byte_zero x = refl

bytes_seen : (xs : List ℕ) (seen : ℕ) → eqb (fold bit_or seen xs) 0 ≡ (eqb seen 0 && all_zero xs)
bytes_seen [] seen = sym (ap (λ (b : Bool). eqb seen 0 && b) (replicate_zero 0) ∙ and-true (eqb seen 0))
bytes_seen (x ∷ xs) seen = bytes_seen xs (bit_or seen x)
    ∙ ap (λ (b : Bool). b && all_zero xs) (or_none seen x ∙ ap (λ (b : Bool). eqb seen 0 && b) (byte_zero x))
    ∙ and_assoc (eqb seen 0) (all_zero (x ∷ [])) (all_zero xs)
    ∙ ap (λ (b : Bool). eqb seen 0 && b) (sym (zero_append (x ∷ []) xs))

pub bytes_none : (xs : List ℕ) {seen : ℕ} → seen ≡ fold bit_or 0 xs → eqb seen 0 ≡ all_zero xs
bytes_none xs e = ap (λ (x : ℕ). eqb x 0) e ∙ bytes_seen xs 0

-- words and what is left behind them are the whole
words_whole : (n k : ℕ) (xs : List ℕ) → concat (first_chunks n k xs) ++ drop (k * n) xs ≡ xs
words_whole n k xs = ap (λ (l : List ℕ). l ++ drop (k * n) xs) (joined k xs) ∙ take-append-drop (k * n) xs
  where
    joined : (k : ℕ) (xs : List ℕ) → concat (first_chunks n k xs) ≡ take (k * n) xs
    joined zero xs = ap (λ (m : ℕ). take m xs) (sym (zero-mul n))
    joined (suc k) xs = ap (λ (l : List ℕ). take n xs ++ l) (joined k (drop n xs)) ∙ sym (take-add n (k * n) xs)
        ∙ ap (λ (m : ℕ). take m xs) (add_comm n (k * n) ∙ sym (suc-mul k n))

pub whole_zero : (n k : ℕ) (xs : List ℕ) {words : List (List ℕ)} {rest : List ℕ} → words ≡ first_chunks n k xs
    → rest ≡ drop (k * n) xs → {clean : Bool} → clean ≡ all_zero (concat words) → {seen : ℕ} → seen ≡ fold bit_or 0 rest
    → (clean && eqb seen 0) ≡ all_zero xs
whole_zero n k xs e f g h = ap₂ ◌&&◌ g (bytes_none _ h) ∙ sym (zero_append _ _)
    ∙ ap all_zero (ap₂ (λ (l r : List ℕ). l ++ r) (ap concat e) f ∙ words_whole n k xs)
