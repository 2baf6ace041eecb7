-- Writes and the bytes apart from them: what is not written is as it was, so lists that agree there are equal once it
-- is written.
use Rattle.std.specs.Prelude.{ℕ, ◌+◌, ◌-◌, ◌≤◌, ◌<◌, ◌≡◌, List, ◌++◌, ◌⊎◌, length, get_or, take, drop}
use Rattle.std.proofs.Common.{sym, ap, ◌∙◌, append_assoc, inl, inr, ⊎_elim, arith, drop-drop}
use Rattle.std.proofs.Math.Logic.{by_cases}
use Rattle.std.proofs.Math.Decide.{dec_lt}
use Rattle.layout.specs.Bytes.{edit, part}
use Rattle.layout.specs.Bytes.Edit.{edit_is, length_edit, edit_before, edit_in, edit_after, part_at, length_part}
use Rattle.layout.specs.Bytes.Edit.{same_bytes}

-- A place that is not among the n bytes at another.
abbrev pub Apart : ℕ → ℕ → ℕ → Type 0
Apart at n i = (i < at) ⊎ (at + n ≤ i)

pub edit_apart : (at : ℕ) (ys xs : List ℕ) → at + length ys ≤ length xs → (i : ℕ) → Apart at (length ys) i
    → get_or (edit at ys xs) i 0 ≡ get_or xs i 0
edit_apart at ys xs fits i = ⊎_elim (edit_before at ys xs fits i) (edit_after at ys xs fits i)

-- lists that agree apart from a write are equal once it is written
pub edit_over : (at : ℕ) (ys xs zs : List ℕ) → length xs ≡ length zs → at + length ys ≤ length zs
    → ((i : ℕ) → i < length zs → Apart at (length ys) i → get_or xs i 0 ≡ get_or zs i 0)
    → edit at ys xs ≡ edit at ys zs
edit_over at ys xs zs long fits agree = same_bytes (edit at ys xs) (edit at ys zs) (one ∙ long ∙ sym two)
    (λ i h. by_cases (dec_lt i at) (λ l. outside i (omega (arith, one)) (inl l))
    (λ l. by_cases (dec_lt i (at + length ys)) (λ m. inside i (omega (arith, l)) m)
    (λ m. outside i (omega (arith, one)) (inr (omega (arith, m))))))
  where
    room : at + length ys ≤ length xs
    room = omega arith

    one : length (edit at ys xs) ≡ length xs
    one = length_edit at ys xs room

    two : length (edit at ys zs) ≡ length zs
    two = length_edit at ys zs fits

    outside : (i : ℕ) → i < length zs → Apart at (length ys) i → get_or (edit at ys xs) i 0 ≡ get_or (edit at ys zs) i 0
    outside i h a = edit_apart at ys xs room i a ∙ agree i h a ∙ sym (edit_apart at ys zs fits i a)

    inside : (i : ℕ) → at ≤ i → i < at + length ys → get_or (edit at ys xs) i 0 ≡ get_or (edit at ys zs) i 0
    inside i l m = ap (λ (k : ℕ). get_or (edit at ys xs) k 0) place ∙ edit_in at ys xs room (i - at) (omega arith)
        ∙ sym (ap (λ (k : ℕ). get_or (edit at ys zs) k 0) place ∙ edit_in at ys zs fits (i - at) (omega arith))
      where
        place : i ≡ at + (i - at)
        place = omega arith

-- what stands there already may be written
pub edit_same : (at : ℕ) (ys xs : List ℕ) → at + length ys ≤ length xs → part at (length ys) xs ≡ ys
    → edit at ys xs ≡ xs
edit_same at ys xs fits here = same_bytes (edit at ys xs) xs long
    (λ i h. by_cases (dec_lt i at) (λ l. edit_apart at ys xs fits i (inl l))
    (λ l. by_cases (dec_lt i (at + length ys)) (λ m. inside i (omega (arith, l)) m)
    (λ m. edit_apart at ys xs fits i (inr (omega (arith, m))))))
  where
    long : length (edit at ys xs) ≡ length xs
    long = length_edit at ys xs fits

    inside : (i : ℕ) → at ≤ i → i < at + length ys → get_or (edit at ys xs) i 0 ≡ get_or xs i 0
    inside i l m = ap (λ (k : ℕ). get_or (edit at ys xs) k 0) place ∙ edit_in at ys xs fits (i - at) (omega arith)
        ∙ ap (λ (zs : List ℕ). get_or zs (i - at) 0) (sym here) ∙ part_at at (length ys) xs (i - at) (omega arith)
        ∙ ap (λ (k : ℕ). get_or xs k 0) (sym place)
      where
        place : i ≡ at + (i - at)
        place = omega arith

-- parts that agree byte by byte
pub part_same : (at n : ℕ) (xs zs : List ℕ) → length xs ≡ length zs → at + n ≤ length zs
    → ((i : ℕ) → at ≤ i → i < at + n → get_or xs i 0 ≡ get_or zs i 0) → part at n xs ≡ part at n zs
part_same at n xs zs long fits agree = same_bytes (part at n xs) (part at n zs) (one ∙ sym (length_part at n zs fits))
    (λ k h. part_at at n xs k (omega (arith, one)) ∙ agree (at + k) (omega arith) (omega (arith, one))
    ∙ sym (part_at at n zs k (omega (arith, one))))
  where
    one : length (part at n xs) ≡ n
    one = length_part at n xs (omega arith)

-- a part that was lent and has come back
pub lent : (at n : ℕ) (ys xs : List ℕ) → n ≡ length ys → take at xs ++ (ys ++ drop n (drop at xs)) ≡ edit at ys xs
lent at n ys xs e =
    sym (append_assoc (take at xs) ys (drop n (drop at xs)))
    ∙ ap (λ (l : List ℕ). take at xs ++ ys ++ l) (drop-drop n at xs ∙ ap (λ (m : ℕ). drop (at + m) xs) e)
    ∙ sym (edit_is at ys xs)
