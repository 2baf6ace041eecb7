-- What a write leaves: the bytes written, and every other byte as it was. Two lists are equal by their elements, so
-- each law is read off these.
use Rattle.std.specs.Prelude.{ℕ, zero, suc, ◌+◌, ◌-◌, ◌≤◌, ◌<◌, ◌≡◌, refl, List, [], ◌∷◌, ◌++◌, take, drop, replicate}
use Rattle.std.specs.Prelude.{set}
use Rattle.std.proofs.Common.{sym, ap₂, ◌∙◌, append-nil, add_assoc, add-zero, zero-add, add-one, arith, length-set}
use Rattle.std.proofs.Common.{take-append-drop, ext_get_or, get_or-append-add, take-add, drop-drop, drop_at, drop-cons}
use Rattle.std.proofs.Math.Path.{ap}
use Rattle.std.proofs.Math.Logic.{by_cases}
use Rattle.std.proofs.Math.Decide.{dec_lt}
use Rattle.std.proofs.lemmas.List.Edits.{fill_more}
use Rattle.std.proofs.Math.ListN.{length, get_or, length-append, length-drop, get_or-append, get_or-eq_default}
use Rattle.std.proofs.Math.Seq.{get_or-take, get_or-drop, length-take-le, paste, paste-suc, take-length, drop-length}
use Rattle.std.proofs.Math.Seq.{take-append_seam, drop-append_seam, drop-append-add, append_snoc}
use Rattle.std.proofs.lemmas.List.{set_split}
use Rattle.layout.specs.Bytes.{Bytes, edit, part}

-- an element of the second of two lists
append_past : (xs ys : List ℕ) (k : ℕ) → length xs ≤ k → get_or (xs ++ ys) k 0 ≡ get_or ys (k - length xs) 0
append_past xs ys k h = ap (λ (i : ℕ). get_or (xs ++ ys) i 0) place ∙ get_or-append-add xs ys (k - length xs) 0
  where
    place : k ≡ length xs + (k - length xs)
    place = omega arith

pub edit_is : (at : ℕ) (ys xs : List ℕ) → edit at ys xs ≡ take at xs ++ ys ++ drop (at + length ys) xs
unfolding edit
edit_is at ys xs = refl

module _ (at : ℕ) (ys xs : List ℕ) (fits : at + length ys ≤ length xs) where
  front : length (take at xs ++ ys) ≡ at + length ys
  front = length-append (take at xs) ys ∙ ap (λ (n : ℕ). n + length ys) (length-take-le at xs (omega arith))

  before : length (take at xs) ≡ at
  before = length-take-le at xs (omega arith)

  pub length_edit : length (edit at ys xs) ≡ length xs
  unfolding edit
  length_edit = omega
      (arith, length-append (take at xs ++ ys) (drop (at + length ys) xs), front, length-drop (at + length ys) xs)

  pub edit_before : (k : ℕ) → k < at → get_or (edit at ys xs) k 0 ≡ get_or xs k 0
  unfolding edit
  edit_before k h =
      get_or-append (take at xs ++ ys) (drop (at + length ys) xs) 0 k (omega (arith, front))
      ∙ get_or-append (take at xs) ys 0 k (omega (arith, before))
      ∙ get_or-take at xs k 0 h

  pub edit_in : (k : ℕ) → k < length ys → get_or (edit at ys xs) (at + k) 0 ≡ get_or ys k 0
  unfolding edit
  edit_in k h =
      get_or-append (take at xs ++ ys) (drop (at + length ys) xs) 0 (at + k) (omega (arith, front))
      ∙ append_past (take at xs) ys (at + k) (omega (arith, before))
      ∙ ap (λ (i : ℕ). get_or ys i 0) place
    where
      place : at + k - length (take at xs) ≡ k
      place = omega (arith, before)

  pub edit_after : (k : ℕ) → at + length ys ≤ k → get_or (edit at ys xs) k 0 ≡ get_or xs k 0
  unfolding edit
  edit_after k h =
      append_past (take at xs ++ ys) (drop (at + length ys) xs) k (omega (arith, front))
      ∙ get_or-drop (at + length ys) xs (k - length (take at xs ++ ys)) 0
      ∙ ap (λ (i : ℕ). get_or xs i 0) place
    where
      place : at + length ys + (k - length (take at xs ++ ys)) ≡ k
      place = omega (arith, front)

-- a part of a list
pub part_is : (at n : ℕ) (xs : List ℕ) → part at n xs ≡ take n (drop at xs)
unfolding part
part_is at n xs = refl

module _ (at n : ℕ) (xs : List ℕ) where
  pub part_at : (k : ℕ) → k < n → get_or (part at n xs) k 0 ≡ get_or xs (at + k) 0
  unfolding part
  part_at k h = get_or-take n (drop at xs) k 0 h ∙ get_or-drop at xs k 0

  pub length_part : at + n ≤ length xs → length (part at n xs) ≡ n
  unfolding part
  length_part fits = length-take-le n (drop at xs) (omega (arith, length-drop at xs))

-- two lists with the same elements
pub same_bytes : (xs ys : List ℕ) → length xs ≡ length ys → ((k : ℕ) → k < length xs → get_or xs k 0 ≡ get_or ys k 0)
    → xs ≡ ys
same_bytes xs ys long each = ext_get_or 0 xs ys long each

-- what was written is read there
pub part_edit : (at : ℕ) (ys xs : List ℕ) → at + length ys ≤ length xs → part at (length ys) (edit at ys xs) ≡ ys
part_edit at ys xs fits = same_bytes (part at (length ys) (edit at ys xs)) ys long
    (λ k h. part_at at (length ys) (edit at ys xs) k (omega (arith, long))
    ∙ edit_in at ys xs fits k (omega (arith, long)))
  where
    long : length (part at (length ys) (edit at ys xs)) ≡ length ys
    long = length_part at (length ys) (edit at ys xs) (omega (arith, length_edit at ys xs fits))

-- and a part before or behind it is as it was
pub part_before : (at : ℕ) (ys xs : List ℕ) → at + length ys ≤ length xs → (p n : ℕ) → p + n ≤ at
    → part p n (edit at ys xs) ≡ part p n xs
part_before at ys xs fits p n h = same_bytes (part p n (edit at ys xs)) (part p n xs)
    (long ∙ sym (length_part p n xs (omega arith)))
    (λ k l. part_at p n (edit at ys xs) k (omega (arith, long))
    ∙ edit_before at ys xs fits (p + k) (omega (arith, long)) ∙ sym (part_at p n xs k (omega (arith, long))))
  where
    long : length (part p n (edit at ys xs)) ≡ n
    long = length_part p n (edit at ys xs) (omega (arith, length_edit at ys xs fits))

pub part_after : (at : ℕ) (ys xs : List ℕ) → at + length ys ≤ length xs → (p n : ℕ) → at + length ys ≤ p
    → p + n ≤ length xs
    → part p n (edit at ys xs) ≡ part p n xs
part_after at ys xs fits p n h l = same_bytes (part p n (edit at ys xs)) (part p n xs)
    (long ∙ sym (length_part p n xs l))
    (λ k m. part_at p n (edit at ys xs) k (omega (arith, long)) ∙ edit_after at ys xs fits (p + k) (omega arith)
    ∙ sym (part_at p n xs k (omega (arith, long))))
  where
    long : length (part p n (edit at ys xs)) ≡ n
    long = length_part p n (edit at ys xs) (omega (arith, length_edit at ys xs fits))

-- a write right behind another is one write
pub edit_next : (at : ℕ) (ys zs xs : List ℕ) → at + (length ys + length zs) ≤ length xs
    → edit (at + length ys) zs (edit at ys xs) ≡ edit at (ys ++ zs) xs
edit_next at ys zs xs fits = same_bytes (edit (at + length ys) zs (edit at ys xs)) (edit at (ys ++ zs) xs)
    (length_edit (at + length ys) zs (edit at ys xs) (omega (arith, once)) ∙ once
    ∙ sym (length_edit at (ys ++ zs) xs (omega (arith, both)))) (λ k h. each k)
  where
    both : length (ys ++ zs) ≡ length ys + length zs
    both = length-append ys zs

    once : length (edit at ys xs) ≡ length xs
    once = length_edit at ys xs (omega arith)

    each : (k : ℕ) → get_or (edit (at + length ys) zs (edit at ys xs)) k 0 ≡ get_or (edit at (ys ++ zs) xs) k 0
    each k = by_cases (dec_lt k (at + length ys))
        (λ l. edit_before (at + length ys) zs (edit at ys xs) (omega (arith, once)) k l ∙ by_cases (dec_lt k at)
        (λ m. edit_before at ys xs (omega arith) k m ∙ sym (edit_before at (ys ++ zs) xs (omega (arith, both)) k m))
        (λ m. first (k - at) (omega arith) (omega arith)))
        (λ l. by_cases (dec_lt k (at + length ys + length zs))
        (λ m. second (k - (at + length ys)) (omega arith) (omega arith))
        (λ m. edit_after (at + length ys) zs (edit at ys xs) (omega (arith, once)) k (omega arith)
        ∙ edit_after at ys xs (omega arith) k (omega arith)
        ∙ sym (edit_after at (ys ++ zs) xs (omega (arith, both)) k (omega (arith, both)))))
      where
        first : (i : ℕ) → k ≡ at + i → i < length ys → get_or (edit at ys xs) k 0 ≡ get_or (edit at (ys ++ zs) xs) k 0
        first i e h = rw e (edit_in at ys xs (omega arith) i h
            ∙ sym
            (edit_in at (ys ++ zs) xs (omega (arith, both)) i (omega (arith, both)) ∙ get_or-append ys zs 0 i h))

        second : (i : ℕ) → k ≡ at + length ys + i → i < length zs
            → get_or (edit (at + length ys) zs (edit at ys xs)) k 0 ≡ get_or (edit at (ys ++ zs) xs) k 0
        second i e h =
            ap (λ (j : ℕ). get_or (edit (at + length ys) zs (edit at ys xs)) j 0) e
            ∙ edit_in (at + length ys) zs (edit at ys xs) (omega (arith, once)) i h
            ∙ sym (ap (λ (j : ℕ). get_or (edit at (ys ++ zs) xs) j 0) (e ∙ add_assoc at (length ys) i)
            ∙ edit_in at (ys ++ zs) xs (omega (arith, both)) (length ys + i) (omega (arith, both))
            ∙ get_or-append-add ys zs i 0)

-- a write of bytes leaves bytes
pub edit_bytes : (at : ℕ) (ys xs : List ℕ) → at + length ys ≤ length xs → Bytes ys → Bytes xs → Bytes (edit at ys xs)
edit_bytes at ys xs fits by bx k = by_cases (dec_lt k at)
    (λ l. rw (edit_before at ys xs fits k l) (bx k))
    (λ l. by_cases (dec_lt k (at + length ys))
    (λ m. inside (k - at) (omega arith) (omega arith))
    (λ m. rw (edit_after at ys xs fits k (omega arith)) (bx k)))
  where
    inside : (i : ℕ) → k ≡ at + i → i < length ys → get_or (edit at ys xs) k 0 < 256
    inside i e h = rw (e, edit_in at ys xs fits i h) (by i)

-- bytes after bytes are bytes, and zeros are
pub append_bytes : (xs ys : List ℕ) → Bytes xs → Bytes ys → Bytes (xs ++ ys)
append_bytes [] ys bx by k = by k
append_bytes (x ∷ xs) ys bx by zero = bx 0
append_bytes (x ∷ xs) ys bx by (suc k) = append_bytes xs ys (λ j. bx (suc j)) by k

pub zeros_bytes : (n : ℕ) → Bytes (replicate n 0)
zeros_bytes zero k = omega arith
zeros_bytes (suc n) zero = omega arith
zeros_bytes (suc n) (suc k) = zeros_bytes n k

-- a part of bytes is bytes
pub part_bytes : (at n : ℕ) (xs : List ℕ) → at + n ≤ length xs → Bytes xs → Bytes (part at n xs)
part_bytes at n xs fits bx k = by_cases (dec_lt k n)
    (λ l. rw (part_at at n xs k l) (bx (at + k)))
    (λ l. rw (get_or-eq_default (part at n xs) 0 {n = k} (omega (arith, length_part at n xs fits))) (omega arith))

-- a copy, byte by byte, is a write: one turn more, and the whole
pub copy_more : (at k : ℕ) (ys xs now : List ℕ) → at + length ys ≤ length xs → k < length ys → length now ≡ length xs
    → now ≡ paste xs at ys k
    → (k + 1 ≤ length ys) × (length (set now (at + k) (get_or ys k 0)) ≡ length xs)
    × (set now (at + k) (get_or ys k 0) ≡ paste xs at ys (k + 1))
copy_more at k ys xs now fits more long so = (
  omega arith,
  length-set now (at + k) (get_or ys k 0) ∙ long,
  ap (λ (zs : List ℕ). set zs (at + k) (get_or ys k 0)) so ∙ paste-suc xs at ys k 0 (omega arith) more
      ∙ ap (paste xs at ys) (sym (add-one k)),
)

pub copy_done : (at k : ℕ) (ys xs now : List ℕ) → k ≤ length ys → length ys ≤ k → now ≡ paste xs at ys k
    → now ≡ edit at ys xs
unfolding edit
copy_done at k ys xs now below above so = so ∙ ap (paste xs at ys) all
    ∙ ap (λ (zs : List ℕ). take at xs ++ zs ++ drop (at + length ys) xs) (take-length ys)
  where
    all : k ≡ length ys
    all = omega arith

-- zeros, one turn more, and all
pub clear_more : (k : ℕ) (xs now : List ℕ) → k < length xs → length now ≡ length xs → now ≡ replicate k 0 ++ drop k xs
    → (length (set now k 0) ≡ length xs) × (k + 1 ≤ length xs) × (set now k 0 ≡ replicate (k + 1) 0 ++ drop (k + 1) xs)
clear_more k xs now more long so =
    (length-set now k 0 ∙ long, omega arith, ap (λ (zs : List ℕ). set zs k 0) so ∙ fill_more k 0 xs more)

pub clear_done : (k : ℕ) (xs now : List ℕ) → k ≤ length xs → length xs ≤ k → now ≡ replicate k 0 ++ drop k xs
    → now ≡ replicate (length xs) 0
clear_done k xs now below above so = so ∙ ap (λ (i : ℕ). replicate i 0 ++ drop i xs) all
    ∙ ap (λ (zs : List ℕ). replicate (length xs) 0 ++ zs) (drop-length xs) ∙ append-nil (replicate (length xs) 0)
  where
    all : k ≡ length xs
    all = omega arith

-- a write at the seam of two lists replaces the front of the second
pub edit_seam : (ps ys zs : List ℕ) (at : ℕ) → length ps ≡ at → edit at ys (ps ++ zs) ≡ ps ++ ys ++ drop (length ys) zs
unfolding edit
edit_seam ps ys zs at e = rw (← e)
    (ap₂ (λ (f b : List ℕ). f ++ ys ++ b) (take-append_seam ps zs) (drop-append-add ps zs (length ys)))

-- a part, and the part behind it
pub part_split : (at n m : ℕ) (xs : List ℕ) → part at (n + m) xs ≡ part at n xs ++ part (at + n) m xs
unfolding part
part_split at n m xs = take-add n m (drop at xs)
    ∙ ap (λ (zs : List ℕ). take n (drop at xs) ++ take m zs) (drop-drop n at xs)

-- all behind a place is a part and all behind that
pub drop_split : (at n : ℕ) (xs : List ℕ) → drop at xs ≡ part at n xs ++ drop (at + n) xs
unfolding part
drop_split at n xs = sym (take-append-drop n (drop at xs))
    ∙ ap (λ (zs : List ℕ). take n (drop at xs) ++ zs) (drop-drop n at xs)

-- a part of what is left behind a place
pub part_drop : (s at n : ℕ) (xs : List ℕ) → part at n (drop s xs) ≡ part (s + at) n xs
unfolding part
part_drop s at n xs = ap (take n) (drop-drop at s xs)

-- a part that a list starts with
pub part_seam : (at : ℕ) (ps ys zs : List ℕ) → length ps ≡ at → part at (length ys) (ps ++ (ys ++ zs)) ≡ ys
unfolding part
part_seam at ps ys zs e = rw (drop_at ps (ys ++ zs) at e) (take-append_seam ys zs)

-- one byte, and two
pub part_two : (at : ℕ) (xs : List ℕ) → at + 2 ≤ length xs → part at 2 xs ≡ get_or xs at 0 ∷ get_or xs (at + 1) 0 ∷ []
unfolding part
part_two at xs fits = rw (drop-cons xs at 0 (omega arith), drop-cons xs (suc at) 0 (omega arith), add-one at)

-- a part from the start
pub part_front : (n : ℕ) (xs : List ℕ) → part 0 n xs ≡ take n xs
unfolding part
part_front n xs = refl

-- a write over all of a list
pub edit_all : (ys xs : List ℕ) → length ys ≡ length xs → edit 0 ys xs ≡ ys
edit_all ys xs same = edit_is 0 ys xs ∙ ap (λ (l : List ℕ). ys ++ l) (ap (λ (n : ℕ). drop n xs) end ∙ drop-length xs)
    ∙ append-nil ys
  where
    end : 0 + length ys ≡ length xs
    end = omega arith

-- a part of a part
pub part_part : (s m p n : ℕ) (xs : List ℕ) → p + n ≤ m → s + m ≤ length xs → part p n (part s m xs) ≡ part (s + p) n xs
part_part s m p n xs inside fits = same_bytes (part p n (part s m xs)) (part (s + p) n xs)
    (long ∙ sym (length_part (s + p) n xs (omega arith)))
    (λ k h. part_at p n (part s m xs) k (omega (arith, long)) ∙ part_at s m xs (p + k) (omega (arith, long))
    ∙ ap (λ (i : ℕ). get_or xs i 0) (sym (add_assoc s p k)) ∙ sym (part_at (s + p) n xs k (omega (arith, long))))
  where
    long : length (part p n (part s m xs)) ≡ n
    long = length_part p n (part s m xs) (omega (arith, length_part s m xs fits))

-- a write of nothing, and of one number before others
pub edit_nothing : (at : ℕ) (xs : List ℕ) → edit at [] xs ≡ xs
edit_nothing at xs = edit_is at [] xs ∙ rw (add-zero at, append-nil (take at xs)) (take-append-drop at xs)

pub edit_first : (at y : ℕ) (ys xs : List ℕ) → at + (1 + length ys) ≤ length xs
    → edit (at + 1) ys (set xs at y) ≡ edit at (y ∷ ys) xs
edit_first at y ys xs fits = ap (edit (at + 1) ys) one ∙ edit_next at (y ∷ []) ys xs fits
  where
    one : set xs at y ≡ edit at (y ∷ []) xs
    one = set_split xs at y (omega arith)
        ∙ sym (edit_is at (y ∷ []) xs ∙ rw (add-one at) (append_snoc (take at xs) y (drop (suc at) xs)))

-- a write at a list's start, and what it leaves behind it
pub front_written : (ys xs : List ℕ) → take (length ys) (edit 0 ys xs) ≡ ys
front_written ys xs = ap (take (length ys)) (edit_is 0 ys xs) ∙ take-append_seam ys (drop (0 + length ys) xs)

pub rest_left : (ys xs : List ℕ) → drop (length ys) (edit 0 ys xs) ≡ drop (length ys) xs
rest_left ys xs = ap (drop (length ys)) (edit_is 0 ys xs) ∙ drop-append_seam ys (drop (0 + length ys) xs)
    ∙ ap (λ (n : ℕ). drop n xs) (zero-add (length ys))

-- two parts of one list side by side, of which the second begins inside the first, are one part written
module _ (at from n m a : ℕ) (source bytes : List ℕ) (low : a ≤ n) (high : n ≤ a + m)
    (fits : from + (a + m) ≤ length source) (room : at + (a + m) ≤ length bytes) where
  first_long : length (part from n source) ≡ n
  first_long = length_part from n source (omega arith)

  second_long : length (part (from + a) m source) ≡ m
  second_long = length_part (from + a) m source (omega arith)

  whole_long : length (part from (a + m) source) ≡ a + m
  whole_long = length_part from (a + m) source fits

  first_fits : at + length (part from n source) ≤ length bytes
  first_fits = omega (arith, first_long)

  whole_fits : at + length (part from (a + m) source) ≤ length bytes
  whole_fits = omega (arith, whole_long)

  first_kept : length (edit at (part from n source) bytes) ≡ length bytes
  first_kept = length_edit at (part from n source) bytes first_fits

  second_fits : at + a + length (part (from + a) m source) ≤ length (edit at (part from n source) bytes)
  second_fits = omega (arith, second_long, first_kept)

  pub edit_overlap : edit (at + a) (part (from + a) m source) (edit at (part from n source) bytes)
      ≡ edit at (part from (a + m) source) bytes
  edit_overlap = same_bytes _ _
      (length_edit (at + a) (part (from + a) m source) (edit at (part from n source) bytes) second_fits ∙ first_kept
      ∙ sym (length_edit at (part from (a + m) source) bytes whole_fits)) (λ k h. each k)
    where
      one : List ℕ
      one = edit at (part from n source) bytes

      -- byte i of the whole part, at its place
      whole : (k i : ℕ) → k ≡ at + i → i < a + m → get_or (edit at (part from (a + m) source) bytes) k 0
          ≡ get_or source (from + i) 0
      whole k i e h = ap (λ (j : ℕ). get_or (edit at (part from (a + m) source) bytes) j 0) e
          ∙ edit_in at (part from (a + m) source) bytes whole_fits i (omega (arith, whole_long))
          ∙ part_at from (a + m) source i h

      first : (k i : ℕ) → k ≡ at + i → i < a → get_or (edit (at + a) (part (from + a) m source) one) k 0
          ≡ get_or source (from + i) 0
      first k i e h = edit_before (at + a) (part (from + a) m source) one second_fits k (omega arith)
          ∙ ap (λ (j : ℕ). get_or one j 0) e
          ∙ edit_in at (part from n source) bytes first_fits i (omega (arith, first_long))
          ∙ part_at from n source i (omega arith)

      second : (k i : ℕ) → k ≡ at + a + i → i < m → get_or (edit (at + a) (part (from + a) m source) one) k 0
          ≡ get_or source (from + a + i) 0
      second k i e h = ap (λ (j : ℕ). get_or (edit (at + a) (part (from + a) m source) one) j 0) e
          ∙ edit_in (at + a) (part (from + a) m source) one second_fits i (omega (arith, second_long))
          ∙ part_at (from + a) m source i h

      shift : (i : ℕ) → get_or source (from + a + i) 0 ≡ get_or source (from + (a + i)) 0
      shift i = ap (λ (j : ℕ). get_or source j 0) same
        where
          same : from + a + i ≡ from + (a + i)
          same = omega arith

      each : (k : ℕ) → get_or (edit (at + a) (part (from + a) m source) one) k 0
          ≡ get_or (edit at (part from (a + m) source) bytes) k 0
      each k = by_cases (dec_lt k at)
          (λ l. edit_before (at + a) (part (from + a) m source) one second_fits k (omega arith)
          ∙ edit_before at (part from n source) bytes first_fits k l
          ∙ sym (edit_before at (part from (a + m) source) bytes whole_fits k l))
          (λ l. by_cases (dec_lt k (at + a))
          (λ r. first k (k - at) (omega arith) (omega arith) ∙ sym (whole k (k - at) (omega arith) (omega arith)))
          (λ r. by_cases (dec_lt k (at + (a + m)))
          (λ s. second k (k - (at + a)) (omega arith) (omega arith) ∙ shift (k - (at + a))
          ∙ sym (whole k (a + (k - (at + a))) (omega arith) (omega arith)))
          (λ s. edit_after (at + a) (part (from + a) m source) one second_fits k (omega (arith, second_long))
          ∙ edit_after at (part from n source) bytes first_fits k (omega (arith, first_long))
          ∙ sym (edit_after at (part from (a + m) source) bytes whole_fits k (omega (arith, whole_long))))))
