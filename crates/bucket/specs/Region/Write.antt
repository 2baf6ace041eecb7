-- What the writing functions leave, over plain values: a slot written in three pieces, and one copied.
use Rattle.std.specs.Prelude.{ℕ, ◌+◌, ◌≤◌, ◌≡◌, List, ◌++◌, length, get_or}
use Rattle.std.proofs.Common.{sym, ap, ap₂, ◌∙◌, arith, Fits, length-append}
use Rattle.std.specs.Int.{w8}
use Rattle.layout.specs.Bytes.{Bytes, le_at, le_bytes, edit, part}
use Rattle.layout.specs.Bytes.Edit.{edit_next, part_split}
use Rattle.layout.specs.Bytes.Numbers.{length_le_bytes, le_again}
use Rattle.bucket.specs.Region.{slot_mark, slot_bytes}

-- a slot: mark, key and payload, one behind the other
pub put_slot : (at key : ℕ) (payload region : List ℕ) → length payload ≡ 14 → at + 24 ≤ length region
    → edit (at + 10) payload (edit (at + 2) (le_bytes 8 key) (edit at slot_mark region))
    ≡ edit at (slot_bytes (record { key = key; payload = payload })) region
unfolding slot_bytes
put_slot at key payload region long fits =
    ap (λ (n : ℕ). edit n payload (edit (at + 2) (le_bytes 8 key) (edit at slot_mark region))) behind
    ∙ ap (edit (at + length (slot_mark ++ le_bytes 8 key)) payload)
    (edit_next at slot_mark (le_bytes 8 key) region (omega (arith, length_le_bytes 8 key)))
    ∙ edit_next at (slot_mark ++ le_bytes 8 key) payload region (omega (arith, both))
  where
    both : length (slot_mark ++ le_bytes 8 key) ≡ 10
    both = length-append slot_mark (le_bytes 8 key) ∙ omega (arith, length_le_bytes 8 key)

    behind : at + 10 ≡ at + length (slot_mark ++ le_bytes 8 key)
    behind = omega (arith, both)

-- 24 bytes, read as three numbers and written one behind the other
pub copied : (from to : ℕ) (bytes : List ℕ) → Bytes bytes → from + 24 ≤ length bytes → to + 24 ≤ length bytes
    → edit (to + 16) (le_bytes 8 (le_at 8 bytes (from + 16)))
    (edit (to + 8) (le_bytes 8 (le_at 8 bytes (from + 8))) (edit to (le_bytes 8 (le_at 8 bytes from)) bytes))
    ≡ edit to (part from 24 bytes) bytes
copied from to bytes each fits room =
    ap₂ (λ (p : ℕ) (l : List ℕ). edit p z l) second_place
    (ap (λ (p : ℕ). edit p y (edit to x bytes)) first_place
    ∙ edit_next to x y bytes (omega (arith, long from, long (from + 8))))
    ∙ edit_next to (x ++ y) z bytes (omega (arith, both, long (from + 16)))
    ∙ ap (λ (l : List ℕ). edit to l bytes) whole
  where
    x : List ℕ
    x = le_bytes 8 (le_at 8 bytes from)

    y : List ℕ
    y = le_bytes 8 (le_at 8 bytes (from + 8))

    z : List ℕ
    z = le_bytes 8 (le_at 8 bytes (from + 16))

    long : (at : ℕ) → length (le_bytes 8 (le_at 8 bytes at)) ≡ 8
    long at = length_le_bytes 8 (le_at 8 bytes at)

    both : length (x ++ y) ≡ 16
    both = length-append x y ∙ omega (arith, long from, long (from + 8))

    first_place : to + 8 ≡ to + length x
    first_place = omega (arith, long from)

    second_place : to + 16 ≡ to + length (x ++ y)
    second_place = omega (arith, both)

    whole : x ++ y ++ z ≡ part from 24 bytes
    whole = ap₂ (λ (l r : List ℕ). l ++ r)
        (ap₂ (λ (l r : List ℕ). l ++ r) (le_again 8 bytes from each (omega arith))
        (le_again 8 bytes (from + 8) each (omega arith)) ∙ sym (part_split from 8 8 bytes))
        (le_again 8 bytes (from + 16) each (omega arith)) ∙ sym (part_split from 16 8 bytes)

-- and what the code reads and writes of them
pub slot_copied : (from to : ℕ) (bytes : List ℕ) → ((k : ℕ) → Fits w8 (get_or bytes k 0)) → from + 24 ≤ length bytes
    → to + 24 ≤ length bytes
    → {x y z : ℕ} → x ≡ le_at 8 bytes from → y ≡ le_at 8 bytes (from + 8) → z ≡ le_at 8 bytes (from + 16)
    → {one two exit : List ℕ} → one ≡ edit to (le_bytes 8 x) bytes → two ≡ edit (to + 8) (le_bytes 8 y) one
    → exit ≡ edit (to + 16) (le_bytes 8 z) two
    → exit ≡ edit to (part from 24 bytes) bytes
slot_copied from to bytes known fits room ex ey ez e1 e2 e3 =
    e3
    ∙ ap₂ (λ (v : ℕ) (l : List ℕ). edit (to + 16) (le_bytes 8 v) l) ez
    (e2 ∙ ap₂ (λ (v : ℕ) (l : List ℕ). edit (to + 8) (le_bytes 8 v) l) ey
    (e1 ∙ ap (λ (v : ℕ). edit to (le_bytes 8 v) bytes) ex))
    ∙ copied from to bytes (λ k. (known k).fits) fits room
