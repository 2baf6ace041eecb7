-- The answer block's bytes, as they are written: three numbers of eight, and then a payload over the last 14.
use Rattle.std.specs.Prelude.{ℕ, ◌+◌, ◌-◌, ◌*◌, ◌/◌, ◌%◌, ◌≤◌, ◌<◌, ◌≡◌, refl, Bool, cond, List, [], ◌∷◌, ◌++◌, length}
use Rattle.std.specs.Prelude.{get_or, drop, replicate}
use Rattle.std.proofs.Common.{sym, ap, ap₂, ◌∙◌, append-nil, append_assoc, arith, eq-eqb, ne_eqb}
use Rattle.address.specs.Limits.{no_bucket}
use Rattle.address.specs.Rules.{forwards}
use Rattle.address.specs.Rules.Route.{forwards_is}
use Rattle.layout.specs.Bytes.{le_bytes, edit, part}
use Rattle.layout.specs.Bytes.Edit.{edit_next, edit_all, edit_seam, part_edit}
use Rattle.layout.specs.Bytes.Numbers.{length_le_bytes, le_bytes_two, le_bytes_packed, le_bytes_zero, le_bytes_small}
use Rattle.route.specs.declared.walk.Walk.{Walk}
use Rattle.route.specs.Way.{noted}
use Rattle.route.specs.Way.Noted.{shown, noted_length, noted_first, noted_second, noted_third}
use Rattle.answer.specs.Answer.{entry, block, no_payload, forwards_in}

-- the bytes of a block, one by one
abbrev pub block_bytes : ℕ → ℕ → ℕ → ℕ → ℕ → ℕ → List ℕ → List ℕ
block_bytes r count met x y z payload = r ∷ met ∷ x % 256 ∷ x / 256 % 256 ∷ y % 256 ∷ y / 256 % 256 ∷ z % 256
    ∷ z / 256 % 256 ∷ count ∷ 0 ∷ payload

pub block_bytes_lem : (r count : ℕ) (way payload : List ℕ)
    → block r way count payload ≡ block_bytes r count (length way) (get_or way 0 no_bucket) (get_or way 1 no_bucket)
    (get_or way 2 no_bucket) payload
unfolding block entry
block_bytes_lem r count way payload = rw (
  le_bytes_two (get_or way 0 no_bucket),
  le_bytes_two (get_or way 1 no_bucket),
  le_bytes_two
      (get_or way 2 no_bucket),
)

-- a block is 24 bytes long
pub length_block : (r count : ℕ) (way payload : List ℕ) → length payload ≡ 14 → length (block r way count payload) ≡ 24
length_block r count way payload long = rw (block_bytes_lem r count way payload) (omega (arith, long))

pub none_long : length no_payload ≡ 14
unfolding no_payload
none_long = refl

-- a block's first eight bytes, and the number that has them
pub start_bytes : ℕ → List ℕ → List ℕ
start_bytes r way = (r ∷ length way ∷ []) ++ entry way 0 ++ entry way 1 ++ entry way 2

pub start_found : (r : ℕ) (walk : Walk) → r < 256 → walk.count ≤ 3 → {x y z : ℕ}
    → x ≡ shown walk.count 0 (get_or walk.met 0 0) % 65536 → y ≡ shown walk.count 1 (get_or walk.met 1 0) % 65536
    → z ≡ shown walk.count 2 (get_or walk.met 2 0) % 65536
    → le_bytes 8 (r + walk.count * 256 + x * 65536 + y * 4294967296 + z * 281474976710656) ≡ start_bytes r (noted walk)
unfolding start_bytes entry
start_found r walk small few ex ey ez =
    (λ i. le_bytes 8 (r + walk.count * 256 + ex i * 65536 + ey i * 4294967296 + ez i * 281474976710656))
    ∙ le_bytes_packed r walk.count _ _ _ small (omega arith)
    ∙ sym (λ i. (r ∷ noted_length walk few i ∷ []) ++ le_bytes 2 (noted_first walk few i)
    ++ le_bytes 2 (noted_second walk few i)
    ++ le_bytes 2 (noted_third walk few i))

-- the count and the zeros behind it are two numbers
pub count_written : (count : ℕ) (answer : List ℕ) → length answer ≡ 24 → count < 256 → {one left : List ℕ}
    → one ≡ edit 8 (le_bytes 8 count) answer → left ≡ edit 16 (le_bytes 8 0) one
    → left ≡ edit 8 (count ∷ replicate 15 0) answer
count_written count answer long small e1 e2 =
    e2
    ∙ (λ i. edit 16 (le_bytes_zero 8 i) ((e1 ∙ ap (λ (l : List ℕ). edit 8 l answer) (le_bytes_small 7 count small)) i))
    ∙ edit_next 8 (count ∷ replicate 7 0) (replicate 8 0) answer (omega arith)

-- a block without a payload is its start, the count and zeros
pub block_written : (answer way : List ℕ) (r count start : ℕ) → length answer ≡ 24
    → le_bytes 8 start ≡ start_bytes r way → {one left : List ℕ}
    → one ≡ edit 0 (le_bytes 8 start) answer → left ≡ edit 8 (count ∷ replicate 15 0) one
    → left ≡ block r way count no_payload
unfolding no_payload block start_bytes
block_written answer way r count start long es e1 e2 =
    e2
    ∙ ap₂ (λ (n : ℕ) (l : List ℕ). edit n (count ∷ replicate 15 0) l) behind
    (e1 ∙ ap (λ (l : List ℕ). edit 0 l answer) es)
    ∙ edit_next 0 (start_bytes r way) (count ∷ replicate 15 0) answer (omega (arith, eight))
    ∙ ap (λ (l : List ℕ). edit 0 l answer)
    (sym (append_assoc (start_bytes r way) (count ∷ 0 ∷ []) (replicate 14 0)))
    ∙ edit_all (block r way count no_payload) answer (length_block r count way no_payload none_long ∙ sym long)
  where
    eight : length (start_bytes r way) ≡ 8
    eight = ap length (sym es) ∙ length_le_bytes 8 start

    behind : 8 ≡ 0 + length (start_bytes r way)
    behind = omega (arith, eight)

-- a payload over the zeros
pub block_payload : (r count : ℕ) (way payload : List ℕ) → length payload ≡ 14
    → edit 10 payload (block r way count no_payload) ≡ block r way count payload
unfolding no_payload
block_payload r count way payload long =
    ap (edit 10 payload) (block_bytes_lem r count way (replicate 14 0))
    ∙ edit_seam (front []) payload (replicate 14 0) 10 refl
    ∙ ap (λ (n : ℕ). front (payload ++ drop n (replicate {A = ℕ} 14 0))) long
    ∙ ap front (append-nil payload)
    ∙ sym (block_bytes_lem r count way payload)
  where
    front : List ℕ → List ℕ
    front = block_bytes r count (length way) (get_or way 0 no_bucket) (get_or way 1 no_bucket) (get_or way 2 no_bucket)

-- the forwards that bytes tell: none if they are no block, or of a block without a route
pub forwards_other : (answer : List ℕ) → (length answer ≡ 24 → ⊥) → 0 ≡ forwards_in answer
unfolding forwards_in
forwards_other answer h = rw (ne_eqb (length answer) 24 h)

module _ (answer : List ℕ) (long : length answer ≡ 24) {met : ℕ} (em : met ≡ get_or answer 1 0) where
  pub forwards_met : met - 1 ≡ forwards_in answer
  unfolding forwards_in
  forwards_met = rw (eq-eqb (length answer) 24 long) (ap (λ (n : ℕ). n - 1) em)

  pub forwards_none : met ≡ 0 → 0 ≡ forwards_in answer
  forwards_none none = omega (arith, forwards_met)

-- the forwards of a block are those of its route
pub forwards_block : (r count : ℕ) (way payload : List ℕ) → length payload ≡ 14
    → forwards_in (block r way count payload) ≡ forwards way
unfolding forwards_in
forwards_block r count way payload long = rw (block_bytes_lem r count way payload)
    (ap (λ (fits : Bool). cond fits (length way - 1) 0) (eq-eqb (length whole) 24 (omega (arith, long)))
    ∙ sym (forwards_is way))
  where
    whole : List ℕ
    whole = block_bytes r count (length way) (get_or way 0 no_bucket) (get_or way 1 no_bucket) (get_or way 2 no_bucket)
        payload

-- a block's payload stands at byte 10
pub payload_back : (r count : ℕ) (way payload : List ℕ) → length payload ≡ 14
    → part 10 14 (block r way count payload) ≡ payload
payload_back r count way payload long = ap (part 10 14) (sym (block_payload r count way payload long))
    ∙ ap (λ (n : ℕ). part 10 n (edit 10 payload (block r way count no_payload))) (sym long)
    ∙ part_edit 10 payload (block r way count no_payload)
    (omega (arith, long, length_block r count way no_payload none_long))
