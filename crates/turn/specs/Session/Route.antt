-- The line of an answer block that gives a reply and a route is the line of that reply and that route: the bytes are
-- read as they were written.
use Rattle.std.specs.Prelude.{ℕ, ◌+◌, ◌/◌, ◌%◌, ◌≤◌, ◌<◌, ◌≡◌, refl, List, [], ◌∷◌, length, get_or, take}
use Rattle.std.proofs.Common.{◌∙◌, sym, ap, arith}
use Rattle.address.specs.Limits.{no_bucket}
use Rattle.layout.specs.Bytes.{le_at}
use Rattle.layout.specs.Bytes.Numbers.{le_two}
use Rattle.answer.specs.Answer.{block}
use Rattle.answer.specs.Answer.Block.{block_bytes, block_bytes_lem}
use Rattle.lines.specs.Lines.{ride_line, answer_line}
use Rattle.lines.specs.Lines.Laws.{ride_route}

module _ (way : List ℕ) (few : length way ≤ 3) where
  abbrev bucket : ℕ → ℕ
  bucket k = get_or way k no_bucket

  taken : take (length way) (bucket 0 ∷ bucket 1 ∷ bucket 2 ∷ []) ≡ way
  taken = go way few
    where
      go : (l : List ℕ) → length l ≤ 3
          → take (length l) (get_or l 0 no_bucket ∷ get_or l 1 no_bucket ∷ get_or l 2 no_bucket ∷ []) ≡ l
      go [] h = refl
      go (a ∷ []) h = refl
      go (a ∷ b ∷ []) h = refl
      go (a ∷ b ∷ c ∷ []) h = refl
      go (a ∷ b ∷ c ∷ d ∷ l) h = absurd (omega arith)

  module _ (r count : ℕ) (payload : List ℕ) where
    abbrev bytes : List ℕ
    bytes = block_bytes r count (length way) (bucket 0) (bucket 1) (bucket 2) payload

    byte : (k : ℕ) → get_or (block r way count payload) k 0 ≡ get_or bytes k 0
    byte k = ap (λ (b : List ℕ). get_or b k 0) (block_bytes_lem r count way payload)

    entry : (at b : ℕ) → get_or bytes at 0 ≡ b % 256 → get_or bytes (at + 1) 0 ≡ b / 256 % 256 → b < 65536
        → le_at 2 (block r way count payload) at ≡ b
    entry at b low high small = sym (le_two (block r way count payload) at)
        ∙ omega (arith, byte at, byte (at + 1), low, high)

    pub ride_line_lem : (letter : ℕ) → ((k : ℕ) → get_or way k no_bucket < 65536)
        → ride_line letter (block r way count payload) ≡ answer_line letter r way
    ride_line_lem letter small = ride_route letter (block r way count payload) r (length way) (bucket 0) (bucket 1)
        (bucket 2) way
        (byte 0) (byte 1) (entry 2 (bucket 0) refl refl (small 0)) (entry 4 (bucket 1) refl refl (small 1))
        (entry 6 (bucket 2) refl refl (small 2)) taken
