-- What the program `ridefile` prints, as document 01 has it: numbers, and an answer written as a line.
-- The modules below have the laws from which the proofs work.
pub mod Decimal
pub mod Edit
pub mod Examples
pub mod Laws
pub mod Written
use Rattle.std.specs.Prelude.{ℕ, zero, suc, ◌+◌, ◌*◌, ◌/◌, ◌%◌, ◌≤◌, ◌≡◌, cond, List, [], ◌∷◌, ◌++◌, ltb, eqb, length}
use Rattle.std.specs.Prelude.{take}
use Rattle.layout.specs.Bytes.{byte_at, le_at, edit}
use Rattle.lines.specs.Bytes.{line_feed, space, comma, dash, digit0, greater, question, letter_a, letter_g}

-- The decimal digits of x: one digit, or those of x / 10 and then that of x % 10; `most` only bounds the recursion.
pub decimal_within : ℕ → ℕ → List ℕ
decimal_within zero x = []
decimal_within (suc most) x =
    let more = decimal_within most (x / 10) ++ ((digit0 + x % 10) ∷ []) in
    cond (ltb x 10) ((digit0 + x) ∷ []) more

-- The decimal digits of a number, without spare zeros; its own size bounds how many there are.
pub decimal : ℕ → List ℕ
decimal x = decimal_within (suc x) x

-- What a function that writes owes: the text stands from its place on, nothing else has changed, and the answer is the
-- place after the text.
pub record Wrote (at : ℕ) (text entry exit : List ℕ) (next : ℕ) : Type 0 where
  pub place : next ≡ at + length text
  pub fits : next ≤ length entry
  pub bytes : exit ≡ edit at text entry

-- Each number of a list after a separator.
pub each_after : ℕ → List ℕ → List ℕ
each_after separator [] = []
each_after separator (n ∷ ns) = separator ∷ decimal n ++ each_after separator ns

-- Numbers joined by a separator, or `-` if there is none.
pub joined : ℕ → List ℕ → List ℕ
joined separator [] = dash ∷ []
joined separator (n ∷ ns) = decimal n ++ each_after separator ns

-- A line that is not a command prints `?`.
pub unknown_line : List ℕ
unknown_line = question ∷ line_feed ∷ []

-- The letter and the reply, with which any other line begins.
pub heading : ℕ → ℕ → List ℕ
heading letter reply = letter ∷ space ∷ decimal reply ++ space ∷ []

-- Output: the letter, the reply, then the route joined by `>`, or `-` if none.
pub answer_line : ℕ → ℕ → List ℕ → List ℕ
answer_line letter reply route = heading letter reply ++ joined greater route ++ line_feed ∷ []

-- The route of an answer block: byte 1 says how many buckets it has, bytes 2-7 their numbers in order.
pub route_in : List ℕ → List ℕ
route_in block = take (byte_at block 1) (le_at 2 block 2 ∷ le_at 2 block 4 ∷ le_at 2 block 6 ∷ [])

-- The line of an insert or a search, by its answer block: byte 0 is the reply.
pub ride_line : ℕ → List ℕ → List ℕ
ride_line letter block = answer_line letter (byte_at block 0) (route_in block)

-- For G old and new, or none if it was refused.
pub split_route : ℕ → ℕ → ℕ → List ℕ
split_route reply old new = cond (eqb reply 0) (old ∷ new ∷ []) []

-- The line of a split.
pub split_line : ℕ → ℕ → ℕ → List ℕ
split_line reply old new = answer_line letter_g reply (split_route reply old new)

-- For an accepted scan the visits joined by commas, and the match count; for a refused one `-`.
pub scanned : ℕ → List ℕ → ℕ → List ℕ
scanned reply visits matches = cond (eqb reply 0) (joined comma visits ++ space ∷ decimal matches) (dash ∷ [])

-- The line of a scan.
pub scan_line : ℕ → List ℕ → ℕ → List ℕ
scan_line reply visits matches = heading letter_a reply ++ scanned reply visits matches ++ line_feed ∷ []

-- Room for a line of so many bucket numbers of two bytes each: a separator and five digits for each, and the rest.
abbrev pub line_room : ℕ → ℕ
line_room count = 6 * count + 32

-- What a function that writes a line owes besides: the line takes no more than its room.
pub record WroteLine (room at : ℕ) (line entry exit : List ℕ) (next : ℕ) : Type 0 where
  pub wrote : Wrote at line entry exit next
  pub short : length line ≤ room
