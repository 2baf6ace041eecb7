-- What the program `ridefile` reads, as document 01 has it: numbers, and a line read as a command.
-- The modules below have the laws from which the proofs work.
pub mod Decimal
pub mod Examples
pub mod Fields
pub mod Pieces
pub mod Reading
pub mod Spelling
use Rattle.std.specs.Prelude.{ℕ, ◌+◌, ◌-◌, ◌*◌, ◌^◌, Bool, true, false, cond, not, ◌&&◌, List, [], ◌∷◌, leb, ltb, eqb}
use Rattle.std.specs.Prelude.{length, Option, Some, None}
use Rattle.layout.specs.Bytes.{byte_at, first_from}
use Rattle.lines.specs.Bytes.{line_feed, space, digit0, digit9, letter_a, letter_g, letter_i, letter_s}
use Rattle.commands.specs.declared.Command.{Command}
use Rattle.commands.specs.declared.Command.TheVariants.{Split, Insert, Search, Scan, Unknown}

-- Decimal: every byte is a digit.
pub all_digits : List ℕ → Bool
all_digits [] = true
all_digits (b ∷ bs) = leb digit0 b && leb b digit9 && all_digits bs

-- Without spare zeros: there is a digit, and the first of several is not 0.
pub no_spare_zero : List ℕ → Bool
no_spare_zero [] = false
no_spare_zero (b ∷ []) = true
no_spare_zero (b ∷ c ∷ cs) = not (eqb b digit0)

-- The number that digits spell after others that spell v, the first digit first.
pub spelled : ℕ → List ℕ → ℕ
spelled v [] = v
spelled v (b ∷ bs) = spelled (v * 10 + (b - digit0)) bs

-- The number that digits spell.
pub value : List ℕ → ℕ
value bs = spelled 0 bs

-- Numbers are decimal, below a limit, without spare zeros.
pub is_number : ℕ → List ℕ → Bool
is_number limit bs = all_digits bs && no_spare_zero bs && ltb (value bs) limit

-- The number that digits spell after others that spell v, if it is below a limit.
pub number_from : ℕ → ℕ → List ℕ → Option ℕ
number_from limit v bs = cond (all_digits bs && ltb (spelled v bs) limit) (Some (spelled v bs)) None

-- What is read of a field where a number is due.
pub number_of : ℕ → List ℕ → Option ℕ
number_of limit bs = cond (is_number limit bs) (Some (value bs)) None

-- The place of the first b at or after a place, or the end.
abbrev pub place_of : ℕ → List ℕ → ℕ → ℕ
place_of b bytes from = first_from (λ k. eqb (byte_at bytes k) b) (length bytes - from) from

-- A line ends with a line feed: where the line that starts at a place ends.
abbrev pub line_end : List ℕ → ℕ → ℕ
line_end = place_of line_feed

-- A byte put before the first piece.
pub longer : ℕ → List (List ℕ) → List (List ℕ)
longer b [] = []
longer b (piece ∷ pieces) = (b ∷ piece) ∷ pieces

-- The pieces of a text: what stands before, between and after its bytes b, empty where nothing does.
pub pieces : ℕ → List ℕ → List (List ℕ)
pieces b [] = [] ∷ []
pieces b (x ∷ xs) = cond (eqb x b) ([] ∷ pieces b xs) (longer x (pieces b xs))

-- `I client key` insert; `S client key`; `A client lift` scan.
pub named : ℕ → ℕ → ℕ → Command
named letter client number =
    cond (eqb letter letter_i) (Insert client number)
    (cond (eqb letter letter_s) (Search client number) (cond (eqb letter letter_a) (Scan client number) Unknown))

-- Numbers are below 2^64, a lift below 2^32.
pub limit_after : ℕ → ℕ
limit_after letter = cond (eqb letter letter_a) (2 ^ 32) (2 ^ 64)

-- A letter with two fields that are to be numbers.
pub of_numbers : ℕ → List ℕ → List ℕ → Command
of_numbers letter one two =
    cond (is_number (2 ^ 64) one && is_number (limit_after letter) two) (named letter (value one) (value two)) Unknown

-- `G` split; or a letter and two numbers, each after one space. Any other line is unknown.
pub of_fields : List (List ℕ) → Command
of_fields [] = Unknown
of_fields ([] ∷ fields) = Unknown
of_fields ((letter ∷ []) ∷ []) = cond (eqb letter letter_g) Split Unknown
of_fields ((letter ∷ []) ∷ one ∷ []) = Unknown
of_fields ((letter ∷ []) ∷ one ∷ two ∷ []) = of_numbers letter one two
of_fields ((letter ∷ []) ∷ one ∷ two ∷ three ∷ fields) = Unknown
of_fields ((letter ∷ next ∷ more) ∷ fields) = Unknown

-- The command that a line is, its line feed taken off.
pub command_of : List ℕ → Command
command_of line = of_fields (pieces space line)
