-- A line that is a command has one spelling: its letter and the decimal digits of its numbers, each after one space.
-- What is so spelled is read back, and what is read was so spelled.
use Rattle.std.specs.Prelude.{ℕ, ◌^◌, ◌≤◌, ◌<◌, ◌≡◌, refl, Bool, true, false, List, [], ◌∷◌, ◌++◌, length}
use Rattle.std.proofs.Common.{◌∙◌, sym, ap, ap₂, arith, eq-eqb, ne_eqb, length-append}
use Rattle.std.proofs.Math.Logic.{by_cases}
use Rattle.std.proofs.Math.Decide.{ℕ_discrete}
use Rattle.lines.specs.Bytes.{space, letter_g}
use Rattle.lines.specs.Lines.{decimal}
use Rattle.lines.specs.Lines.Decimal.{decimal_some}
use Rattle.commands.specs.Text.{all_digits, value, is_number, longer, pieces, named, limit_after, of_numbers}
use Rattle.commands.specs.Text.{of_fields, command_of}
use Rattle.commands.specs.Text.Decimal.{decimal_digits, decimal_number, digit_first, number_spelling}
use Rattle.commands.specs.Text.Fields.{numbers_both, three_fields}
use Rattle.commands.specs.Text.Pieces.{together, together_pieces}
use Rattle.commands.specs.declared.Command.TheVariants.{Split, Unknown}

-- A letter and two numbers, each after one space.
pub spelling : ℕ → ℕ → ℕ → List ℕ
spelling letter client number = letter ∷ space ∷ decimal client ++ space ∷ decimal number

pub spelling_long : (letter client number : ℕ) → 5 ≤ length (spelling letter client number)
unfolding spelling
spelling_long letter client number = omega (
  arith,
  length-append (letter ∷ space ∷ decimal client) (space ∷ decimal number),
  decimal_some client,
  decimal_some number,
)

-- digits before a space are a field
digits_field : (ds rest : List ℕ) → all_digits ds ≡ true → pieces space (ds ++ space ∷ rest) ≡ ds ∷ pieces space rest
unfolding pieces longer
digits_field [] rest h = refl
digits_field (d ∷ ds) rest h =
    let (low, high, more) = digit_first d ds h in
    rw (ne_eqb d space (λ e. omega arith), digits_field ds rest more)

pub read_spelling : (letter client number : ℕ) → (letter ≡ space → ⊥) → client < 2 ^ 64 → number < limit_after letter
    → command_of (spelling letter client number) ≡ named letter client number
unfolding spelling command_of pieces longer
read_spelling letter client number letters some more =
    rw (ne_eqb letter space letters, digits_field (decimal client) (decimal number) (decimal_digits client))
    (three_fields letter (decimal client) (decimal number)
    ∙ numbers_both letter (decimal client) (decimal number) client number (decimal_number (2 ^ 64) client some)
    (decimal_number (limit_after letter) number more))

-- What a line is read as, and how it is then spelled.
pub data Spelling (line : List ℕ) : Type 0 where
  unknown : command_of line ≡ Unknown → Spelling line
  splits : command_of line ≡ Split → line ≡ letter_g ∷ [] → Spelling line
  numbers : (letter client number : ℕ) → command_of line ≡ named letter client number → client < 2 ^ 64
      → number < limit_after letter
      → line ≡ spelling letter client number → Spelling line

pub one_spelling : (line : List ℕ) → Spelling line
unfolding command_of of_fields of_numbers spelling
one_spelling line = go (pieces space line) refl (together_pieces space line)
  where
    both : (letter : ℕ) (one two : List ℕ) (s t : Bool) → is_number (2 ^ 64) one ≡ s
        → is_number (limit_after letter) two ≡ t
        → command_of line ≡ of_numbers letter one two → (letter ∷ space ∷ one ++ space ∷ two) ≡ line → Spelling line
    both letter one two true true good-one good-two e parts =
        let (one-is, one-small) = number_spelling (2 ^ 64) one good-one in
        let (two_is, two-small) = number_spelling (limit_after letter) two good-two in
        numbers letter (value one) (value two) (e ∙ rw (good-one, good-two)) one-small two-small
        (sym parts ∙ ap₂ (λ (o t : List ℕ). letter ∷ space ∷ o ++ space ∷ t) (sym one-is) (sym two_is))
    both letter one two true false good-one bad-two e parts = unknown (e ∙ rw (good-one, bad-two))
    both letter one two false t bad-one second e parts = unknown (e ∙ rw bad-one)

    go : (fields : List (List ℕ)) → pieces space line ≡ fields → together space (pieces space line) ≡ line
        → Spelling line
    go [] e parts = unknown (ap of_fields e)
    go ([] ∷ fields) e parts = unknown (ap of_fields e)
    go ((letter ∷ []) ∷ []) e parts = by_cases (ℕ_discrete letter letter_g)
        (λ g. splits (ap of_fields e ∙ rw (eq-eqb letter letter_g g))
        (sym parts ∙ ap (together space) e ∙ ap (λ (z : ℕ). z ∷ []) g))
        (λ g. unknown (ap of_fields e ∙ rw (ne_eqb letter letter_g g)))
    go ((letter ∷ []) ∷ one ∷ []) e parts = unknown (ap of_fields e)
    go ((letter ∷ []) ∷ one ∷ two ∷ []) e parts =
        both letter one two (is_number (2 ^ 64) one) (is_number (limit_after letter) two) refl refl (ap of_fields e)
        (sym (ap (together space) e) ∙ parts)
    go ((letter ∷ []) ∷ one ∷ two ∷ three ∷ fields) e parts = unknown (ap of_fields e)
    go ((letter ∷ next ∷ more) ∷ fields) e parts = unknown (ap of_fields e)
