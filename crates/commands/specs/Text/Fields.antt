-- The fields of a line, one after another as the code meets them, and the command that they make.
use Rattle.std.specs.Prelude.{ℕ, suc, ◌+◌, ◌-◌, ◌^◌, ◌≤◌, ◌<◌, ◌≡◌, refl, false, cond, ◌&&◌, leb, eqb, length}
use Rattle.std.specs.Prelude.{Bool, Option, Some, None, HoldsAt, ◌≢◌}
use Rattle.std.specs.List.{AllWithin}
use Rattle.std.proofs.Common.{◌∙◌, ap₂, add-one, arith, take_all, drop-drop}
use Rattle.std.proofs.Math.Logic.{by_cases}
use Rattle.std.proofs.Math.Decide.{ℕ_discrete}
use Rattle.std.proofs.Math.Path.{sym, ap}
use Rattle.std.proofs.Math.Bool.{and-false}
use mathlib.Core.List.{List, [], ◌∷◌, ◌++◌}
use borrow.Author.Tests.{eq-eqb, ne_eqb}
use Rattle.std.proofs.Math.ListN.{get_or, take, drop, length-take, length-drop}
use Rattle.layout.specs.Bytes.{first_from}
use Rattle.layout.specs.Bytes.Tests.{first_here, first_later, first_none, first_within}
use Rattle.lines.specs.Bytes.{space, digit0, digit9, letter_a, letter_g, letter_i, letter_s}
use Rattle.commands.specs.Text.{all_digits, is_number, number_of, place_of, pieces, named, limit_after, of_numbers}
use Rattle.commands.specs.Text.{of_fields, command_of}
use Rattle.commands.specs.Text.Pieces.{some_piece, together, together_pieces, place_within, pieces_first}
use Rattle.commands.specs.Text.Pieces.{pieces_more, pieces_last, place_none, place_found}
use Rattle.commands.specs.Text.Reading.{number_good, number_bad, number_small}
use Rattle.commands.specs.declared.Command.{Command}
use Rattle.commands.specs.declared.Command.TheVariants.{Split, Insert, Search, Scan, Unknown}

-- the command of a letter, by the letters in turn; a scan's second number has its own limit
pub limit_scan : (letter : ℕ) → letter ≡ letter_a → limit_after letter ≡ 2 ^ 32
unfolding limit_after
limit_scan letter e = rw (eq-eqb letter letter_a e)

pub limit_other : (letter : ℕ) → (letter ≡ letter_a → ⊥) → limit_after letter ≡ 2 ^ 64
unfolding limit_after
limit_other letter e = rw (ne_eqb letter letter_a e)

module _ (letter client number : ℕ) where
  pub named_insert : letter ≡ letter_i → named letter client number ≡ Insert client number
  unfolding named
  named_insert e = rw (eq-eqb letter letter_i e)

  module _ (no-insert : letter ≡ letter_i → ⊥) where
    pub named_search : letter ≡ letter_s → named letter client number ≡ Search client number
    unfolding named
    named_search e = rw (ne_eqb letter letter_i no-insert, eq-eqb letter letter_s e)

    module _ (no-search : letter ≡ letter_s → ⊥) where
      pub named_scan : letter ≡ letter_a → named letter client number ≡ Scan client number
      unfolding named
      named_scan e = rw (ne_eqb letter letter_i no-insert, ne_eqb letter letter_s no-search, eq-eqb letter letter_a e)

      pub named_none : (letter ≡ letter_a → ⊥) → named letter client number ≡ Unknown
      unfolding named
      named_none e = rw (ne_eqb letter letter_i no-insert, ne_eqb letter letter_s no-search, ne_eqb letter letter_a e)

-- a space is no digit
no_space : (one two : List ℕ) → all_digits (one ++ space ∷ two) ≡ false
unfolding all_digits
no_space [] two = refl
no_space (x ∷ xs) two = rw (no_space xs two) (and-false (leb digit0 x && leb x digit9))

module _ (letter : ℕ) (one two : List ℕ) where
  numbers_first : number_of (2 ^ 64) one ≡ None → of_numbers letter one two ≡ Unknown
  unfolding of_numbers
  numbers_first e = rw (number_bad (2 ^ 64) one e)

  second_bad : is_number (limit_after letter) two ≡ false → of_numbers letter one two ≡ Unknown
  unfolding of_numbers
  second_bad e = rw (e, and-false)

  numbers_second : number_of (limit_after letter) two ≡ None → of_numbers letter one two ≡ Unknown
  numbers_second e = second_bad (number_bad (limit_after letter) two e)

  pub numbers_both : (client number : ℕ) → number_of (2 ^ 64) one ≡ Some client
      → number_of (limit_after letter) two ≡ Some number
      → of_numbers letter one two ≡ named letter client number
  unfolding of_numbers
  numbers_both client number e f =
      let (good-one, is-client) = number_good (2 ^ 64) one client e in
      let (good-two, is_number) = number_good (limit_after letter) two number f in
      rw (good-one, good-two, is-client, is_number)

  -- a letter, a field, and all that follows the second space
  pub three_fields : of_fields ((letter ∷ []) ∷ one ∷ pieces space two) ≡ of_numbers letter one two
  unfolding of_fields is_number
  three_fields =
      let (first, rest, is) = some_piece space two in
      go first rest is (ap (together space) (sym is) ∙ together_pieces space two)
    where
      go : (first : List ℕ) (rest : List (List ℕ)) → pieces space two ≡ first ∷ rest
          → together space (first ∷ rest) ≡ two
          → of_fields ((letter ∷ []) ∷ one ∷ pieces space two) ≡ of_numbers letter one two
      go first [] is whole = rw is (ap (of_numbers letter one) whole)
      go first (next ∷ more) is whole =
          rw is (sym (second_bad (rw (ap all_digits (sym whole) ∙ no_space first (together space (next ∷ more))))))

-- the command of two fields, by what was read of each
module _ (letter : ℕ) (one two : List ℕ) {read : Option ℕ} (is : read ≡ number_of (2 ^ 64) one) where
  pub first_malformed : read ≡ None → Unknown ≡ of_numbers letter one two
  first_malformed told = sym (numbers_first letter one two (sym is ∙ told))

  module _ (most : ℕ) (limit : most + 1 ≡ limit_after letter) {then : Option ℕ} (next : then ≡ number_of (most + 1) two)
    where
      pub second_malformed : then ≡ None → Unknown ≡ of_numbers letter one two
      second_malformed told = sym (numbers_second letter one two (rw (← limit) (sym next ∙ told)))

      module _ {number : ℕ} (then-told : then ≡ Some number) where
        pub number_limited : number < limit_after letter
        number_limited = number_small (limit_after letter) two number (rw (← limit) (sym next ∙ then-told))

        pub both_numbers : {client : ℕ} → read ≡ Some client → {command : Command}
            → command ≡ named letter client number
            → command ≡ of_numbers letter one two
        both_numbers {client} told e = e
            ∙ sym (numbers_both letter one two client number (sym is ∙ told) (rw (← limit) (sym next ∙ then-told)))

long_letter : (first : List ℕ) (fields : List (List ℕ)) → (length first ≡ 1 → ⊥) → of_fields (first ∷ fields) ≡ Unknown
unfolding of_fields
long_letter [] fields h = refl
long_letter (x ∷ []) fields h = absurd (h refl)
long_letter (x ∷ y ∷ ys) fields h = refl

take_one : (l : List ℕ) → 0 < length l → take 1 l ≡ get_or l 0 0 ∷ []
take_one [] h = absurd (omega arith)
take_one (x ∷ xs) h = refl

-- the command of a line, by what the code finds: where the first space is, and where the next one after the second byte
module _ (line : List ℕ) where
  other_command : (place_of space line 0 ≡ 1 → ⊥) → command_of line ≡ Unknown
  unfolding command_of
  other_command h =
      let (rest, is) = pieces_first space line 0 (omega arith) in
      let size = length-take (place_of space line 0 - 0) line in
      rw is
      (long_letter (take (place_of space line 0 - 0) line) rest
      (λ e. h (omega (arith, e, size, place_within space line 0 (omega arith)))))

  module _ (first : place_of space line 0 ≡ 1) where
    letter_only : length line ≡ 1 → command_of line ≡ cond (eqb (get_or line 0 0) letter_g) Split Unknown
    unfolding command_of of_fields
    letter_only h = ap of_fields
        (pieces_last space line 0 (omega arith) (first ∙ sym h) ∙ ap (λ (l : List ℕ). l ∷ []) whole)
      where
        whole : line ≡ get_or line 0 0 ∷ []
        whole = sym (take_all 1 line (omega arith)) ∙ take_one line (omega arith)

    module _ (some : 1 < length line) where
      letter_first : pieces space line ≡ (get_or line 0 0 ∷ []) ∷ pieces space (drop 2 line)
      letter_first = pieces_more space line 0 (omega arith) (omega (arith, first))
          ∙ ap (λ (p : ℕ). take (p - 0) line ∷ pieces space (drop (suc p) line)) first
          ∙ ap (λ (l : List ℕ). l ∷ pieces space (drop 2 line)) (take_one line (omega arith))

      one_field : place_of space line 2 ≡ length line → command_of line ≡ Unknown
      unfolding command_of of_fields
      one_field h = rw (letter_first, pieces_last space line 2 (omega arith) h)

      two_fields : (end : ℕ) → end ≡ place_of space line 2 → end < length line
          → command_of line ≡ of_numbers (get_or line 0 0) (take (end - 2) (drop 2 line))
          (take (length line - (end + 1)) (drop (end + 1) line))
      unfolding command_of
      two_fields end is h =
          let more = pieces_more space line 2 (omega arith) (omega arith) in
          rw (letter_first, more, ← is) (three_fields _ _ (drop (suc end) line) ∙ ap (of_numbers _ _) rest)
        where
          rest : drop (suc end) line ≡ take (length line - (end + 1)) (drop (end + 1) line)
          rest = ap (λ (k : ℕ). drop k line) (sym (add-one end))
              ∙ sym
              (take_all (length line - (end + 1)) (drop (end + 1) line) (omega (arith, length-drop (end + 1) line)))

-- and by what its tests told, one law for each way out
module _ (line : List ℕ) {at : ℕ} (is : at ≡ place_of space line 0) where
  pub command_other : (at ≡ 1 → ⊥) → Unknown ≡ command_of line
  command_other h = sym (other_command line (λ e. h (is ∙ e)))

  module _ (first : at ≡ 1) where
    pub command_split : length line ≡ 1 → get_or line 0 0 ≡ letter_g → Split ≡ command_of line
    command_split h e = sym (letter_only line (sym is ∙ first) h ∙ rw (eq-eqb _ _ e))

    pub command_letter : length line ≡ 1 → (get_or line 0 0 ≡ letter_g → ⊥) → Unknown ≡ command_of line
    command_letter h e = sym (letter_only line (sym is ∙ first) h ∙ rw (ne_eqb _ _ e))

    module _ (inside : at ≤ length line) (some : length line ≡ 1 → ⊥) (end : ℕ) (next : end ≡ place_of space line 2)
      where
        pub command_short : end ≡ length line → Unknown ≡ command_of line
        command_short h = sym (one_field line (sym is ∙ first) (omega (arith, some)) (sym next ∙ h))

        pub command_numbers : end ≤ length line → (end ≡ length line → ⊥) → {command : Command}
            → command ≡ of_numbers (get_or line 0 0) (take (end - 2) (drop 2 line))
            (take (length line - (end + 1)) (drop (end + 1) line))
            → command ≡ command_of line
        command_numbers within h e = e
            ∙ sym (two_fields line (sym is ∙ first) (omega (arith, some)) end next (omega (arith, h)))

-- where the first space is, by a line's first two bytes
module _ (line : List ℕ) (some : 1 ≤ length line) where
  abbrev blank : ℕ → Bool
  blank k = eqb (get_or line k 0) space

  space_first : get_or line 0 0 ≡ space → place_of space line 0 ≡ 0
  space_first e = first_here blank (length line) 0 (omega arith) (eq-eqb (get_or line 0 0) space e)

  module _ (letter : get_or line 0 0 ≡ space → ⊥) where
    space_later : place_of space line 0 ≡ first_from blank (length line - 1) 1
    space_later = first_later blank (length line) 0 (omega arith) (ne_eqb (get_or line 0 0) space letter)

    space_alone : length line < 2 → place_of space line 0 ≡ 1
    space_alone h = space_later ∙ first_none blank (length line) 1 (omega arith)

    module _ (more : 2 ≤ length line) where
      space_second : get_or line 1 0 ≡ space → place_of space line 0 ≡ 1
      space_second e = space_later
          ∙ first_here blank (length line) 1 (omega arith) (eq-eqb (get_or line 1 0) space e)

      space_past : (get_or line 1 0 ≡ space → ⊥) → place_of space line 0 ≡ 1 → ⊥
      space_past e is = omega (
        arith,
        is,
        space_later,
        first_later blank (length line) 1 (omega arith) (ne_eqb (get_or line 1 0) space e),
        first_within blank (length line - 2) 2,
      )

-- and the command of a line by what the code's patterns tell of it, and its search for the second space
module _ (line : List ℕ) where
  pub seen_empty : length line < 1 → Unknown ≡ command_of line
  seen_empty h = command_other line refl (λ e. omega (arith, e, place_within space line 0 (omega arith)))

  pub seen_blank : 1 ≤ length line → get_or line 0 0 ≡ space → Unknown ≡ command_of line
  seen_blank some e = command_other line refl (λ p. omega (arith, p, space_first line some e))

  module _ (some : 1 ≤ length line) (alone : length line < 2) where
    pub seen_split : get_or line 0 0 ≡ letter_g → Split ≡ command_of line
    seen_split e = command_split line refl (space_alone line some (λ s. omega (arith, e, s)) alone) (omega arith) e

    pub seen_letter : (get_or line 0 0 ≡ letter_g → ⊥) → Unknown ≡ command_of line
    seen_letter e = by_cases (ℕ_discrete (get_or line 0 0) space)
        (λ s. seen_blank some s)
        (λ n. command_letter line refl (space_alone line some n alone) (omega arith) e)

  module _ (more : 2 ≤ length line) (letter : get_or line 0 0 ≡ space → ⊥) where
    pub seen_other : (get_or line 1 0 ≡ space → ⊥) → Unknown ≡ command_of line
    seen_other e = command_other line refl (space_past line (omega arith) letter more e)

    module _ (gap : get_or line 1 0 ≡ space) where
      abbrev fields : List ℕ
      fields = take (length line - 2) (drop 2 line)

      first_gap : place_of space line 0 ≡ 1
      first_gap = space_second line (omega arith) letter more gap

      pub seen_short : AllWithin (λ x. x ≢ space) fields 0 (length fields) → Unknown ≡ command_of line
      seen_short none = command_short line refl first_gap (place_within space line 0 (omega arith)) (λ e. omega arith)
          (length line) (sym (place_none space line 2 more none)) refl

      rest_whole : fields ≡ drop 2 line
      rest_whole = take_all (length line - 2) (drop 2 line) (omega (arith, length-drop 2 line))

      pub seen_numbers : {end : ℕ} → end < length fields → HoldsAt (λ x. x ≡ space) fields end
          → AllWithin (λ x. x ≢ space) fields 0 end → {command : Command}
          → command ≡ of_numbers (get_or line 0 0) (take end fields)
          (take (length fields - (end + 1)) (drop (end + 1) fields))
          → command ≡ command_of line
      seen_numbers {end} few hit none e =
          let (is, from, inside) = place_found space line 2 more few hit none in
          command_numbers line refl first_gap (place_within space line 0 (omega arith)) (λ h. omega arith) (2 + end) is
          (omega arith) (λ h. omega arith) (e ∙ ap₂ (of_numbers (get_or line 0 0)) one two)
        where
          one : take end fields ≡ take (2 + end - 2) (drop 2 line)
          one = ap₂ take (omega arith) rest_whole

          two : take (length fields - (end + 1)) (drop (end + 1) fields)
              ≡ take (length line - (2 + end + 1)) (drop (2 + end + 1) line)
          two = ap₂ take
              (omega (arith, ap length rest_whole, length-drop 2 line))
              (ap (drop (end + 1)) rest_whole ∙ drop-drop (end + 1) 2 line
              ∙ ap (λ (k : ℕ). drop k line) (omega arith))
