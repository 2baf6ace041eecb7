-- The pieces of a text: put together they are the text, and from a place on the first of them ends where the next b
-- stands.
use Prim.Native.Nat.{ℕ, zero, suc, ◌+◌, ◌-◌, ◌≤◌, ◌<◌}
use Rattle.std.specs.Prelude.{◌≡◌, Bool, cond, ltb, eqb, length, get_or, take, drop}
use Rattle.std.proofs.Math.Path.{refl, ap}
use Rattle.std.proofs.Common.{◌∙◌, sym, ap₂, subst, add-one, drop_of_length-le}
use mathlib.Core.List.{List, [], ◌∷◌, ◌++◌}
use Rattle.std.proofs.Math.Logic.{by_cases}
use Rattle.std.proofs.Math.Decide.{ℕ_discrete}
use Rattle.std.proofs.Math.Nat.{sub_self}
use native.Mathlib.Omega.{arith}
use borrow.Author.Tests.{lt-ltb, le-ltb, eq-eqb, ne_eqb}
use Rattle.std.proofs.Math.Seq.{drop-cons, take_all}
use Rattle.std.specs.Prelude.{HoldsAt, ◌≢◌, false}
use Rattle.std.proofs.Common.{length-take-le}
use Rattle.std.proofs.Math.ListN.{length-drop}
use Rattle.std.proofs.lemmas.List.{get_or-take, get_or-drop}
use Rattle.std.specs.List.{AllWithin}
use Rattle.layout.specs.Bytes.{first_from}
use Rattle.layout.specs.Bytes.Tests.{first_here, first_later, first_none, first_within}
use Rattle.commands.specs.Text.{place_of, longer, pieces}

module _ (b : ℕ) where
  pub pieces_none : pieces b [] ≡ [] ∷ []
  unfolding pieces
  pieces_none = refl

  pub some_piece : (text : List ℕ) → (first : List ℕ) × (rest : List (List ℕ)) × (pieces b text ≡ first ∷ rest)
  unfolding pieces longer
  some_piece [] = ([], [], refl)
  some_piece (x ∷ xs) =
      let (first, rest, is) = some_piece xs in
      by_cases (ℕ_discrete x b)
      (λ e. ([], pieces b xs, rw (eq-eqb x b e)))
      (λ e. (x ∷ first, rest, rw (ne_eqb x b e, is)))

  -- pieces with a b between each two
  abbrev pub together : List (List ℕ) → List ℕ
  together [] = []
  together (piece ∷ []) = piece
  together (piece ∷ next ∷ more) = piece ++ b ∷ together (next ∷ more)

  pub together_pieces : (text : List ℕ) → together (pieces b text) ≡ text
  unfolding pieces longer
  together_pieces [] = refl
  together_pieces (x ∷ xs) =
      let (first, rest, is) = some_piece xs in
      by_cases (ℕ_discrete x b)
      (λ e. rw (eq-eqb x b e, is) (ap₂ (λ (z : ℕ) (r : List ℕ). z ∷ r) (sym e) (rw is at (together_pieces xs))))
      (λ e. rw (ne_eqb x b e, is) (front rest first (rw is at (together_pieces xs))))
    where
      front : (rest : List (List ℕ)) (first : List ℕ) → together (first ∷ rest) ≡ xs
          → together ((x ∷ first) ∷ rest) ≡ x ∷ xs
      front [] first h = ap (λ (r : List ℕ). x ∷ r) h
      front (next ∷ more) first h = ap (λ (r : List ℕ). x ∷ r) h

  module _ (text : List ℕ) where
    pub place_after : (from : ℕ) → from ≤ place_of b text from
    place_after from = (first_within (λ k. eqb (get_or text k 0) b) (length text - from) from).0

    -- what follows the b at a place, and nothing at the end
    rest : ℕ → List (List ℕ)
    rest place = cond (ltb place (length text)) (pieces b (drop (suc place) text)) []

    -- the first piece from a place on ends at another
    Parted : ℕ → ℕ → Type 0
    Parted from place = pieces b (drop from text) ≡ take (place - from) (drop from text) ∷ rest place

    parted_end : (from : ℕ) → length text ≤ from → Parted from from
    unfolding Parted rest pieces
    parted_end from over = rw (drop_of_length-le text over, le-ltb from (length text) over, sub_self from)

    module _ (from : ℕ) (inside : from < length text) where
      parted_here : get_or text from 0 ≡ b → Parted from from
      unfolding Parted rest pieces
      parted_here is = rw (
        drop-cons text from 0 inside,
        eq-eqb (get_or text from 0) b is,
        lt-ltb from (length text) inside,
        sub_self
            from,
      )

      parted_on : (place : ℕ) → (get_or text from 0 ≡ b → ⊥) → suc from ≤ place → Parted (suc from) place
          → Parted from place
      unfolding Parted pieces longer
      parted_on place other past next =
          let more : place - from ≡ suc (place - suc from) = omega arith in
          rw (drop-cons text from 0 inside, ne_eqb (get_or text from 0) b other, next, more)

    parted : (count from : ℕ) → from + count ≡ length text → Parted from (place_of b text from)
    parted zero from e = subst (Parted from)
        (sym (first_none (λ k. eqb (get_or text k 0) b) (length text) from (omega arith)))
        (parted_end from (omega arith))
    parted (suc count) from e = by_cases (ℕ_discrete (get_or text from 0) b)
        (λ is. subst (Parted from) (sym (first_here test (length text) from inside (eq-eqb (get_or text from 0) b is)))
        (parted_here from inside is))
        (λ other. subst (Parted from) (sym (on other))
        (parted_on from inside (place_of b text (suc from)) other past (parted count (suc from) (omega arith))))
      where
        test : ℕ → Bool
        test k = eqb (get_or text k 0) b

        inside : from < length text
        inside = omega arith

        on : (get_or text from 0 ≡ b → ⊥) → place_of b text from ≡ place_of b text (suc from)
        on other = first_later test (length text) from inside (ne_eqb (get_or text from 0) b other) ∙ rw (add-one from)

        past : suc from ≤ place_of b text (suc from)
        past = place_after (suc from)

    module _ (from : ℕ) (within : from ≤ length text) where
      pub place_within : place_of b text from ≤ length text
      place_within = omega (arith, (first_within (λ k. eqb (get_or text k 0) b) (length text - from) from).1)

      pub pieces_first : (rest : List (List ℕ))
          × (pieces b (drop from text) ≡ take (place_of b text from - from) (drop from text) ∷ rest)
      unfolding Parted
      pieces_first = (rest (place_of b text from), parted (length text - from) from (omega arith))

      pub pieces_more : place_of b text from < length text
          → pieces b (drop from text)
          ≡ take (place_of b text from - from) (drop from text) ∷ pieces b (drop (suc (place_of b text from)) text)
      unfolding Parted rest
      pieces_more h = rw (lt-ltb (place_of b text from) (length text) h) at
          (parted (length text - from) from (omega arith))

      pub pieces_last : place_of b text from ≡ length text → pieces b (drop from text) ≡ drop from text ∷ []
      unfolding Parted rest
      pieces_last h =
          rw (
            le-ltb (place_of b text from) (length text) (omega (arith, h)),
            take_all (place_of b text from - from)
                (drop from text) (omega (arith, h, length-drop from text)),
          )
          at (parted (length text - from) from (omega arith))

-- the place of the first b by what a search from a place on told: none, or one before which there is none
module _ {test : ℕ → Bool} {e : ℕ} where
  before : (p : ℕ) → first_from test (e - p) p ≡ p → p ≤ e → (count k : ℕ) → k + count ≡ p
      → ((j : ℕ) → k ≤ j → j < p → test j ≡ false) → first_from test (e - k) k ≡ p
  before p here within zero k is fails = subst (λ (n : ℕ). first_from test (e - n) n ≡ p) (omega arith) here
  before p here within (suc count) k is fails =
      first_later test e k (omega arith) (fails k (omega arith) (omega arith))
      ∙ before p here within count (k + 1) (omega arith) (λ j l h. fails j (omega (arith, l)) h)

module _ (b : ℕ) (text : List ℕ) (from : ℕ) (within : from ≤ length text) where
  abbrev rest_of : List ℕ
  rest_of = take (length text - from) (drop from text)

  abbrev here : ℕ → Bool
  here k = eqb (get_or text k 0) b

  rest_length : length rest_of ≡ length text - from
  rest_length = length-take-le (length text - from) (drop from text) (omega (arith, length-drop from text))

  read : (j : ℕ) → from ≤ j → j < length text → get_or text j 0 ≡ get_or rest_of (j - from) 0
  read j low high = sym (get_or-take (length text - from) (drop from text) (j - from) 0 (omega arith)
      ∙ get_or-drop from text (j - from) 0 ∙ ap (λ (k : ℕ). get_or text k 0) (omega arith))

  fails : (limit : ℕ) → limit ≤ length text - from → AllWithin (λ x. x ≢ b) rest_of 0 limit
      → (j : ℕ) → from ≤ j → j < from + limit → here j ≡ false
  fails limit few none j low high = ne_eqb (get_or text j 0) b
      (λ e. none (j - from) 0 (omega arith) (omega arith) (sym (read j low (omega arith)) ∙ e))

  pub place_none : AllWithin (λ x. x ≢ b) rest_of 0 (length rest_of) → place_of b text from ≡ length text
  place_none none = before (length text) (first_none here (length text) (length text) (omega arith)) (omega arith)
      (length text - from) from (omega arith)
      (λ j l h. fails (length rest_of) (omega (arith, rest_length)) none j l (omega (arith, rest_length, h)))

  pub place_found : {more : ℕ} → more < length rest_of → HoldsAt (λ x. x ≡ b) rest_of more
      → AllWithin (λ x. x ≢ b) rest_of 0 more
      → (from + more ≡ place_of b text from) × (from ≤ from + more) × (from + more < length text)
  place_found {more} few hit none = (
    sym (before (from + more) (first_here here (length text) (from + more) inside (eq-eqb _ b there))
        (omega (arith, inside))
        more from refl (λ j l h. fails more (omega (arith, rest_length)) none j l h)),
    omega arith,
    inside,
  )
    where
      inside : from + more < length text
      inside = omega (arith, rest_length)

      there : get_or text (from + more) 0 ≡ b
      there = read (from + more) (omega arith) inside ∙ ap (λ (k : ℕ). get_or rest_of k 0) (omega arith) ∙ hit 0
