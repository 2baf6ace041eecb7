-- Joined numbers and the parts of a line: their cases, and the room that they take; each line by its parts.
use Rattle.std.specs.Prelude.{ℕ, suc, ◌+◌, ◌-◌, ◌*◌, ◌^◌, ◌≤◌, ◌<◌, min, ◌≡◌, length, get_or, take, drop}
use Rattle.std.proofs.Math.Path.{refl, sym, ap}
use Rattle.std.proofs.Common.{◌∙◌, eq-eqb, ne_eqb, take-append-drop, take_all}
use mathlib.Core.List.{List, [], ◌∷◌, ◌++◌, append_assoc, append-nil}
use Rattle.std.proofs.Math.Logic.{by_cases}
use Rattle.std.proofs.Math.Decide.{dec_lt, ℕ_discrete}
use Rattle.std.proofs.Math.Nat.{min-eq_left, min-eq_right}
use Rattle.std.proofs.Math.Numerals.{add-one}
use native.Mathlib.Omega.{arith}
use Rattle.std.proofs.Math.ListN.{length-append}
use Rattle.std.proofs.Math.Seq.{take-suc}
use Rattle.layout.specs.Bytes.{byte_at, le_at}
use Rattle.lines.specs.Bytes.{line_feed, space, comma, dash, greater, question, letter_a, letter_g}
use Rattle.lines.specs.Lines.{decimal, each_after, joined, unknown_line, heading, answer_line, route_in, ride_line}
use Rattle.lines.specs.Lines.{split_route, split_line, scanned, scan_line, line_room}
use Rattle.lines.specs.Lines.Decimal.{decimal_length}

module _ (separator : ℕ) where
  pub each_none : each_after separator [] ≡ []
  unfolding each_after
  each_none = refl

  each_append : (ms ns : List ℕ) → each_after separator (ms ++ ns) ≡ each_after separator ms ++ each_after separator ns
  unfolding each_after
  each_append [] ns = refl
  each_append (m ∷ ms) ns =
      ap (λ (r : List ℕ). separator ∷ decimal m ++ r) (each_append ms ns)
      ∙ sym (append_assoc (separator ∷ decimal m) (each_after separator ms) (each_after separator ns))

  module _ (ns : List ℕ) (i : ℕ) (inside : i < length ns) where
    pub each_more : each_after separator (take (i + 1) ns)
        ≡ each_after separator (take i ns) ++ separator ∷ decimal (get_or ns i 0)
    unfolding each_after
    each_more =
        rw (
          add-one,
          take-suc ns i 0 inside,
          each_append (take i ns) (get_or ns i 0 ∷ []),
          append-nil
              (separator ∷ decimal (get_or ns i 0)),
        )

    pub each_room : length (each_after separator (take i ns)) + suc (length (decimal (get_or ns i 0)))
        ≤ length (each_after separator ns)
    each_room =
        let parts = each_append (take (i + 1) ns) (drop (i + 1) ns) in
        let all = ap (λ (l : List ℕ). length (each_after separator l)) (take-append-drop (i + 1) ns) in
        omega (
          arith,
          all,
          ap length parts,
          length-append (each_after separator (take (i + 1) ns)) (each_after separator (drop (i + 1) ns)),
          ap length each_more,
          length-append (each_after separator (take i ns)) (separator ∷ decimal (get_or ns i 0)),
        )

  -- joined numbers by cases, over the list as the code sees it
  pub joined_none : (ns : List ℕ) → length ns ≡ 0 → joined separator ns ≡ dash ∷ []
  unfolding joined
  joined_none [] h = refl
  joined_none (n ∷ ns) h = absurd (omega arith)

  pub joined_some : (ns : List ℕ) → (length ns ≡ 0 → ⊥)
      → joined separator ns ≡ decimal (get_or ns 0 0) ++ each_after separator (take (length ns - 1) (drop 1 ns))
  unfolding joined
  joined_some [] h = absurd (h refl)
  joined_some (n ∷ ns) h = ap (λ (l : List ℕ). decimal n ++ each_after separator l)
      (sym (take_all (suc (length ns) - 1) ns (omega arith)))

  pub joined_two : (m n : ℕ) → joined separator (m ∷ n ∷ []) ≡ decimal m ++ separator ∷ decimal n
  unfolding joined each_after
  joined_two m n = ap (λ (l : List ℕ). decimal m ++ separator ∷ l) (append-nil (decimal n))

  pub joined_length : (ns : List ℕ) → (length ns ≡ 0 → ⊥)
      → length (joined separator ns)
      ≡ length (decimal (get_or ns 0 0)) + length (each_after separator (take (length ns - 1) (drop 1 ns)))
  joined_length ns h = ap length (joined_some ns h)
      ∙ length-append (decimal (get_or ns 0 0)) (each_after separator (take (length ns - 1) (drop 1 ns)))

  -- numbers of two bytes take at most six places each
  each_short : (ns : List ℕ) → ((i : ℕ) → get_or ns i 0 < 65536) → length (each_after separator ns) ≤ 6 * length ns
  unfolding each_after
  each_short [] h = omega arith
  each_short (n ∷ ns) h =
      omega (
        arith,
        length-append (separator ∷ decimal n) (each_after separator ns),
        decimal_length 4 n
            (omega (arith, h 0)),
        each_short ns (λ i. h (suc i)),
      )

  pub joined_short : (ns : List ℕ) → ((i : ℕ) → get_or ns i 0 < 65536)
      → length (joined separator ns) ≤ 6 * length ns + 1
  unfolding joined
  joined_short [] h = omega arith
  joined_short (n ∷ ns) h =
      omega (
        arith,
        length-append (decimal n) (each_after separator ns),
        decimal_length 4 n (omega (arith, h 0)),
        each_short ns (λ i. h (suc i)),
      )

pub unknown_is : unknown_line ≡ question ∷ line_feed ∷ []
unfolding unknown_line
unknown_is = refl

module _ (letter reply : ℕ) where
  pub heading_is : heading letter reply ≡ letter ∷ space ∷ decimal reply ++ space ∷ []
  unfolding heading
  heading_is = refl

  pub heading_length : length (heading letter reply) ≡ length (decimal reply) + 3
  unfolding heading
  heading_length = length-append (letter ∷ space ∷ decimal reply) (space ∷ []) ∙ omega arith

  pub heading_short : reply < 2 ^ 32 → length (heading letter reply) ≤ 13
  heading_short h = omega (arith, heading_length, decimal_length 9 reply (omega arith))

  module _ (route : List ℕ) where
    pub answer_is : answer_line letter reply route ≡ heading letter reply ++ joined greater route ++ line_feed ∷ []
    unfolding answer_line
    answer_is = refl

    answer_length : length (answer_line letter reply route)
        ≡ length (heading letter reply) + length (joined greater route) + 1
    answer_length = ap length answer_is ∙ length-append (heading letter reply ++ joined greater route) (line_feed ∷ [])
        ∙ ap (λ (n : ℕ). n + 1) (length-append (heading letter reply) (joined greater route))

    pub answer_short : reply < 2 ^ 32 → ((i : ℕ) → get_or route i 0 < 65536)
        → length (answer_line letter reply route) ≤ line_room (length route)
    answer_short h k = omega (arith, answer_length, heading_short h, joined_short greater route k)

-- an insert's or a search's line, by a route that the block gives
pub ride_route : (letter : ℕ) (block : List ℕ) (reply count one two three : ℕ) (route : List ℕ)
    → byte_at block 0 ≡ reply → byte_at block 1 ≡ count → le_at 2 block 2 ≡ one → le_at 2 block 4 ≡ two
    → le_at 2 block 6 ≡ three
    → take count (one ∷ two ∷ three ∷ []) ≡ route → ride_line letter block ≡ answer_line letter reply route
unfolding ride_line route_in
ride_route letter block reply count one two three route r n x y z e = rw (r, n, x, y, z, e)

-- and by what the code reads from the block
pub ride_is : (letter reply one two three : ℕ) (block : List ℕ)
    → reply ≡ byte_at block 0 → one ≡ le_at 2 block 2 → two ≡ le_at 2 block 4 → three ≡ le_at 2 block 6
    → ride_line letter block ≡ answer_line letter reply (take (min (byte_at block 1) 3) (one ∷ two ∷ three ∷ []))
unfolding ride_line route_in
ride_is letter reply one two three block r x y z =
    rw (r, x, y, z)
    (ap (answer_line letter (byte_at block 0))
    (few (byte_at block 1) (le_at 2 block 2) (le_at 2 block 4) (le_at 2 block 6)))
  where
    few : (n a b c : ℕ) → take n (a ∷ b ∷ c ∷ []) ≡ take (min n 3) (a ∷ b ∷ c ∷ [])
    few n a b c = by_cases (dec_lt n 3)
        (λ h. ap (λ (m : ℕ). take m (a ∷ b ∷ c ∷ [])) (sym (min-eq_left {n = n} {m = 3} (omega arith))))
        (λ h. take_all n (a ∷ b ∷ c ∷ []) (omega arith)
        ∙ ap (λ (m : ℕ). take m (a ∷ b ∷ c ∷ [])) (sym (min-eq_right {n = 3} {m = n} (omega arith))))

module _ (reply old new : ℕ) where
  pub split_refused : (reply ≡ 0 → ⊥) → joined greater (split_route reply old new) ≡ dash ∷ []
  unfolding split_route joined
  split_refused h = rw (ne_eqb reply 0 h)

  pub split_done : reply ≡ 0 → joined greater (split_route reply old new) ≡ decimal old ++ greater ∷ decimal new
  unfolding split_route
  split_done h = rw (eq-eqb reply 0 h) (joined_two greater old new)

  pub split_is : split_line reply old new
      ≡ heading letter_g reply ++ joined greater (split_route reply old new) ++ line_feed ∷ []
  unfolding split_line
  split_is = answer_is letter_g reply (split_route reply old new)

  pub split_length : reply ≡ 0 → length (joined greater (split_route reply old new))
      ≡ length (decimal old) + suc (length (decimal new))
  split_length h = ap length (split_done h) ∙ length-append (decimal old) (greater ∷ decimal new)

  module _ (replies : reply < 2 ^ 32) (olds : old < 2 ^ 32) (news : new < 2 ^ 32) where
    pub buckets_short : length (joined greater (split_route reply old new)) ≤ 21
    buckets_short = by_cases (ℕ_discrete reply 0)
        (λ e. omega (arith, split_length e, decimal_length 9 old (omega arith), decimal_length 9 new (omega arith)))
        (λ e. omega (arith, ap length (split_refused e)))

    pub split_short : length (split_line reply old new) ≤ line_room 2
    unfolding split_line
    split_short = omega (
      arith,
      answer_length letter_g reply (split_route reply old new),
      heading_short letter_g reply replies,
      buckets_short,
    )

module _ (reply : ℕ) (visits : List ℕ) (matches : ℕ) where
  pub scanned_refused : (reply ≡ 0 → ⊥) → scanned reply visits matches ≡ dash ∷ []
  unfolding scanned
  scanned_refused h = rw (ne_eqb reply 0 h)

  pub scanned_done : reply ≡ 0 → scanned reply visits matches ≡ joined comma visits ++ space ∷ decimal matches
  unfolding scanned
  scanned_done h = rw (eq-eqb reply 0 h)

  pub scanned_length : reply ≡ 0
      → length (scanned reply visits matches) ≡ length (joined comma visits) + suc (length (decimal matches))
  scanned_length h = ap length (scanned_done h) ∙ length-append (joined comma visits) (space ∷ decimal matches)

  pub scanned_short : matches < 2 ^ 32 → ((i : ℕ) → get_or visits i 0 < 65536)
      → length (scanned reply visits matches) ≤ 6 * length visits + 12
  scanned_short h k = by_cases (ℕ_discrete reply 0)
      (λ e. omega (arith, scanned_length e, joined_short comma visits k, decimal_length 9 matches (omega arith)))
      (λ e. omega (arith, ap length (scanned_refused e)))

  pub scan_is : scan_line reply visits matches
      ≡ heading letter_a reply ++ scanned reply visits matches ++ line_feed ∷ []
  unfolding scan_line
  scan_is = refl

  pub scan_short : reply < 2 ^ 32 → matches < 2 ^ 32 → ((i : ℕ) → get_or visits i 0 < 65536)
      → length (scan_line reply visits matches) ≤ line_room (length visits)
  scan_short r h k = omega (
    arith,
    ap length scan_is,
    length-append (heading letter_a reply ++ scanned reply visits matches) (line_feed ∷ []),
    length-append (heading letter_a reply) (scanned reply visits matches),
    heading_short letter_a reply r,
    scanned_short h k,
  )
