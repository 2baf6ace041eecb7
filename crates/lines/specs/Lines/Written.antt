-- A function that writes its parts one after another: before each part there is room for it, and all of them together
-- are the text. Each group follows its function in the source, with a law for each call and each way out.
use Rattle.std.specs.Prelude.{ℕ, ◌+◌, ◌-◌, ◌/◌, ◌%◌, ◌^◌, ◌≤◌, ◌<◌, min, ◌≡◌, List, [], ◌∷◌, length, get_or, take, drop}
use Rattle.std.proofs.Common.{sym, ap, arith, Fits, take_all, length-take-le}
use Rattle.std.proofs.Math.Facts.{Fits-16_64}
use Rattle.std.specs.Int.{w16, w64}
use Rattle.layout.specs.Bytes.{byte_at, le_at}
use Rattle.lines.specs.Bytes.{line_feed, space, comma, dash, digit0, greater, question, letter_a, letter_g}
use Rattle.lines.specs.Lines.{decimal, Wrote, WroteLine, each_after, joined, unknown_line, heading, answer_line}
use Rattle.lines.specs.Lines.{ride_line, split_route, split_line, scanned, scan_line, line_room}
use Rattle.lines.specs.Lines.Decimal.{decimal_one, decimal_more, decimal_some, decimal_tail}
use Rattle.lines.specs.Lines.Edit.{wrote_none, wrote_both, wrote_length}
use Rattle.lines.specs.Lines.Laws.{each_none, each_more, each_room, joined_none, joined_some, joined_length}
use Rattle.lines.specs.Lines.Laws.{joined_short, unknown_is, heading_is, heading_length, heading_short}
use Rattle.lines.specs.Lines.Laws.{ride_is, answer_is, answer_short, split_refused, split_done, split_length}
use Rattle.lines.specs.Lines.Laws.{buckets_short, split_is, split_short, scanned_refused, scanned_done}
use Rattle.lines.specs.Lines.Laws.{scanned_length, scanned_short, scan_is, scan_short}

-- a number: one digit, or the digits before the last one and that one
module _ (at x : ℕ) (entry : List ℕ) (room : at + length (decimal x) ≤ length entry) where
  pub digit_room : at < length entry
  digit_room = omega (arith, decimal_some x)

  pub digit_wrote : x < 10 → {end : ℕ} {exit : List ℕ} → Wrote at ((digit0 + x) ∷ []) entry exit end
      → Wrote at (decimal x) entry exit end
  digit_wrote one w = rw (decimal_one x one) w

  module _ (more : 10 ≤ x) {next : ℕ} {middle : List ℕ} (first : Wrote at (decimal (x / 10)) entry middle next) where
    pub last_room : next < length middle
    last_room = omega (arith, decimal_tail x more, wrote_length first)

    pub number_wrote : {end : ℕ} {exit : List ℕ} → Wrote next ((digit0 + x % 10) ∷ []) middle exit end
        → Wrote at (decimal x) entry exit end
    number_wrote second = rw (decimal_more x more) (wrote_both first second)

-- a number under another name, as a conversion to a wider type gives it
module _ {wide x : ℕ} (is : wide ≡ x) where
  pub converted_room : (at : ℕ) {size : ℕ} → at + length (decimal x) ≤ size → at + length (decimal wide) ≤ size
  converted_room at room = rw is room

  pub converted : {at next : ℕ} {entry exit : List ℕ} → Wrote at (decimal wide) entry exit next
      → Wrote at (decimal x) entry exit next
  converted w = rw is at w

-- each number after a separator: those of the numbers so far are written
module _ (at separator : ℕ) (numbers entry : List ℕ)
    (room : at + length (each_after separator numbers) ≤ length entry) where
  pub each_start : Wrote at (each_after separator (take 0 numbers)) entry entry at
  each_start = rw (each_none separator) (wrote_none at entry (omega arith))

  module _ {next : ℕ} {out : List ℕ} (i : ℕ)
      (so : Wrote at (each_after separator (take i numbers)) entry out next) where
    pub each_wrote : length numbers ≤ i → Wrote at (each_after separator numbers) entry out next
    each_wrote all = rw (take_all i numbers all) at so

    module _ (inside : i < length numbers) where
      pub separator_room : next < length out
      separator_room = omega (arith, each_room separator numbers i inside, wrote_length so)

      module _ {after : ℕ} {one : List ℕ} (first : Wrote next (separator ∷ []) out one after) where
        pub each_number_room : after + length (decimal (get_or numbers i 0)) ≤ length one
        each_number_room = omega (arith, each_room separator numbers i inside, wrote_length so, wrote_length first)

        pub each_next : {end : ℕ} {exit : List ℕ} → Wrote after (decimal (get_or numbers i 0)) one exit end
            → Wrote at (each_after separator (take (i + 1) numbers)) entry exit end
        each_next second = rw (each_more separator numbers i inside) (wrote_both so (wrote_both first second))

-- a number of two bytes is one of eight
pub wide_number : (numbers : List ℕ) (i : ℕ) → ((k : ℕ) → Fits w16 (get_or numbers k 0)) → Fits w64 (get_or numbers i 0)
wide_number numbers i known = Fits-16_64 (known i)

-- a list's length as a pattern tests it
pub length_none : {n : ℕ} → n < 1 → n ≡ 0
length_none less = omega arith

pub length_some : {n : ℕ} → 1 ≤ n → n ≡ 0 → ⊥
length_some more e = omega arith

-- numbers with a separator between them: none, or a first one and each other after a separator
module _ (at separator : ℕ) (numbers entry : List ℕ)
    (room : at + length (joined separator numbers) ≤ length entry) where
  module _ (none : length numbers ≡ 0) where
    pub dash_room : at < length entry
    dash_room = omega (arith, ap length (joined_none separator numbers none))

    pub dash_wrote : {end : ℕ} {exit : List ℕ} → Wrote at (dash ∷ []) entry exit end
        → Wrote at (joined separator numbers) entry exit end
    dash_wrote w = rw (joined_none separator numbers none) w

  module _ (some : length numbers ≡ 0 → ⊥) where
    pub first_room : at + length (decimal (get_or numbers 0 0)) ≤ length entry
    first_room = omega (arith, joined_length separator numbers some)

    module _ {next : ℕ} {one : List ℕ} (first : Wrote at (decimal (get_or numbers 0 0)) entry one next) where
      pub others_room : next + length (each_after separator (take (length numbers - 1) (drop 1 numbers))) ≤ length one
      others_room = omega (arith, joined_length separator numbers some, wrote_length first)

      pub joined_wrote : {end : ℕ} {exit : List ℕ}
          → Wrote next (each_after separator (take (length numbers - 1) (drop 1 numbers))) one exit end
          → Wrote at (joined separator numbers) entry exit end
      joined_wrote second = rw (joined_some separator numbers some) (wrote_both first second)

-- the line of an unknown command: two bytes
pub unknown_end_room : {at next : ℕ} {entry one : List ℕ} → at + line_room 0 ≤ length entry
    → Wrote at (question ∷ []) entry one next → next < length one
unknown_end_room room first = omega (arith, wrote_length first)

pub unknown_wrote : {at next end : ℕ} {entry one exit : List ℕ} → Wrote at (question ∷ []) entry one next
    → Wrote next (line_feed ∷ []) one exit end → WroteLine (line_room 0) at unknown_line entry exit end
unknown_wrote first second = rw unknown_is (record { wrote = wrote_both first second; short = omega arith })

-- what a line begins with: a letter, a space, the reply and a space
module _ (at letter reply : ℕ) (entry : List ℕ) (room : at + length (heading letter reply) ≤ length entry) where
  pub letter_room : at < length entry
  letter_room = omega (arith, heading_length letter reply)

  module _ {next : ℕ} {one : List ℕ} (first : Wrote at (letter ∷ []) entry one next) where
    pub space_room : next < length one
    space_room = omega (arith, heading_length letter reply, wrote_length first)

    module _ {after : ℕ} {two : List ℕ} (second : Wrote next (space ∷ []) one two after) where
      pub reply_room : after + length (decimal reply) ≤ length two
      reply_room = omega (arith, heading_length letter reply, wrote_length first, wrote_length second)

      module _ {last : ℕ} {three : List ℕ} (third : Wrote after (decimal reply) two three last) where
        pub second_space_room : last < length three
        second_space_room = omega
            (arith, heading_length letter reply, wrote_length first, wrote_length second, wrote_length third)

        pub heading_wrote : {end : ℕ} {exit : List ℕ} → Wrote last (space ∷ []) three exit end
            → Wrote at (heading letter reply) entry exit end
        heading_wrote fourth = rw (heading_is letter reply)
            (wrote_both (wrote_both (wrote_both first second) third) fourth)

-- the line of a reply and a route: they fit since no bucket number has more than five digits
module _ (at letter reply : ℕ) (route entry : List ℕ) (small : reply < 2 ^ 32)
    (room : at + line_room (length route) ≤ length entry) where
  pub heading_room : at + length (heading letter reply) ≤ length entry
  heading_room = omega (arith, heading_short letter reply small)

  module _ (known : (i : ℕ) → Fits w16 (get_or route i 0)) {next : ℕ} {one : List ℕ}
      (first : Wrote at (heading letter reply) entry one next) where
    pub route_room : next + length (joined greater route) ≤ length one
    route_room = omega (
      arith,
      heading_short letter reply small,
      joined_short greater route (λ i. (known i).fits),
      wrote_length first,
    )

    module _ {last : ℕ} {two : List ℕ} (second : Wrote next (joined greater route) one two last) where
      pub answer_end_room : last < length two
      answer_end_room = omega (
        arith,
        heading_short letter reply small,
        joined_short greater route (λ i. (known i).fits),
        wrote_length first,
        wrote_length second,
      )

      pub answer_wrote : {end : ℕ} {exit : List ℕ} → Wrote last (line_feed ∷ []) two exit end
          → WroteLine (line_room (length route)) at (answer_line letter reply route) entry exit end
      answer_wrote third = record {
        wrote = rw (answer_is letter reply route) (wrote_both (wrote_both first second) third);
        short = answer_short letter reply route small (λ i. (known i).fits);
      }

-- the line of an insert or a search, by what is read of its answer block
module _ (bytes : List ℕ) (one two three : ℕ) {count : ℕ} (some : count ≡ min (byte_at bytes 1) 3) where
  pub route_taken : count ≡ length (take count (one ∷ two ∷ three ∷ []))
  route_taken = sym (length-take-le count (one ∷ two ∷ three ∷ []) (omega arith))

  pub taken_room : (at : ℕ) {size : ℕ} → at + line_room 3 ≤ size
      → at + line_room (length (take count (one ∷ two ∷ three ∷ []))) ≤ size
  taken_room at fits = omega (arith, route_taken)

  pub ride_wrote : (letter : ℕ) {reply at end : ℕ} {entry exit : List ℕ} → reply ≡ byte_at bytes 0
      → one ≡ le_at 2 bytes 2 → two ≡ le_at 2 bytes 4 → three ≡ le_at 2 bytes 6
      → WroteLine (line_room (length (take count (one ∷ two ∷ three ∷ [])))) at
      (answer_line letter reply (take count (one ∷ two ∷ three ∷ []))) entry exit end
      → WroteLine (line_room 3) at (ride_line letter bytes) entry exit end
  ride_wrote letter {reply} r x y z w = rw (ride_is letter reply one two three bytes r x y z, ← some) (record {
    wrote = w.wrote;
    short = omega (arith, w.short, route_taken);
  })

-- the buckets of a split: none, or the two numbers with a separator between them
module _ (at reply old new : ℕ) (entry : List ℕ)
    (room : at + length (joined greater (split_route reply old new)) ≤ length entry) where
  module _ (refused : reply ≡ 0 → ⊥) where
    pub split_dash_room : at < length entry
    split_dash_room = omega (arith, ap length (split_refused reply old new refused))

    pub split_dash_wrote : {end : ℕ} {exit : List ℕ} → Wrote at (dash ∷ []) entry exit end
        → Wrote at (joined greater (split_route reply old new)) entry exit end
    split_dash_wrote w = rw (split_refused reply old new refused) w

  module _ (done : reply ≡ 0) where
    pub old_room : at + length (decimal old) ≤ length entry
    old_room = omega (arith, split_length reply old new done)

    module _ {next : ℕ} {one : List ℕ} (first : Wrote at (decimal old) entry one next) where
      pub greater_room : next < length one
      greater_room = omega (arith, split_length reply old new done, wrote_length first)

      module _ {last : ℕ} {two : List ℕ} (second : Wrote next (greater ∷ []) one two last) where
        pub new_room : last + length (decimal new) ≤ length two
        new_room = omega (arith, split_length reply old new done, wrote_length first, wrote_length second)

        pub buckets_wrote : {end : ℕ} {exit : List ℕ} → Wrote last (decimal new) two exit end
            → Wrote at (joined greater (split_route reply old new)) entry exit end
        buckets_wrote third = rw (split_done reply old new done) (wrote_both first (wrote_both second third))

-- the line of a split: it fits since no number of four bytes has more than ten digits
module _ (at reply old new : ℕ) (entry : List ℕ) (small : reply < 2 ^ 32) (olds : old < 2 ^ 32) (news : new < 2 ^ 32)
    (room : at + line_room 2 ≤ length entry) where
  pub split_heading_room : at + length (heading letter_g reply) ≤ length entry
  split_heading_room = omega (arith, heading_short letter_g reply small)

  module _ {next : ℕ} {one : List ℕ} (first : Wrote at (heading letter_g reply) entry one next) where
    pub buckets_room : next + length (joined greater (split_route reply old new)) ≤ length one
    buckets_room = omega (
      arith,
      heading_short letter_g reply small,
      buckets_short reply old new small olds news,
      wrote_length first,
    )

    module _ {last : ℕ} {two : List ℕ}
        (second : Wrote next (joined greater (split_route reply old new)) one two last) where
      pub split_end_room : last < length two
      split_end_room = omega (
        arith,
        heading_short letter_g reply small,
        buckets_short reply old new small olds news,
        wrote_length first,
        wrote_length second,
      )

      pub split_wrote : {end : ℕ} {exit : List ℕ} → Wrote last (line_feed ∷ []) two exit end
          → WroteLine (line_room 2) at (split_line reply old new) entry exit end
      split_wrote third = record {
        wrote = rw (split_is reply old new) (wrote_both (wrote_both first second) third);
        short = split_short reply old new small olds news;
      }

-- what a scan's line has after the reply: a dash, or the visits, a space and the count
module _ (at reply : ℕ) (visits : List ℕ) (matches : ℕ) (entry : List ℕ)
    (room : at + length (scanned reply visits matches) ≤ length entry) where
  module _ (refused : reply ≡ 0 → ⊥) where
    pub scan_dash_room : at < length entry
    scan_dash_room = omega (arith, ap length (scanned_refused reply visits matches refused))

    pub scan_dash_wrote : {end : ℕ} {exit : List ℕ} → Wrote at (dash ∷ []) entry exit end
        → Wrote at (scanned reply visits matches) entry exit end
    scan_dash_wrote w = rw (scanned_refused reply visits matches refused) w

  module _ (done : reply ≡ 0) where
    pub visits_room : at + length (joined comma visits) ≤ length entry
    visits_room = omega (arith, scanned_length reply visits matches done)

    module _ {next : ℕ} {one : List ℕ} (first : Wrote at (joined comma visits) entry one next) where
      pub count_space_room : next < length one
      count_space_room = omega (arith, scanned_length reply visits matches done, wrote_length first)

      module _ {last : ℕ} {two : List ℕ} (second : Wrote next (space ∷ []) one two last) where
        pub count_room : last + length (decimal matches) ≤ length two
        count_room =
            omega (arith, scanned_length reply visits matches done, wrote_length first, wrote_length second)

        pub scanned_wrote : {end : ℕ} {exit : List ℕ} → Wrote last (decimal matches) two exit end
            → Wrote at (scanned reply visits matches) entry exit end
        scanned_wrote third = rw (scanned_done reply visits matches done) (wrote_both first (wrote_both second third))

-- the line of a scan
module _ (at reply : ℕ) (visits : List ℕ) (matches : ℕ) (entry : List ℕ) (small : reply < 2 ^ 32)
    (room : at + line_room (length visits) ≤ length entry) where
  pub scan_heading_room : at + length (heading letter_a reply) ≤ length entry
  scan_heading_room = omega (arith, heading_short letter_a reply small)

  module _ (few : matches < 2 ^ 32) (known : (i : ℕ) → Fits w16 (get_or visits i 0)) {next : ℕ} {one : List ℕ}
      (first : Wrote at (heading letter_a reply) entry one next) where
    pub scanned_room : next + length (scanned reply visits matches) ≤ length one
    scanned_room = omega (
      arith,
      heading_short letter_a reply small,
      scanned_short reply visits matches few (λ i. (known i).fits),
      wrote_length first,
    )

    module _ {last : ℕ} {two : List ℕ} (second : Wrote next (scanned reply visits matches) one two last) where
      pub scan_end_room : last < length two
      scan_end_room = omega (
        arith,
        heading_short letter_a reply small,
        scanned_short reply visits matches few (λ i. (known i).fits),
        wrote_length first,
        wrote_length second,
      )

      pub scan_wrote : {end : ℕ} {exit : List ℕ} → Wrote last (line_feed ∷ []) two exit end
          → WroteLine (line_room (length visits)) at (scan_line reply visits matches) entry exit end
      scan_wrote third = record {
        wrote = rw (scan_is reply visits matches) (wrote_both (wrote_both first second) third);
        short = scan_short reply visits matches small few (λ i. (known i).fits);
      }
