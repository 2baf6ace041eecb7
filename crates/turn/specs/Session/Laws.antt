-- Each command by what its call told, and the lines of an input one after another: what is printed so far, and what the
-- rest prints, is the whole.
use Rattle.std.specs.Prelude.{ℕ, ◌+◌, ◌-◌, ◌≤◌, ◌<◌, ◌≡◌, List, [], ◌∷◌, ◌++◌, length, take, drop, replicate}
use Rattle.std.proofs.Math.Path.{refl, subst}
use Rattle.std.proofs.Common.{◌∙◌, sym, ap, ap₂, append_assoc, append-nil, add-one, arith, lt-ltb, length-drop}
use Rattle.std.proofs.Common.{drop_of_length-le, length-take-le}
use Rattle.client.specs.Table.{Joined, join}
use Rattle.file.specs.File.{Created, create, SplitOutcome, split}
use Rattle.ride.specs.Call.{Outcome, insert, search}
use Rattle.scan.specs.Scan.{Scanned, scan}
use Rattle.scan.specs.Scan.Outcome.{visits_fit}
use Rattle.lines.specs.Bytes.{line_feed, letter_i, letter_s}
use Rattle.lines.specs.Lines.{unknown_line, ride_line, split_line, scan_line, Wrote, WroteLine, line_room}
use Rattle.lines.specs.Lines.Edit.{wrote_none, wrote_both, wrote_length}
use Rattle.commands.specs.Text.{pieces, line_end, command_of}
use Rattle.commands.specs.Text.Pieces.{pieces_none, some_piece, pieces_more, pieces_last}
use Rattle.commands.specs.Text.Spelling.{Spelling, unknown, splits, numbers, one_spelling, spelling_long}
use Rattle.commands.specs.declared.Command.{Command}
use Rattle.commands.specs.declared.Command.TheVariants.{Split, Insert, Search, Scan, Unknown}
use Rattle.turn.specs.Session.{Done, made_file, joined_table, ran, printed_from, printed, room_for}

-- each command, by what its call told and what was written of it
module _ {at next : ℕ} {entry exit : List ℕ} (file table : List ℕ) where
  pub split_done : {answer old new : ℕ} {after : List ℕ}
      → record { answer = answer; old = old; new = new; file = after } ≡ split file
      → WroteLine (line_room 2) at (split_line answer old new) entry exit next
      → Done (line_room 2) (ran file table Split) after table at entry exit next
  unfolding ran
  split_done {after = after} e w = subst
      (λ (o : SplitOutcome). Done (line_room 2)
      (record { file = o.file; table = table; line = split_line o.answer o.old o.new }) after table at entry
      exit next)
      e
      (record { holds = refl; knows = refl; prints = w })

  module _ {answer : ℕ} {block after images : List ℕ} where
    ride_done : (letter : ℕ) (o : Outcome)
        → record { answer = answer; block = block; table = images; file = after } ≡ o
        → WroteLine (line_room 3) at (ride_line letter block) entry exit next
        → Done (line_room 3) (record { file = o.file; table = o.table; line = ride_line letter o.block }) after
        images at entry exit next
    ride_done letter o e w = subst
        (λ (p : Outcome). Done (line_room 3)
        (record { file = p.file; table = p.table; line = ride_line letter p.block }) after images at entry exit
        next)
        e
        (record { holds = refl; knows = refl; prints = w })

    pub insert_done : (client key : ℕ)
        → record { answer = answer; block = block; table = images; file = after }
        ≡ insert file table client key (replicate 14 0) (replicate 24 0)
        → WroteLine (line_room 3) at (ride_line letter_i block) entry exit next
        → Done (line_room 3) (ran file table (Insert client key)) after images at entry exit next
    unfolding ran
    insert_done client key e w = ride_done letter_i
        (insert file table client key (replicate 14 0) (replicate 24 0)) e w

    pub search_done : (client key : ℕ)
        → record { answer = answer; block = block; table = images; file = after }
        ≡ search file table client key (replicate 24 0)
        → WroteLine (line_room 3) at (ride_line letter_s block) entry exit next
        → Done (line_room 3) (ran file table (Search client key)) after images at entry exit next
    unfolding ran
    search_done client key e w = ride_done letter_s (search file table client key (replicate 24 0)) e w

  unknown_done : WroteLine (line_room 0) at unknown_line entry exit next
      → Done (line_room 0) (ran file table Unknown) file table at entry exit next
  unfolding ran
  unknown_done w = record { holds = refl; knows = refl; prints = w }

-- a scan's visits are at most as many as the list has room for, and so is its line
module _ (file table : List ℕ) (client lift : ℕ) {answer bucket visits matches : ℕ} {visit_list match_list : List ℕ}
    (is : record {
      answer = answer;
      bucket = bucket;
      visits = visits;
      matches = matches;
      visit_list = visit_list;
      match_list = match_list;
    } ≡ scan file table client lift (replicate 16 0) (replicate 64 0)) (whole : length visit_list ≡ 16) where
  pub visits_few : visits ≤ length visit_list
  visits_few = omega
      (arith, ap (λ (s : Scanned). s.visits) is, visits_fit file table client lift (replicate 16 0) (replicate 64 0))

  pub visits_taken : visits ≡ length (take visits visit_list)
  visits_taken = sym (length-take-le visits visit_list visits_few)

  pub visits_room : (at : ℕ) {size : ℕ} → at + line_room 16 ≤ size
      → at + line_room (length (take visits visit_list)) ≤ size
  visits_room at fits = omega (arith, visits_few, visits_taken)

  pub scan_done : {at next : ℕ} {entry exit : List ℕ}
      → WroteLine (line_room (length (take visits visit_list))) at (scan_line answer (take visits visit_list) matches)
      entry
      exit next
      → Done (line_room 16) (ran file table (Scan client lift)) file table at entry exit next
  unfolding ran
  scan_done {at} {next} {entry} {exit} w = subst
      (λ (o : Scanned). Done (line_room 16)
      (record {
        file = file;
        table = table;
        line = scan_line o.answer (take o.visits o.visit_list) o.matches;
      }) file table at entry exit next)
      is
      (record {
        holds = refl;
        knows = refl;
        prints = record { wrote = w.wrote; short = omega (arith, w.short, visits_few, visits_taken) };
      })

-- a command's own room is within that of its line, since one with two numbers has at least five bytes
abbrev pub room_of : Command → ℕ
room_of Split = line_room 2
room_of (Insert client key) = line_room 3
room_of (Search client key) = line_room 3
room_of (Scan client lift) = line_room 16
room_of Unknown = line_room 0

most_room : (command : Command) → room_of command ≤ line_room 16
most_room Split = omega arith
most_room (Insert client key) = omega arith
most_room (Search client key) = omega arith
most_room (Scan client lift) = omega arith
most_room Unknown = omega arith

line_room_lem : (line : List ℕ) (command : Command) → command_of line ≡ command
    → room_of command ≤ room_for (length line + 1)
line_room_lem line command is = go (one_spelling line)
  where
    go : Spelling line → room_of command ≤ room_for (length line + 1)
    go (unknown e) = rw (sym is ∙ e) (omega arith)
    go (splits e l) = rw (sym is ∙ e) (omega (arith, ap length l))
    go (numbers letter client number e some more l) = omega
        (arith, most_room command, ap length l, spelling_long letter client number)

-- a line's command, by what was read: its own room is there,
module _ {read : Command} (line : List ℕ) (is : read ≡ command_of line) (at : ℕ) {size : ℕ}
    (fits : at + room_for (length line + 1) ≤ size) where
  pub split_room : read ≡ Split → at + line_room 2 ≤ size
  split_room told = omega (arith, line_room_lem line Split (sym is ∙ told))

  pub insert_room : {client key : ℕ} → read ≡ Insert client key → at + line_room 3 ≤ size
  insert_room {client} {key} told = omega (arith, line_room_lem line (Insert client key) (sym is ∙ told))

  pub search_room : {client key : ℕ} → read ≡ Search client key → at + line_room 3 ≤ size
  search_room {client} {key} told = omega (arith, line_room_lem line (Search client key) (sym is ∙ told))

  pub scan_room : {client lift : ℕ} → read ≡ Scan client lift → at + line_room 16 ≤ size
  scan_room {client} {lift} told = omega (arith, line_room_lem line (Scan client lift) (sym is ∙ told))

-- and what it does is done.
module _ {read : Command} (line : List ℕ) (is : read ≡ command_of line) (command : Command)
    (told : read ≡ command) where
  pub line_done : {after images entry exit : List ℕ} {at next : ℕ} (file table : List ℕ)
      → Done (room_of command) (ran file table command) after images at entry exit next
      → Done (room_for (length line + 1)) (ran file table (command_of line)) after images at entry exit next
  line_done file table done = rw (sym is ∙ told) (record {
    holds = done.holds;
    knows = done.knows;
    prints =
        record {
          wrote = done.prints.wrote;
          short = omega (arith, done.prints.short, line_room_lem line command (sym is ∙ told));
        };
  })

-- the two commands that no table is lent to
module _ {at next : ℕ} {entry exit : List ℕ} (file table : List ℕ) {read : Command} (line : List ℕ)
    (is : read ≡ command_of line) where
  pub line_split : {after : List ℕ} → read ≡ Split
      → ((images : List ℕ) → Done (line_room 2) (ran file images Split) after images at entry exit next)
      → Done (room_for (length line + 1)) (ran file table (command_of line)) after table at entry exit next
  line_split told done = line_done line is Split told file table (done table)

  pub line_unknown : read ≡ Unknown → WroteLine (line_room 0) at unknown_line entry exit next
      → Done (room_for (length line + 1)) (ran file table (command_of line)) file table at entry exit next
  line_unknown told wrote = line_done line is Unknown told file table (unknown_done file table wrote)

-- what is printed of an input's pieces: nothing, what no line feed ends, or a line and the rest
module _ (file table : List ℕ) where
  printed_none : printed_from file table ([] ∷ []) ≡ []
  unfolding printed_from
  printed_none = refl

  printed_last : (last : List ℕ) → 0 < length last → printed_from file table (last ∷ []) ≡ unknown_line
  unfolding printed_from
  printed_last last some = rw (lt-ltb 0 (length last) some)

  printed_line : (line text after images : List ℕ) → after ≡ (ran file table (command_of line)).file
      → images ≡ (ran file table (command_of line)).table
      → printed_from file table (line ∷ pieces line_feed text)
      ≡ (ran file table (command_of line)).line ++ printed_from after images (pieces line_feed text)
  unfolding printed_from
  printed_line line text after images holds knows =
      let (first, rest, is) = some_piece line_feed text in
      rw (is, holds, knows)

-- what is printed of an input, by what create and four joins told, and what was written of its lines
pub printed_is : {made one two three four : List ℕ} {answer first second third fourth : ℕ}
    → record { answer = answer; file = made } ≡ create (replicate 1680 0) 2 4 16
    → record { answer = first; table = one } ≡ join (replicate 32 0) 0
    → record { answer = second; table = two } ≡ join one 1
    → record { answer = third; table = three } ≡ join two 2
    → record { answer = fourth; table = four } ≡ join three 3
    → (input : List ℕ) {entry exit : List ℕ} {next : ℕ}
    → Wrote 0 (printed_from made four (pieces line_feed input)) entry exit next
    → Wrote 0 (printed input) entry exit next
unfolding printed made_file joined_table
printed_is m e1 e2 e3 e4 input {entry} {exit} {next} w = subst (λ (text : List ℕ). Wrote 0 text entry exit next)
    (ap₂ (λ (file images : List ℕ). printed_from file images (pieces line_feed input)) (ap (λ (o : Created). o.file) m)
    (ap table e4 ∙ joining 3 (ap table e3 ∙ joining 2 (ap table e2 ∙ joining 1 (ap table e1)))))
    w
  where
    table : Joined → List ℕ
    table j = j.table

    joining : (client : ℕ) {before after : List ℕ} → before ≡ after
        → (join before client).table ≡ (join after client).table
    joining client e = ap (λ (images : List ℕ). (join images client).table) e

-- a loop over an input's lines: what is written so far, and what the lines from a place on print, is the whole
pub record Printing (input file₀ table₀ out₀ : List ℕ) (from : ℕ) (file table out : List ℕ) (at : ℕ) : Type 0 where
  pub text : List ℕ
  pub wrote : Wrote 0 text out₀ out at
  pub whole : text ++ printed_from file table (pieces line_feed (drop from input))
      ≡ printed_from file₀ table₀ (pieces line_feed input)
  pub room : at ≤ room_for from
  pub within : from ≤ length input

pub printing_none : (input file table out : List ℕ) → Printing input file table out 0 file table out 0
printing_none input file table out =
    record { text = []; wrote = wrote_none 0 out (omega arith); whole = refl; room = omega arith; within = omega arith }

module _ {input file₀ table₀ out₀ : List ℕ} {from : ℕ} {file table out : List ℕ} {at : ℕ}
    (so : Printing input file₀ table₀ out₀ from file table out at) where
  module _ {end : ℕ} (is : end ≡ line_end input from) (later : from ≤ end) (within : end ≤ length input)
      (ended : end ≡ length input → ⊥) where
    line_length : length (take (end - from) (drop from input)) ≡ end - from
    line_length = length-take-le (end - from) (drop from input) (omega (arith, ended, length-drop from input))

    pub printing_more : {after images exit : List ℕ} {next : ℕ}
        → Done (room_for (length (take (end - from) (drop from input)) + 1))
        (ran file table (command_of (take (end - from) (drop from input)))) after images at out exit next
        → Printing input file₀ table₀ out₀ (end + 1) after images exit next
    printing_more {after} {images} done = record {
      text = so.text ++ line;
      wrote = wrote_both so.wrote done.prints.wrote;
      whole = append_assoc so.text line rest ∙ ap (λ (l : List ℕ). so.text ++ l) (sym step) ∙ so.whole;
      room = omega (arith, done.prints.short, done.prints.wrote.place, ended, line_length, so.room);
      within = omega (arith, ended);
    }
      where
        line : List ℕ
        line = (ran file table (command_of (take (end - from) (drop from input)))).line

        rest : List ℕ
        rest = printed_from after images (pieces line_feed (drop (end + 1) input))

        parts : pieces line_feed (drop from input)
            ≡ take (end - from) (drop from input) ∷ pieces line_feed (drop (end + 1) input)
        parts = rw (add-one, is) (pieces_more line_feed input from so.within (omega (arith, ended)))

        step : printed_from file table (pieces line_feed (drop from input)) ≡ line ++ rest
        step = rw parts
            (printed_line file table (take (end - from) (drop from input)) (drop (end + 1) input) after images
            done.holds done.knows)

  pub printing_cut : from < length input → {end : ℕ} → end ≡ line_end input from → end ≡ length input
      → {exit : List ℕ} {next : ℕ}
      → WroteLine (line_room 0) at unknown_line out exit next
      → Wrote 0 (printed_from file₀ table₀ (pieces line_feed input)) out₀ exit next
  printing_cut some is ended w = rw (← so.whole, last) (wrote_both so.wrote w.wrote)
    where
      last : printed_from file table (pieces line_feed (drop from input)) ≡ unknown_line
      last = rw (pieces_last line_feed input from so.within (sym is ∙ ended))
          (printed_last file table (drop from input) (omega (arith, length-drop from input)))

  -- the same as std's search tells it, and the room that there is for a line and for the cut one
  pub printing_rest : from < length input → line_end input from ≡ length input → {exit : List ℕ} {next : ℕ}
      → WroteLine (line_room 0) at unknown_line out exit next
      → Wrote 0 (printed_from file₀ table₀ (pieces line_feed input)) out₀ exit next
  printing_rest some is w = printing_cut some (sym is) refl w

  module _ {size : ℕ} (whole : room_for (length input) ≤ size) (same : length out₀ ≡ size) where
    pub rest_room : from < length input → at + line_room 0 ≤ length out
    rest_room some = omega (arith, so.room, wrote_length so.wrote)

    pub line_end_room : {end : ℕ} → from ≤ end → end < length input
        → at + room_for (length (take (end - from) (drop from input)) + 1) ≤ length out
    line_end_room {end} later within = omega (
      arith,
      so.room,
      wrote_length so.wrote,
      length-take-le (end - from) (drop from input) (omega (arith, length-drop from input)),
    )

  pub printing_done : length input ≤ from → Wrote 0 (printed_from file₀ table₀ (pieces line_feed input)) out₀ out at
  printing_done h = rw (← so.whole, none, append-nil so.text) so.wrote
    where
      none : printed_from file table (pieces line_feed (drop from input)) ≡ []
      none = rw (drop_of_length-le input h, pieces_none line_feed) (printed_none file table)
