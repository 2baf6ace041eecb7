-- The program `ridefile` as document 01 has it: the file and the clients that it makes, what each command comes to, and
-- what is printed.
pub mod Laws
pub mod Route
use Rattle.std.specs.Prelude.{ℕ, ◌*◌, ◌≡◌, cond, List, [], ◌∷◌, ◌++◌, ltb, length, take, replicate}
use Rattle.client.specs.Table.{join}
use Rattle.file.specs.File.{create, split}
use Rattle.ride.specs.Call.{insert, search}
use Rattle.scan.specs.Scan.{scan}
use Rattle.lines.specs.Bytes.{line_feed, letter_i, letter_s}
use Rattle.lines.specs.Lines.{unknown_line, ride_line, split_line, scan_line, WroteLine}
use Rattle.commands.specs.Text.{pieces, command_of}
use Rattle.commands.specs.declared.Command.{Command}
use Rattle.commands.specs.declared.Command.TheVariants.{Split, Insert, Search, Scan, Unknown}

-- The program makes a file b = 2, S = 4, M = 16 (its length is 16 + 16·(8 + 24·4))
pub made_file : List ℕ
made_file = (create (replicate 1680 0) 2 4 16).file

-- and four joined clients.
pub joined_table : List ℕ
joined_table =
    let one = (join (replicate 32 0) 0).table in
    let two = (join one 1).table in
    let three = (join two 2).table in
    (join three 3).table

-- What a command leaves and prints: the file, the client table, and its line.
pub record Ran : Type 0 where
  pub file : List ℕ
  pub table : List ℕ
  pub line : List ℕ

-- Commands: `G` split; `I client key` insert, payload zero; `S client key`; `A client lift` scan, with room for all
-- buckets and all records. A line not so formed prints `?`.
pub ran : List ℕ → List ℕ → Command → Ran
ran file table Split =
    let done = split file in
    record { file = done.file; table = table; line = split_line done.answer done.old done.new }
ran file table (Insert client key) =
    let done = insert file table client key (replicate 14 0) (replicate 24 0) in
    record { file = done.file; table = done.table; line = ride_line letter_i done.block }
ran file table (Search client key) =
    let done = search file table client key (replicate 24 0) in
    record { file = done.file; table = done.table; line = ride_line letter_s done.block }
ran file table (Scan client lift) =
    let done = scan file table client lift (replicate 16 0) (replicate 64 0) in
    record {
      file = file;
      table = table;
      line = scan_line done.answer (take done.visits done.visit_list) done.matches;
    }
ran file table Unknown = record { file = file; table = table; line = unknown_line }

-- It prints one line a command line; a last one of at least one byte without its line feed prints `?`.
pub printed_from : List ℕ → List ℕ → List (List ℕ) → List ℕ
printed_from file table [] = []
printed_from file table (last ∷ []) = cond (ltb 0 (length last)) unknown_line []
printed_from file table (line ∷ next ∷ more) =
    let done = ran file table (command_of line) in
    done.line ++ printed_from done.file done.table (next ∷ more)

-- A line ends with a line feed: what the program prints for an input.
pub printed : List ℕ → List ℕ
printed input = printed_from made_file joined_table (pieces line_feed input)

-- Room for what is printed of so many bytes of input: at most 32 bytes for each, since the longest line, a scan's, is
-- printed for a command of at least six.
abbrev pub room_for : ℕ → ℕ
room_for bytes = 32 * bytes

-- What a function that runs a command owes: file and table are what the command leaves, and its line is written, within
-- its room.
pub record Done (room : ℕ) (ran : Ran) (file table : List ℕ) (at : ℕ) (entry exit : List ℕ) (next : ℕ) : Type 0 where
  pub holds : file ≡ ran.file
  pub knows : table ≡ ran.table
  pub prints : WroteLine room at ran.line entry exit next
