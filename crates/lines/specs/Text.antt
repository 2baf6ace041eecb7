-- What a method of `Text` that writes owes: the text keeps its buffer, and what a function that writes owes holds of
-- the buffer and the place, before and after.
use Rattle.std.specs.Prelude.{ℕ, ◌≡◌, List}
use Rattle.lines.specs.declared.Text.{Text}
use Rattle.lines.specs.Lines.{Wrote, WroteLine}

pub record Puts (text : List ℕ) (entry exit : Text) : Type 0 where
  pub same : exit.out.ghost_name ≡ entry.out.ghost_name
  pub wrote : Wrote entry.at text entry.out.now exit.out.now exit.at

-- and the line takes no more than its room
pub record PutsLine (room : ℕ) (line : List ℕ) (entry exit : Text) : Type 0 where
  pub same : exit.out.ghost_name ≡ entry.out.ghost_name
  pub wrote : WroteLine room entry.at line entry.out.now exit.out.now exit.at
