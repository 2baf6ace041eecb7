-- What a function that runs a command on a text owes: the text keeps its buffer, and what it owes of the buffer and the
-- place, before and after.
use Rattle.std.specs.Prelude.{ℕ, ◌≡◌, List}
use Rattle.lines.specs.declared.Text.{Text}
use Rattle.turn.specs.Session.{Ran, Done}

pub record Runs (room : ℕ) (ran : Ran) (file table : List ℕ) (entry exit : Text) : Type 0 where
  pub same : exit.out.ghost_name ≡ entry.out.ghost_name
  pub done : Done room ran file table entry.at entry.out.now exit.out.now exit.at
