-- `ridefile::session::run_lines` goes line by line: what is written so far, and what the rest prints, stays the whole.
use Rattle.std.proofs.Common.{◌≡◌, ◌-◌, length}
use Rattle.turn.specs.Session.Laws.{Printing}
use Rattle.ridefile.proofs.session.run_lines.Given as goal

abbrev pub invariant-loop-end : goal.invariant-loop-end
invariant-loop-end l = Printing l.input l.initial.file l.initial.table l.initial.text.out.now l.from l.file l.table
    l.text.out.now l.text.at
    × (l.text.out.ghost_name ≡ l.initial.text.out.ghost_name)

abbrev pub decreases-loop-end : goal.decreases-loop-end
decreases-loop-end l = length l.input - l.from
