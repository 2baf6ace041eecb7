-- `scan::first_unsound`: the lowest one where the client believes in it; otherwise the best of those that are left is
-- the best of all, turn by turn.
use Rattle.scan.specs.Scan.Unsound.{Searching}
use Rattle.scan.proofs.first_unsound.Given as goal

abbrev pub invariant-loop-next : goal.invariant-loop-next
invariant-loop-next l = Searching l.headed.file.now l.believed l.lowest l.best l.next
