-- `scan::judge_all`: the buckets before are sound and noted, and their matches and those of the buckets that are left
-- are all; it ends at the first unsound bucket.
use mathlib.Core.Path.{◌≡◌}
use lib.ListN.{length}
use Rattle.scan.specs.Scan.Tally.{Tallied}
use Rattle.scan.proofs.judge_all.Given as goal

abbrev pub invariant-loop-bucket : goal.invariant-loop-bucket
invariant-loop-bucket l = (length l.notes ≡ length l.initial.notes)
    × Tallied l.headed.file.now l.lift l.bucket l.matches l.notes
