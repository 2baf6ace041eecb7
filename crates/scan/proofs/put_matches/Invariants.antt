-- `scan::put_matches`: the matches of the buckets that are left, written behind those that stand there, make the whole
-- write.
use Rattle.scan.specs.Scan.Fill.{Written}
use Rattle.scan.proofs.put_matches.Given as goal

abbrev pub invariant-loop-visit : goal.invariant-loop-visit
invariant-loop-visit l = Written l.headed.file.now l.lift l.way l.initial.matches l.visit-index l.filled
    l.matches
