-- `turn::run_scan`: what scan told, and the line of it; its visits fit the list.
use Rattle.std.proofs.Common.{rules}
use Rattle.scan.specs.Scan.Replied.{scan_answered}
use Rattle.turn.specs.Session.Laws.{visits_few, visits_taken, scan_done}
use Rattle.turn.proofs.run_scan.Goals as goal

pub slice_bounds-visits-end : goal.slice_bounds-visits-end
slice_bounds-visits-end c =
    let told = scan_answered c.scan-done.result c.from-answer.ensures c.scan-done.ensures in
    search (visits_few, told)

pub slice_bounds-put_scan-end : goal.slice_bounds-put_scan-end
slice_bounds-put_scan-end c =
    let told = scan_answered c.scan-done.result c.from-answer.ensures c.scan-done.ensures in
    search (visits_taken, told)

pub returns : goal.returns
returns c =
    let told = scan_answered c.scan-done.result c.from-answer.ensures c.scan-done.ensures in
    search (rules, scan_done, told)
