-- `scan::scan` refuses 2 to 6 and 11, and scans along the visit order of the client's image.
use mathlib.Core.Path.{refl}
use Rattle.std.proofs.lemmas.Result.{err_from_is_err_and}
use Rattle.layout.specs.Replies.Refused.{number_some}
use Rattle.scan.specs.Scan.Replied.{scan_early, opened_short, opened_long}
use Rattle.scan.specs.Scan.Way.{starting, starting_long}
use Rattle.scan.proofs.scan.Goals as goal

pub returns-in_err-opened : goal.returns-in_err-opened
returns-in_err-opened c = let p = err_from_is_err_and c.from_residual.result c.from_residual.ensures.1 in
    let a = c.args in
    rw (p.1, p.2) (scan_early a.file.now a.table.now a.client a.lift a.visits.now a.matches.now refl
    c.in_err-opened.ensures.refused (number_some c.in_err-opened.field-0.0))

pub returns-then-visits-buckets : goal.returns-then-visits-buckets
returns-then-visits-buckets c = search (opened_short, c.in_ok-opened.ensures)

pub collect_noting-requires : goal.collect_noting-requires
collect_noting-requires c = let start = starting c.in_ok-opened.ensures.opened in
    (start, search (starting_long, start))

pub returns : goal.returns
returns c = search (opened_long, c.in_ok-opened.ensures)
