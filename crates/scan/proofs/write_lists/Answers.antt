-- `scan::write_lists` refuses a short match list, and otherwise writes both lists.
use Rattle.std.proofs.Common.{rules}
use mathlib.Core.Path.{refl}
use Rattle.scan.specs.Scan.Replied.{judged_short, judged_noted, judged_room, judged_done}
use Rattle.scan.proofs.write_lists.Goals as goal

pub returns-then-matches-found : goal.returns-then-matches-found
returns-then-matches-found c = judged_short c.requires.0 c.requires.1 refl _ _ c.if-matches-found.true refl

pub put_lists-count-requires : goal.put_lists-count-requires
put_lists-count-requires c = (
  search rules,
  judged_noted c.requires.0 c.requires.1 refl,
  search rules,
  judged_room c.requires.0 c.requires.1 refl _ c.if-matches-found.false,
)

pub returns : goal.returns
returns c = judged_done c.requires.0 c.requires.1 refl _ c.if-matches-found.false _
    c.put_lists-count.ensures.0 c.put_lists-count.ensures.1 c.put_lists-count.ensures.2
