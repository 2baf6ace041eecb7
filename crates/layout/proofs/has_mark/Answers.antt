-- `layout::has_mark`: the two bytes at the place are the mark's.
use Rattle.layout.specs.Bytes.Words.{mark_same}
use Rattle.std.proofs.Common.{◌∙◌}
use Rattle.layout.proofs.has_mark.Goals as goal

pub returns : goal.returns
returns c = c.eq.ensures ∙ mark_same _ _ _ c.requires c.told-mark c.array_at.ensures
