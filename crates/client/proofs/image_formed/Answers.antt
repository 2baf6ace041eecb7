-- `client::image_formed` tests the level first, so that its span is small, and then the pointer.
use mathlib.Core.Path.{sym, ap, ◌∙◌}
use lib.Dec.{ltb}
use native.Mathlib.Omega.{arith}
use Rattle.client.specs.Table.Laws.{image_high, image_low}
use Rattle.client.proofs.image_formed.Goals as goal

pub returns-then-image-gt-MOST_LEVEL : goal.returns-then-image-gt-MOST_LEVEL
returns-then-image-gt-MOST_LEVEL c = sym (image_high c.args.image (omega arith))

pub returns : goal.returns
returns c = let a = c.args in
    ap (ltb a.image.pointer) c.span.ensures.0 ∙ sym (image_low a.image (omega arith))
