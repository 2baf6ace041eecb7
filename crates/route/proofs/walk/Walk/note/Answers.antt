-- `route::walk::Walk::note` puts the bucket at the place that the count tells.
use mathlib.Core.Path.{refl}
use Rattle.std.proofs.Common.{rules}
use Rattle.route.specs.Way.Noted.{note_next}
use Rattle.route.proofs.walk.Walk.note.Goals as goal

pub returns : goal.returns
returns c = (note_next c.args.self.now _ _ c.requires (search rules) refl refl, refl)
