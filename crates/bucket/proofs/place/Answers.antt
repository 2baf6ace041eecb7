-- `bucket::place` writes mark, key and payload one behind the other, which is the slot's bytes, and then the count.
use mathlib.Core.Path.{refl}
use Rattle.bucket.specs.Region.Told.{ride_placed}
use Rattle.bucket.proofs.place.Goals as goal

pub returns : goal.returns
returns c = (refl, search ride_placed)
