-- `ride::place` adjusts the image and places the ride, for which a slot is free.
use Rattle.ride.specs.Call.Own.{slot_free}
use Rattle.ride.proofs.Call.Replied.{placed_there}
use Rattle.ride.proofs.place.Goals as goal

pub put_placed-requires : goal.put_placed-requires
put_placed-requires c = (search, search, search, search, search, search slot_free)

pub returns : goal.returns
returns c = (search placed_there, search)
