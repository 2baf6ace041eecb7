-- `ride::insert_refusal` asks for the key, then for a slot.
use Rattle.ride.specs.Call.Own.{at_held, at_full, at_free}
use Rattle.ride.proofs.insert_refusal.Goals as goal

pub returns-then-place-count : goal.returns-then-place-count
returns-then-place-count c = search at_held

pub returns-then-slots-count : goal.returns-then-slots-count
returns-then-slots-count c = search at_full

pub returns : goal.returns
returns c = search at_free
