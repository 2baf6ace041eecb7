-- `route::adjust` leaves the image that a sound record has, or writes the one that the first bucket's number and level
-- give.
use Rattle.route.specs.Way.Reach.{kept_written}
use Rattle.route.specs.Way.Route.{level_room}
use Rattle.std.proofs.Common.{rules}
use Rattle.route.proofs.adjust.Goals as goal

pub returns-then-kept : goal.returns-then-kept
returns-then-kept c = search kept_written

pub adjusted-next-requires : goal.adjusted-next-requires
adjusted-next-requires c = (search level_room, search rules)
