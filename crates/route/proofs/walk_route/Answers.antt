-- `route::walk_route`: what is noted and what is still to come are the route from the first bucket; each bucket keeps
-- the key, sends it on or is unsound.
use Rattle.std.proofs.Common.{rules}
use Rattle.route.specs.Way.{way_of}
use Rattle.route.specs.Way.Route.{Walked, behind_room, level_room, walk_starts, walk_there, walk_keeps, walk_lost}
use Rattle.route.specs.Way.Route.{walk_stops, walk_sends, walk_short, walked_way, stopped_any}
use Rattle.file.specs.File.Region.{known_standing}
use Rattle.route.proofs.walk_route.Goals as goal

pub address-bucket-requires : goal.address-bucket-requires
address-bucket-requires c = search behind_room

pub walk-init : goal.walk-init
walk-init c = (search rules, search walk_starts)

pub judge_bucket-judged-requires : goal.judge_bucket-judged-requires
judge_bucket-judged-requires c = search (known_standing, walk_there)

pub fate_at-fate-requires : goal.fate_at-fate-requires
fate_at-fate-requires c = search level_room

pub returns-in-Keep-Some : goal.returns-in-Keep-Some
returns-in-Keep-Some c = search (walked_way, walk_keeps)

pub walk-preserved : goal.walk-preserved
walk-preserved c = (search walk_short, search walk_sends)

pub returns-in_default : goal.returns-in_default
returns-in_default c = let a = c.args in
    let file = a.headed.now.file.now in
    let stopped : Walked file a.key (way_of file a.image a.key) c.note.new.self c.walk.bucket 0 7 =
    search (walked_way, walk_lost) in
    record { reached = tt; stopped = stopped_any stopped }

pub returns-in_default-2 : goal.returns-in_default-2
returns-in_default-2 c = let a = c.args in
    let file = a.headed.now.file.now in
    let stopped : Walked file a.key (way_of file a.image a.key) c.note.new.self c.walk.bucket 0 7 =
    search (walked_way, walk_stops) in
    record { reached = tt; stopped = stopped_any stopped }
