-- `route::walk_route`: what is noted and what is still to come are the route from the first bucket; each bucket keeps
-- the key, sends it on or is unsound.
use Prim.Native.Nat.{◌≤◌, ◌-◌}
use Rattle.route.specs.Way.Route.{Walking, way_from}
use Rattle.route.proofs.walk_route.Given as goal

abbrev pub invariant-walk : goal.invariant-walk
invariant-walk l = (l.walk.count ≤ 2)
    × Walking l.headed.file.now l.key (way_from l.headed.file.now l.key l.initial.bucket) l.walk l.bucket

abbrev pub decreases-walk : goal.decreases-walk
decreases-walk l = 3 - l.walk.count
