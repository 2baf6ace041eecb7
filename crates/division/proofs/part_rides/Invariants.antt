-- `division::part_rides`: the rides so far are parted; each turn writes one behind both groups and counts it to one.
use Rattle.address.specs.Rules.{keeps}
use Rattle.bucket.specs.Region.Divide.{Parted}
use Rattle.division.proofs.part_rides.Given as goal

abbrev pub invariant-loop-k : goal.invariant-loop-k
invariant-loop-k l = Parted (keeps l.home.first l.home.bucket l.home.level) l.initial.bytes
    l.slots l.old l.new l.count l.k l.stay l.bytes
