-- `division::divide` parts the rides and closes both regions.
use native.Mathlib.Omega.{arith}
use Rattle.std.proofs.Common.{rules}
use Rattle.bucket.specs.Region.Divide.{halves_read, old_fits, some_fit, new_fits, halved_done}
use Rattle.division.proofs.divide.Goals as goal

pub part_rides-stay-requires : goal.part_rides-stay-requires
part_rides-stay-requires c = (search halves_read, search rules)

pub close-requires : goal.close-requires
close-requires c = (search old_fits, search (some_fit, rules), search rules, search rules)

pub close-requires-2 : goal.close-requires-2
close-requires-2 c = let parted = c.part_rides-stay.ensures in (
  new_fits _ _ _ _ c.requires.0 c.read-count.ensures.number parted c.close.auto.bytes,
  some_fit _ _ _ _ c.requires.0 c.read-count.ensures.number (omega arith),
  search rules,
  search rules,
)

pub returns : goal.returns
returns c = halved_done _ _ _ _ c.requires.0 c.read-count.ensures.number c.part_rides-stay.ensures _ c.close.ensures
    c.close-2.ensures
