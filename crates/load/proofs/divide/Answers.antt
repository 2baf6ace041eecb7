-- `load::divide` divides bucket n, which is sound, with a region that is zero.
use Rattle.load.specs.Load.Own.{divisible_old}
use Rattle.std.proofs.Common.{rules}
use Rattle.load.proofs.divide.Goals as goal

pub divide-requires : goal.divide-requires
divide-requires c = (search rules, search rules, search rules, search rules, search divisible_old)
