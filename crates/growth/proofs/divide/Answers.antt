-- `growth::divide` divides the two regions and writes the grown state: the divided file.
use Rattle.file.specs.File.Split.{old_low, new_low, grown_level, grown_pointer, still_headed}
use Rattle.layout.specs.Bytes.{Bytes}
use Rattle.file.specs.File.Split.{split_halves, split_written}
use Rattle.std.proofs.Common.{rules, ℕ, get_or, Fits, w8}
use Rattle.growth.proofs.divide.Goals as goal

pub start-from-requires : goal.start-from-requires
start-from-requires c = (search rules, search old_low)

pub start-to-requires : goal.start-to-requires
start-to-requires c = (search rules, search new_low)

pub divide-requires : goal.divide-requires
divide-requires c =
    let fits : (k : ℕ) → Fits w8 (get_or c.args.file.now k 0) = search rules in
    let bytes : Bytes c.args.file.now = λ k. (fits k).fits in
    (search split_halves, search rules)

pub put_state-requires : goal.put_state-requires
put_state-requires c = (search still_headed, search grown_level, search grown_pointer)

pub returns : goal.returns
returns c =
    let fits : (k : ℕ) → Fits w8 (get_or c.args.file.now k 0) = search rules in
    let bytes : Bytes c.args.file.now = λ k. (fits k).fits in
    search split_written
