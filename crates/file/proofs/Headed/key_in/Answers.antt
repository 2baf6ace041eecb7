-- `file::Headed::key_in` reads the key in the bucket's own region.
use Prim.Native.Nat.{◌<◌}
use native.Mathlib.Omega.{arith}
use Rattle.file.specs.File.Region.{known_slot}
use Rattle.file.proofs.Headed.key_in.Goals as goal

pub key_at-requires : goal.key_at-requires
key_at-requires c = let a = c.args in
    let few : a.slot < a.self.now.header.slots = search known_slot in
    (omega arith, omega arith)
