-- `address::fate_at` meets the three fates in turn: unsound, kept, sent on.
use Rattle.std.proofs.Common.{arith}
use Rattle.address.specs.Rules.Cases.{fate_unsound, fate_keep, fate_send}
use Rattle.address.proofs.fate_at.Goals as goal

pub returns-then-not-sound : goal.returns-then-not-sound
returns-then-not-sound c = grind (arith, fate_unsound)

pub returns-then-hash-bucket : goal.returns-then-hash-bucket
returns-then-hash-bucket c = grind (arith, fate_keep)

pub returns : goal.returns
returns c = grind (arith, fate_send)
