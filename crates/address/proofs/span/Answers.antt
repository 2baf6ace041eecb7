-- `address::span` shifts; the span is at most 2^24, so no bit is lost.
use Rattle.std.proofs.Common.{arith}
use Rattle.address.specs.Room.{span_room, span_shift}
use Rattle.address.specs.Rules.Hash.{span_pos}
use Rattle.address.proofs.span.Goals as goal

pub returns : goal.returns
returns c = grind (arith, span_shift, span_pos, span_room)
