-- `lines::Text::put_ride` reads reply, count and buckets from the block and writes the line of their answer.
use Rattle.std.proofs.Common.{rules}
use Rattle.lines.specs.Lines.Written.{ride_wrote}
use Rattle.lines.proofs.Text.put_ride.Goals as goal

pub returns : goal.returns
returns c = search (rules, ride_wrote)
