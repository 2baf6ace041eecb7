-- `scan::first_unsound`: the lowest one where the client believes in it; otherwise the best of those that are left is
-- the best of all, turn by turn.
use Rattle.file.specs.File.Region.{known_below}
use Rattle.scan.specs.Scan.Unsound.{searching_next, searching_done, lowest_first}
use Rattle.scan.specs.Scan.Unsound.{believed_some}
use Rattle.scan.specs.Scan.Way.{starting_image_room}
use Rattle.scan.proofs.first_unsound.Goals as goal

pub buckets-believed-requires : goal.buckets-believed-requires
buckets-believed-requires c = search starting_image_room

pub returns-then-lowest-believed : goal.returns-then-lowest-believed
returns-then-lowest-believed c = search lowest_first

pub better-best-requires : goal.better-best-requires
better-best-requires c = (search known_below, search believed_some)

pub loop-next-preserved : goal.loop-next-preserved
loop-next-preserved c = search searching_next

pub returns : goal.returns
returns c = search searching_done
