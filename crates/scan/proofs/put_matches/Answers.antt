-- `scan::put_matches`: the matches of the buckets that are left, written behind those that stand there, make the whole
-- write.
use Rattle.scan.specs.Scan.Fill.{write_few, write_room, write_more, write_done}
use Rattle.scan.specs.Scan.Notes.{noted_sound}
use Rattle.scan.specs.Scan.Way.{way_exists}
use Rattle.scan.proofs.put_matches.Goals as goal

pub put_bucket-filled-requires : goal.put_bucket-filled-requires
put_bucket-filled-requires c =
    (search way_exists, search (noted_sound, way_exists), search write_few, search write_room)

pub loop-visit-preserved : goal.loop-visit-preserved
loop-visit-preserved c = search write_more

pub returns : goal.returns
returns c = search write_done
