-- `scan::judge_all`: the buckets before are sound and noted, and their matches and those of the buckets that are left
-- are all; it ends at the first unsound bucket.
use Rattle.std.proofs.Common.{rules}
use Rattle.file.specs.File.Region.{known_below}
use Rattle.scan.specs.Scan.Tally.{tally_stop, tally_sound, tally_few, tally_more, tally_done}
use Rattle.scan.proofs.judge_all.Goals as goal

pub bucket_sound-requires : goal.bucket_sound-requires
bucket_sound-requires c = search known_below

pub returns-then-not-bucket_sound : goal.returns-then-not-bucket_sound
returns-then-not-bucket_sound c = search tally_stop

pub match_bits-matching-requires : goal.match_bits-matching-requires
match_bits-matching-requires c = (search known_below, search tally_sound)

pub overflow_add-matches : goal.overflow_add-matches
overflow_add-matches c = record { fits = search tally_few }

pub loop-bucket-preserved : goal.loop-bucket-preserved
loop-bucket-preserved c = (search rules, search tally_more)

pub returns : goal.returns
returns c = search tally_done
