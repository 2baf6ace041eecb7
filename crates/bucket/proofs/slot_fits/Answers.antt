-- `bucket::slot_fits`: the mark and the key's bucket, by what was read.
use Rattle.bucket.specs.Region.Judge.{used_read}
use Rattle.bucket.proofs.slot_fits.Goals as goal

pub returns : goal.returns
returns c = search used_read
