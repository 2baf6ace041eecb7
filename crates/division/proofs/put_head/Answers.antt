-- `division::put_head` writes the mark, then the figures behind it: a head's bytes.
use Rattle.std.proofs.Common.{rules}
use Rattle.bucket.specs.Region.Encode.{head_written}
use Rattle.division.proofs.put_head.Goals as goal

pub returns : goal.returns
returns c = search (head_written, rules)
