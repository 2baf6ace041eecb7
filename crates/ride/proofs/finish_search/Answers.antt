-- `ride::finish_search` adjusts the image and writes the block, with the payload where the key is held.
use Rattle.ride.specs.Call.After.{held_low}
use Rattle.ride.specs.Call.Replied.{search_found, search_absent}
use Rattle.std.proofs.Common.{rules}
use Rattle.ride.proofs.finish_search.Goals as goal

pub put_found-requires : goal.put_found-requires
put_found-requires c = search (rules, held_low)

pub returns-then-found : goal.returns-then-found
returns-then-found c = search search_found

pub returns : goal.returns
returns c = search search_absent
