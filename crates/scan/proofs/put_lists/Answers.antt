-- `scan::put_lists`: the start of the visit list, once it is filled, is the way whose matches are written.
use Rattle.std.proofs.Common.{rules}
use Rattle.scan.specs.Scan.Way.{starting_scannable, starting_fits, starting_written, starting_prefix}
use Rattle.scan.specs.Scan.Way.{starting_way}
use Rattle.scan.specs.Scan.Way.{starting_cut, starting_room, starting_matches, starting_count}
use Rattle.scan.proofs.put_lists.Goals as goal

pub fill_visits-requires : goal.fill_visits-requires
fill_visits-requires c = (search starting_scannable, search starting_fits)

pub slice_bounds-put_matches-end : goal.slice_bounds-put_matches-end
slice_bounds-put_matches-end c = search starting_prefix

pub slice_bounds-put_matches-end-2 : goal.slice_bounds-put_matches-end-2
slice_bounds-put_matches-end-2 c = search starting_cut

pub put_matches-requires : goal.put_matches-requires
put_matches-requires c = (search starting_way, search rules, search starting_room)

pub returns : goal.returns
returns c = (search starting_count, search starting_written, search starting_matches)
