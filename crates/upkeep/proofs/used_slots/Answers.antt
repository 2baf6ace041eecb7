-- `upkeep::used_slots` reads a sound bucket's count and cuts that many slots out of the file: the view.
use Rattle.file.specs.File.Region.{view_fits, view_used}
use Rattle.upkeep.proofs.used_slots.Goals as goal

pub slice_bounds-result-end : goal.slice_bounds-result-end
slice_bounds-result-end c = search view_fits

pub returns : goal.returns
returns c = search view_used
