-- `upkeep::create` refuses figures that do not fit, or writes the created file.
use Rattle.file.specs.File.Create.{create_fits, create_refused, create_done}
use Rattle.upkeep.proofs.create.Goals as goal

pub returns-then-not-figures_fit : goal.returns-then-not-figures_fit
returns-then-not-figures_fit c = search create_refused

pub put_file-requires : goal.put_file-requires
put_file-requires c = search create_fits

pub returns : goal.returns
returns c = search create_done
