-- `upkeep::put_file` writes zeros, the header over them and the first bucket's region: the created file.
use Rattle.file.specs.File.Create.{created_written}
use Rattle.upkeep.proofs.put_file.Goals as goal

pub returns : goal.returns
returns c = let a = c.args in
    created_written a.capacity a.slots a.most a.file.now c.requires c.clear.ensures
    c.put_figures.ensures c.renew.ensures
