-- `layout::write`: what is put is the number's first bytes.
use Rattle.layout.specs.Bytes.Words.{first_put}
use Rattle.layout.proofs.write.Goals as goal

pub returns : goal.returns
returns g c = search first_put
