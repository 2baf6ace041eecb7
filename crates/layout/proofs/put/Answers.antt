-- `layout::put`: after k turns the first k bytes of the source stand at the place.
use Rattle.layout.specs.Bytes.Edit.{copy_more, copy_done}
use Rattle.layout.proofs.put.Goals as goal

pub loop-k-preserved : goal.loop-k-preserved
loop-k-preserved c = (copy_more _ _ _ _ _ c.requires c.loop-k-test.true c.loop-k.auto.bytes c.loop-k.invariant).2

pub returns : goal.returns
returns c = copy_done _ _ _ _ _ c.loop-k.auto.k-end c.loop-k-test.false c.loop-k.invariant
