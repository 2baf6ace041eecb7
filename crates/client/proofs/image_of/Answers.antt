-- `client::image_of`: level and pointer are read where they stand.
use Rattle.client.specs.Table.Laws.{image_read}
use Rattle.client.proofs.image_of.Goals as goal

pub returns : goal.returns
returns c = search image_read
