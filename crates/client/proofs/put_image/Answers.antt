-- `client::put_image` writes the mark, then the figures behind it: the image's bytes.
use Rattle.std.proofs.Common.{rules}
use Rattle.client.specs.Table.Laws.{image_written}
use Rattle.client.proofs.put_image.Goals as goal

pub returns : goal.returns
returns c = search (image_written, rules)
