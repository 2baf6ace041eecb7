-- `client::record_formed` tests the mark and the zero bytes of the record.
use Rattle.client.specs.Table.Laws.{record_judged}
use Rattle.client.proofs.record_formed.Goals as goal

pub returns : goal.returns
returns c = search record_judged
