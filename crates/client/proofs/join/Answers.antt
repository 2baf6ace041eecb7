-- `client::join` passes on a refusal, or writes (0, 0) over the record.
use native.Mathlib.Omega.{arith}
use Rattle.std.proofs.lemmas.Result.{err_from_is_err_and}
use Rattle.layout.specs.Replies.Refused.{number_some}
use Rattle.client.specs.Table.Laws.{table_fits, join_refused, join_done}
use Rattle.client.proofs.join.Goals as goal

pub returns-in_err-table_refusal : goal.returns-in_err-table_refusal
returns-in_err-table_refusal c =
    let p = err_from_is_err_and c.from_residual.result c.from_residual.ensures.1 in
    rw (p.1, p.2) (search (join_refused, number_some, c.in_err-table_refusal.ensures))

pub put_image-requires : goal.put_image-requires
put_image-requires c = (search (table_fits, c.in_ok-table_refusal.ensures), omega arith, omega arith)

pub returns : goal.returns
returns c = search (join_done, c.in_ok-table_refusal.ensures)
