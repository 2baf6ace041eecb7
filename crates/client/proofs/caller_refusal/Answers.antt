-- `client::caller_refusal` judges in the replies' order; each way out is a law of its own.
use Rattle.std.proofs.lemmas.Result.{err_from_is_err_and}
use Rattle.layout.specs.Replies.Refused.{number_some}
use Rattle.client.specs.Table.Laws.{table_fits}
use Rattle.client.specs.Table.Caller.{caller_table, caller_record, caller_fine}
use Rattle.client.proofs.caller_refusal.Goals as goal

pub returns-in_err-table_refusal : goal.returns-in_err-table_refusal
returns-in_err-table_refusal c =
    let p = err_from_is_err_and c.from_residual.result c.from_residual.ensures.1 in
    rw (p.1, p.2) (search (caller_table, number_some, c.in_err-table_refusal.ensures))

pub record_formed-requires : goal.record_formed-requires
record_formed-requires c = search (table_fits, c.in_ok-table_refusal.ensures)

pub image_of-requires : goal.image_of-requires
image_of-requires c = search (table_fits, c.in_ok-table_refusal.ensures)

pub returns-then-not-sound : goal.returns-then-not-sound
returns-then-not-sound c = search (caller_record, c.in_ok-table_refusal.ensures)

pub returns : goal.returns
returns c = search (caller_fine, c.in_ok-table_refusal.ensures)
