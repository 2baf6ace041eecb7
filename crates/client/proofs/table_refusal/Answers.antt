-- `client::table_refusal` tests the length and then the number, in the replies' order.
use mathlib.Core.Path.{refl, sym, ◌∙◌}
use Rattle.client.specs.Table.Laws.{length_flag, refused_length, refused_client, not_refused}
use Rattle.client.proofs.table_refusal.Goals as goal

pub returns-then-not-fits : goal.returns-then-not-fits
returns-then-not-fits c = let a = c.args in
    sym (refused_length a.table.now a.client
    (sym (length_flag a.table.now a.client _ refl) ∙ c.if-not-fits.true))

pub returns-then-client-clients : goal.returns-then-client-clients
returns-then-client-clients c = let a = c.args in
    sym (not_refused a.table.now a.client
    (sym (length_flag a.table.now a.client _ refl) ∙ c.if-not-fits.false) c.if-client-clients.true)

pub returns : goal.returns
returns c = let a = c.args in
    sym (refused_client a.table.now a.client
    (sym (length_flag a.table.now a.client _ refl) ∙ c.if-not-fits.false) c.if-client-clients.false)
