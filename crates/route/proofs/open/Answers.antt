-- `route::open` judges in the replies' order, and hands on what it read; each way out is a law of its own.
use Rattle.std.proofs.lemmas.Result.{err_from_is_err_and}
use Rattle.layout.specs.Replies.Refused.{number_some}
use Rattle.route.specs.Way.Open.{refusal_caller, refusal_there, refusal_header, refusal_state, refusal_image}
use Rattle.route.specs.Way.Open.{refusal_ahead, refusal_none, refusal_opens}
use Rattle.route.proofs.open.Goals as goal

pub returns-in_err-caller_refusal-clause-refused : goal.returns-in_err-caller_refusal-clause-refused
returns-in_err-caller_refusal-clause-refused c =
    let p = err_from_is_err_and c.from_residual.result c.from_residual.ensures.1 in
    rw (p.1, p.2) (search (refusal_caller, number_some, c.in_err-caller_refusal.ensures))

pub returns-in_default-clause-refused : goal.returns-in_default-clause-refused
returns-in_default-clause-refused c =
    search (refusal_header, c.in_ok-caller_refusal.ensures, c.in_default.ensures)

pub image_of-image-requires : goal.image_of-image-requires
image_of-image-requires c = search (refusal_there, c.in_ok-caller_refusal.ensures)

pub buckets-requires : goal.buckets-requires
buckets-requires c = search (refusal_state, c.in_ok-caller_refusal.ensures, c.in-Some.ensures)

pub buckets-requires-2 : goal.buckets-requires-2
buckets-requires-2 c = search (refusal_image, c.in_ok-caller_refusal.ensures, c.in-Some.ensures)

pub returns-then-ahead-clause-refused : goal.returns-then-ahead-clause-refused
returns-then-ahead-clause-refused c = search (refusal_ahead, c.in_ok-caller_refusal.ensures, c.in-Some.ensures)

pub returns-clause-opened : goal.returns-clause-opened
returns-clause-opened c = search (refusal_opens, c.in_ok-caller_refusal.ensures, c.in-Some.ensures)

pub returns-clause-refused : goal.returns-clause-refused
returns-clause-refused c = search (refusal_none, c.in_ok-caller_refusal.ensures, c.in-Some.ensures)
