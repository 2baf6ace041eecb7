-- `ridefile::session::run`: the file that create told, the table that four joins told, and the lines run on them.
use Rattle.turn.specs.Session.Laws.{printed_is}
use Rattle.ridefile.proofs.session.run.Goals as goal

pub returns : goal.returns
returns c = search printed_is
