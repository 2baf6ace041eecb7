-- `commands::line_end` searches what follows a place.
use Rattle.std.proofs.Common.{rules}
use Rattle.lines.specs.Bytes.{line_feed}
use Rattle.commands.specs.Text.Pieces.{place_none, place_found}
use Rattle.commands.proofs.line_end.Goals as goal

pub returns-in-Some : goal.returns-in-Some
returns-in-Some c = let (few, hit, none) = c.in-Some.ensures in
    place_found line_feed c.args.input.now c.args.from c.requires few hit none

pub returns-in-None : goal.returns-in-None
returns-in-None c = search (rules, place_none)
