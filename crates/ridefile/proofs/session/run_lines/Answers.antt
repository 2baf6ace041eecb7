-- `ridefile::session::run_lines` goes line by line: what is written so far, and what the rest prints, stays the whole.
use Rattle.std.proofs.Common.{rules, ap, length}
use Rattle.turn.specs.Session.Laws.{printing_none, printing_more, printing_rest, printing_done, rest_room}
use Rattle.turn.specs.Session.Laws.{line_end_room}
use Rattle.ridefile.proofs.session.run_lines.Goals.{then-from-input, else-from-input}
use Rattle.ridefile.proofs.session.run_lines.Goals as goal

pub loop-end-init : goal.loop-end-init
loop-end-init c = let a = c.args in
    let start = printing_none a.input.now a.file.now a.table.now c.new-text.result.out.now in
    search rules

pub run_line-requires : goal.run_line-requires
run_line-requires c = line_end_room c.loop-end.invariant.0 c.requires (ap length c.new-text.ensures.bytes)
    c.in-Some.ensures.1 c.in-Some.ensures.2

pub loop-end-preserved : goal.loop-end-preserved
loop-end-preserved c = (search (rules, printing_more), search rules)

pub put_unknown-requires : goal.put_unknown-requires
put_unknown-requires c = rest_room c.loop-end.invariant.0 c.requires (ap length c.new-text.ensures.bytes)
    c.if-from-input.true

pub returns : goal.returns
returns c = elim c.if-from-input.branch [
  | then-from-input w ↦
      let last = printing_rest c.loop-end.invariant.0 w.if-from-input.true c.in_default.ensures
      w.put_unknown.ensures.wrote in
      search rules
  | else-from-input w ↦
      let last = printing_done c.loop-end.invariant.0 w.if-from-input.false in
      search rules
]
