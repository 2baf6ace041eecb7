-- `turn::run_line` goes by the command that the line is.
use Rattle.std.proofs.Common.{rules}
use Rattle.turn.specs.Session.Laws.{split_room, insert_room, search_room, scan_room, line_done, line_unknown}
use Rattle.turn.proofs.run_line.Goals as goal

pub run_split-requires : goal.run_split-requires
run_split-requires c = search split_room

pub run_insert-requires : goal.run_insert-requires
run_insert-requires c = search insert_room

pub run_search-requires : goal.run_search-requires
run_search-requires c = search search_room

pub run_scan-requires : goal.run_scan-requires
run_scan-requires c = search scan_room

pub returns-in-Split : goal.returns-in-Split
returns-in-Split c = let told = c.run_split.ensures c.args.table.now in search (rules, line_done)

pub returns-in-Insert : goal.returns-in-Insert
returns-in-Insert c = search (rules, line_done)

pub returns-in-Search : goal.returns-in-Search
returns-in-Search c = search (rules, line_done)

pub returns-in-Scan : goal.returns-in-Scan
returns-in-Scan c = search (rules, line_done)

pub returns-in-Unknown : goal.returns-in-Unknown
returns-in-Unknown c = search (rules, line_unknown)
