-- `load::decide` asks in turn whether the bucket is overfull, a split due and room for it.
use Rattle.load.specs.Load.Decision.{decide_below, decide_not, decide_no_room, decide_done}
use Rattle.load.proofs.decide.Goals as goal

pub returns-then-count-header : goal.returns-then-count-header
returns-then-count-header c = search decide_below

pub returns-then-not-due : goal.returns-then-not-due
returns-then-not-due c = search decide_not

pub returns-then-header-buckets : goal.returns-then-header-buckets
returns-then-header-buckets c = search decide_no_room

pub returns : goal.returns
returns c = search decide_done
