-- `order::fill_visits`: the list holds all messages sent so far, of which the first ones are handled; each turn handles
-- one and writes what it sends. Once all buckets have had their turn, the visits stand in the list.
use Rattle.order.specs.Queue.{first_written, next_written}
use Rattle.order.specs.Queue.{visiting_start, visiting_told, visiting_fits, visiting_sends, visiting_next}
use Rattle.order.specs.Queue.{visiting_done}
use Rattle.order.proofs.fill_visits.Goals as goal

pub loop-handled-init : goal.loop-handled-init
loop-handled-init c = search (visiting_start, first_written)

pub overflow_sub-end : goal.overflow_sub-end
overflow_sub-end c = search visiting_told

pub slice_bounds-send_on-end : goal.slice_bounds-send_on-end
slice_bounds-send_on-end c = search visiting_fits

pub send_on-requires : goal.send_on-requires
send_on-requires c = search visiting_sends

pub loop-handled-preserved : goal.loop-handled-preserved
loop-handled-preserved c = search (visiting_next, next_written)

pub returns : goal.returns
returns c = search (visiting_done, first_written)
