-- `order::fill_visits`: the list holds all messages sent so far, of which the first ones are handled; each turn handles
-- one and writes what it sends. Once all buckets have had their turn, the visits stand in the list.
use Rattle.order.specs.Queue.{Visiting}
use Rattle.order.proofs.fill_visits.Given as goal

abbrev pub invariant-loop-handled : goal.invariant-loop-handled
invariant-loop-handled l = Visiting l.state l.image l.initial.queue l.initial.tail l.queue l.tail l.handled
