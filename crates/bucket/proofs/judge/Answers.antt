-- `bucket::judge` tests head, slots and unused bytes in turn; the first that fails makes the region unsound. The key's
-- slot comes from the slots' pass.
use Rattle.std.proofs.Common.{rules}
use Rattle.bucket.specs.Region.Told.{head_unsound, count_within, count_most, slots_unsound, count_few, rest_judged}
use Rattle.bucket.proofs.judge.Goals as goal

pub returns-then-not-head_sound : goal.returns-then-not-head_sound
returns-then-not-head_sound c = search head_unsound

pub rest_zero-requires : goal.rest_zero-requires
rest_zero-requires c = (search rules, search rules, search count_few)

pub slots_sound-requires : goal.slots_sound-requires
slots_sound-requires c = (search count_within, search count_most)

pub returns-in_err-place : goal.returns-in_err-place
returns-in_err-place c = search (slots_unsound, c.in_err-place.was)

pub returns : goal.returns
returns c = search (rest_judged, c.in_ok-place.was)
