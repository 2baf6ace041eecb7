-- `address::onward` goes by the rule's cases: the nearer hash lies between the bucket and the farther one, or it does
-- not.
use Rattle.std.proofs.Common.{arith}
use Rattle.address.specs.Rules.Cases.{sent_near, sent_level, sent_past}
use Rattle.address.proofs.onward.Goals as goal

pub returns-then-near-far : goal.returns-then-near-far
returns-then-near-far c = search sent_near

pub returns : goal.returns
returns c = grind (arith, sent_level, sent_past)
