-- `bucket::find`: the place in the range at which the test passes first is the slot itself.
use Rattle.std.proofs.Common.{rules, ◌∙◌, eqb, refl, arith}
use borrow.Author.Tests.{tests}
use Rattle.std.proofs.lemmas.Iterator.{YieldsList-from_range}
use Rattle.std.proofs.lemmas.Iterator.Search.{position_from_yields_List}
use Rattle.bucket.specs.Region.{key_at}
use Rattle.bucket.specs.Region.Single.{found_position}
use Rattle.bucket.proofs.find.Goals as goal

pub returns : goal.returns
returns c = let a = c.args in
    position_from_yields_List (λ k. eqb (key_at a.region.now k) a.key) _ _ _ c.position.ensures.ran
    (YieldsList-from_range 0 a.count a.count refl (omega arith)) (λ x b q k. search (rules, tests))
    ∙ found_position a.region.now a.count a.key
