-- `division::part_rides`: the rides so far are parted; each turn writes one behind both groups and counts it to one.
use Rattle.std.proofs.Common.{◌≡◌, ◌∙◌, refl, ap, Bool, true, false, cond}
use Rattle.std.specs.Int.{from_bool}
use Rattle.address.specs.Rules.{keeps}
use Rattle.address.specs.Rules.Cases.{keeps_is}
use Rattle.bucket.specs.Region.Divide.{parted_none, part_next}
use Rattle.division.proofs.part_rides.Goals as goal

-- a ride that stays counts as one
one_is : (kept : Bool) → from_bool kept ≡ cond kept 1 0
one_is true = refl
one_is false = refl

pub loop-k-init : goal.loop-k-init
loop-k-init c = let a = c.args in
    parted_none (keeps a.home.first a.home.bucket a.home.level) a.bytes.now a.slots a.old a.new a.count

pub loop-k-preserved : goal.loop-k-preserved
loop-k-preserved c = part_next _ _ _ _ _ _ _ _ c.requires.0 c.loop-k.invariant c.loop-k-test.true
    c.read-key.ensures.number refl c.copy_slot.ensures c.copy_slot-in-loop-k.ensures
    (c.from-stay.ensures ∙ one_is _ ∙ ap (λ (b : Bool). cond b 1 0) (c.keeps-kept.ensures ∙ keeps_is _ _ _ _))
