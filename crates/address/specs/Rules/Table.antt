-- P1 to P10 of document 01, together, over the definitions. All but P8 are computed; P8 holds for any key since every
-- key is 0 mod 1.
use Rattle.std.specs.Prelude.{ℕ, ◌≡◌, refl, List, [], ◌∷◌}
use Rattle.std.proofs.Math.Nat.{mod-one}
use Rattle.address.specs.declared.Image.{Image}
use Rattle.address.specs.Rules.{«at», span, buckets, hash, address, level, keeps, onward, fate, wrapped, adjusted}
use Rattle.address.specs.Rules.{image_after, child, splitting, newborn, grown, following, route_from, route}
use Rattle.address.specs.Rules.{numbers, opening, sends, answers, handled, messages, visits, greatest, last_round}
use Rattle.address.specs.Rules.{top_span, parent}

-- A key sent in a file by a client: its route, and the client's image afterwards.
abbrev pub Sending : Image → Image → ℕ → List ℕ → Image → Type 0
Sending file image C buckets after = (route 1 file image C ≡ buckets) × (image_after 1 file image C ≡ after)

pub record Examples : Type 0 where
  pub p1 : Sending («at» 2 2) («at» 0 0) 5 (0 ∷ 1 ∷ 5 ∷ []) («at» 2 1)
  pub p2 : Sending («at» 2 2) («at» 2 1) 5 (1 ∷ 5 ∷ []) («at» 2 2)
  pub p3 : Sending («at» 2 2) («at» 2 2) 5 (5 ∷ []) («at» 2 2)
  pub p4 : Sending («at» 2 1) («at» 0 0) 7 (0 ∷ 3 ∷ []) («at» 2 1)
  pub p5 : Sending («at» 3 0) («at» 2 3) 7 (3 ∷ 7 ∷ []) («at» 3 0)
  pub p6 : visits 1 («at» 2 2) («at» 1 1) ≡ 0 ∷ 1 ∷ 2 ∷ 4 ∷ 3 ∷ 5 ∷ []
  pub p7 : (visits 1 («at» 3 0) («at» 0 0) ≡ 0 ∷ 1 ∷ 2 ∷ 4 ∷ 3 ∷ 5 ∷ 6 ∷ 7 ∷ [])
      × (last_round 1 («at» 3 0) («at» 0 0) ≡ 3)
  pub p8 : (C : ℕ) → route 1 («at» 0 0) («at» 0 0) C ≡ 0 ∷ []
  pub p9 : parent 1 5 ≡ 1
  pub p10 : (splitting («at» 1 1) ≡ 1) × (newborn 1 («at» 1 1) ≡ 3) × (grown 1 («at» 1 1) ≡ «at» 2 0)

pub examples : Examples
unfolding span buckets hash address level keeps onward fate wrapped adjusted image_after child newborn grown following
    route_from route numbers opening sends answers handled messages visits greatest last_round top_span parent
examples = record {
  p1 = (refl, refl);
  p2 = (refl, refl);
  p3 = (refl, refl);
  p4 = (refl, refl);
  p5 = (refl, refl);
  p6 = refl;
  p7 = (refl, refl);
  p8 = λ C. simp mod-one;
  p9 = refl;
  p10 = (refl, refl, refl);
}
