-- The bad bucket that a scan visits first, found in number order: the first is before every other bad bucket, so none
-- takes its place once it is reached, and it takes the place of any.
use Prim.Native.Nat.{ℕ, zero, suc, ◌+◌, ◌-◌, ◌≤◌, ◌<◌}
use Rattle.std.specs.Prelude.{◌≡◌, Bool, true, false, cond, ◌&&◌, List, [], ◌∷◌, ◌⊎◌}
use Rattle.std.proofs.Math.Path.{refl, ap}
use Rattle.std.proofs.Common.{sym, ◌∙◌, inl, inr, ltb-true}
use Rattle.std.proofs.Math.Logic.{⊎_elim}
use native.Mathlib.Omega.{arith}
use Rattle.address.specs.Compare.{below, same}
use Rattle.address.specs.declared.Image.{Image}
use Rattle.address.specs.Rules.{Formed, NotAhead, buckets, visits, earlier}
use Rattle.address.proofs.Rules.Scan.{visits_once, visits_only}
use Rattle.address.specs.Rules.Earlier.{first_believed, earlier_number, earlier_self, earlier_refutes, AllOf}
use Rattle.address.proofs.Rules.Earlier.{visits_each, visits_ordered}
use Rattle.address.specs.Rules.First.{first_of, first_none, first_there, differ, First, first_leads, better}
use Rattle.address.specs.Rules.First.{best_from, best_zero, best_suc}

module _ (N : ℕ) (positive : 0 < N) (file : Image) (formed : Formed N file)
    (image : Image) (image_formed : Formed N image) (behind : NotAhead N file image) where
  module _ (bad : ℕ → Bool) (none : ℕ) where
    -- no bad bucket
    pub first_fine : ((x : ℕ) → x < buckets N file → bad x ≡ false) → first_of bad none (visits N file image) ≡ none
    first_fine fine = go (visits N file image)
        (visits_each N positive file formed image image_formed behind (λ x. bad x ≡ false) fine)
      where
        go : (xs : List ℕ) → AllOf (λ x. bad x ≡ false) xs → first_of bad none xs ≡ none
        go [] e = first_none bad none
        go (x ∷ xs) e = first_there bad none x xs e.0 ∙ go xs e.1

    module _ (lowest : ℕ) (exists : lowest < buckets N file) (is-bad : bad lowest ≡ true)
        (is-lowest : (x : ℕ) → x < lowest → bad x ≡ false) where
      abbrev found : ℕ
      found = first_of bad none (visits N file image)

      leading : (x : ℕ) → x < buckets N file → bad x ≡ true
          → First bad none N (buckets N image) (visits N file image) x found
      leading x there b = first_leads bad none N (buckets N image) (visits N file image) x
          (visits_ordered N positive file formed image image_formed behind) b
          (omega (arith, visits_once N positive file formed image image_formed behind x there))

      found_bad : bad found ≡ true
      found_bad = (leading lowest exists is-bad).passes

      found_exists : found < buckets N file
      found_exists = ⊎_elim (λ h. h)
          (λ past. absurd (omega (
            arith,
            (leading lowest exists is-bad).stands,
            visits_only N positive file formed image image_formed behind found past,
          )))
          (below found (buckets N file))

      found_higher : lowest ≤ found
      found_higher = ⊎_elim
          (λ h. absurd (differ bad none found found found_bad (is-lowest found h) refl))
          (λ h. h)
          (below found lowest)

      -- once found it is kept
      kept : (next : ℕ) → next < buckets N file → better N (buckets N image) bad found next ≡ found
      kept next there = go (bad next) refl
        where
          not_before : bad next ≡ true → earlier N (buckets N image) next found ≡ false
          not_before b = ⊎_elim
              (λ e. ap (λ (x : ℕ). earlier N (buckets N image) x found) (sym e)
              ∙ earlier_self N positive (buckets N image)
              (first_believed N image) found)
              (earlier_refutes N positive (buckets N image)
              (first_believed N image) found next)
              (leading next there b).leads

          go : (b : Bool) → bad next ≡ b → better N (buckets N image) bad found next ≡ found
          go true e = rw (e, not_before e)
          go false e = rw e

      -- and it is taken when its turn comes
      taken : (best : ℕ) → best < buckets N file → bad best ≡ true → better N (buckets N image) bad best found ≡ found
      taken best there b = ⊎_elim
          (λ e. rw (← e) (kept found found_exists))
          before
          (leading best there b).leads
        where
          before : earlier N (buckets N image) found best ≡ true → better N (buckets N image) bad best found ≡ found
          before e = rw (found_bad, e)

      either_kept : (P : ℕ → Type 0) (best next : ℕ) → P best → (bad next ≡ true → P next)
          → P (better N (buckets N image) bad best next)
      either_kept P best next old new = go (bad next) (earlier N (buckets N image) next best) refl
        where
          go : (b e : Bool) → bad next ≡ b → P (cond (b && e) next best)
          go true true h = new h
          go true false h = old
          go false e h = old

      to_found : (c next best : ℕ) → next + c ≡ buckets N file → best < buckets N file → bad best ≡ true
          → (best ≡ found) ⊎ (next ≤ found) → best_from N (buckets N image) bad c next best ≡ found
      to_found zero next best all there b (inl e) = best_zero N (buckets N image) bad next best ∙ e
      to_found zero next best all there b (inr h) = absurd (omega (arith, found_exists))
      to_found (suc c) next best all there b (inl e) = best_suc N (buckets N image) bad c next best
          ∙ rw (e, kept next (omega arith))
          (to_found c (suc next) found (omega arith) found_exists found_bad (inl refl))
      to_found (suc c) next best all there b (inr h) = best_suc N (buckets N image) bad c next best ∙ ⊎_elim
          (λ e. ap (best_from N (buckets N image) bad c (suc next))
          (ap (better N (buckets N image) bad best) e ∙ taken best there b)
          ∙ to_found c (suc next) found (omega arith) found_exists found_bad (inl refl))
          (λ e. either_kept (λ x. best_from N (buckets N image) bad c (suc next) x ≡ found) best next
          (to_found c (suc next) best (omega arith) there b (inr (omega (arith, e))))
          (λ n. to_found c (suc next) next (omega arith) (omega arith) n (inr (omega (arith, e)))))
          (same next found)

      -- keeping the better from the lowest bad bucket on ends at the first bad one in visit order
      pub first_visited :
          best_from N (buckets N image) bad (buckets N file - (lowest + 1)) (lowest + 1) lowest
          ≡ first_of bad none (visits N file image)
      first_visited = to_found (buckets N file - (lowest + 1)) (lowest + 1) lowest (omega arith) exists is-bad
          (⊎_elim inl (λ e. inr (omega (arith, e, found_higher))) (same lowest found))

      -- if the lowest bad bucket is believed in, it is the first
      pub first_lowest : lowest < buckets N image → first_of bad none (visits N file image) ≡ lowest
      first_lowest believed = ⊎_elim (λ e. e)
          (λ e. absurd (omega (
            arith,
            found_higher,
            ltb-true found lowest
                (sym (earlier_number N positive (buckets N image)
                (first_believed N image) found lowest (inr (inl believed)))
                ∙ e),
          )))
          (leading lowest exists is-bad).leads
