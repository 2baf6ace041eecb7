-- How often a key stands among the matches of a way: a key of the lift as often as in its own bucket, any other never.
-- A sound bucket holds only keys that have it as their address, so a key stands in its own bucket alone, which the way
-- visits once.
use Prim.Native.Nat.{ℕ, ◌+◌, ◌≤◌, ◌<◌}
use Rattle.std.specs.Prelude.{◌≡◌, refl, Bool, true, false, not, List, [], ◌∷◌, ◌++◌, ltb}
use Rattle.std.proofs.Common.{sym, ◌∙◌, true≢false, arith, eq-eqb, ne_eqb, lt-ltb, le-ltb}
use Rattle.std.proofs.Math.Path.{ap}
use Rattle.std.proofs.Math.Bool.{cond}
use Rattle.std.proofs.Math.Logic.{⊎_elim}
use Rattle.std.proofs.Math.Dec.{eqb}
use Rattle.address.specs.Compare.{below, same}
use Rattle.address.specs.Limits.{first_buckets}
use Rattle.address.specs.Rules.{address}
use Rattle.address.specs.Rules.Scan.{times, times_none, times_here, times_there}
use Rattle.bucket.specs.Region.{count_of, rides_of, keys_of, slot_of, every}
use Rattle.bucket.specs.Region.Keep.{keys_at, slot_holds, slot_most, fresh}
use Rattle.bucket.specs.Region.Rides.{distinct_times}
use Rattle.bucket.specs.Region.Every.{every_times, every_first, every_next}
use Rattle.file.specs.File.{state_of, region_of, bucket_sound_in}
use Rattle.file.specs.File.Write.{bucket_shown}
use Rattle.route.specs.Way.{held}
use Rattle.route.specs.Way.Own.{held_is, own_is}
use Rattle.scan.specs.Scan.{of_lift, matching, keys_in, matches_on}
use Rattle.scan.specs.Scan.Tally.{match_in, match_out, match_none, matches_first, matches_none, keys_in_count}
use Rattle.scan.specs.Scan.Way.{times_at}

-- ---- how often a key stands among the matches

times_append : (x : ℕ) (xs ys : List ℕ) → times x (xs ++ ys) ≡ times x xs + times x ys
times_append x [] ys = omega (arith, times_none x)
times_append x (y ∷ xs) ys = ⊎_elim
    (λ e. omega (arith, times_here x y (xs ++ ys) e, times_here x y xs e, times_append x xs ys))
    (λ e. omega (arith, times_there x y (xs ++ ys) e, times_there x y xs e, times_append x xs ys))
    (same x y)

match_times : (lift key : ℕ) → of_lift lift key ≡ true → (keys : List ℕ)
    → times key (matching lift keys) ≡ times key keys
match_times lift key match [] = ap (times key) (match_none lift)
match_times lift key match (x ∷ keys) = go (of_lift lift x) refl (match_times lift key match keys)
  where
    go : (b : Bool) → of_lift lift x ≡ b → times key (matching lift keys) ≡ times key keys
        → times key (matching lift (x ∷ keys)) ≡ times key (x ∷ keys)
    go true e rest = ap (times key) (match_in lift x keys e) ∙ ⊎_elim
        (λ h. omega (arith, times_here key x (matching lift keys) h, times_here key x keys h, rest))
        (λ h. omega (arith, times_there key x (matching lift keys) h, times_there key x keys h, rest))
        (same key x)
    go false e rest = ap (times key) (match_out lift x keys e) ∙ rest
        ∙ sym (times_there key x keys (λ h. true≢false (sym match ∙ ap (of_lift lift) h ∙ e)))

match_other : (lift key : ℕ) → of_lift lift key ≡ false → (keys : List ℕ) → times key (matching lift keys) ≡ 0
match_other lift key other [] = ap (times key) (match_none lift) ∙ times_none key
match_other lift key other (x ∷ keys) = go (of_lift lift x) refl (match_other lift key other keys)
  where
    go : (b : Bool) → of_lift lift x ≡ b → times key (matching lift keys) ≡ 0 → times key (matching lift (x ∷ keys)) ≡ 0
    go true e rest = ap (times key) (match_in lift x keys e)
        ∙ times_there key x (matching lift keys) (λ h. true≢false (sym e ∙ ap (of_lift lift) (sym h) ∙ other)) ∙ rest
    go false e rest = ap (times key) (match_out lift x keys e) ∙ rest

-- ---- a key in the buckets of a way

module _ (file : List ℕ) (key : ℕ) where
  abbrev pub own : ℕ
  own = address first_buckets (state_of file) key

  -- a sound bucket that is not the key's own does not hold it, and its own holds it once at the most
  pub elsewhere : (a : ℕ) → bucket_sound_in file a ≡ true → (own ≡ a → ⊥) → times key (keys_in file a) ≡ 0
  unfolding keys_in
  elsewhere a sound other = every_times (λ k. eqb (address first_buckets (state_of file) k) a)
      (keys_of (rides_of (region_of file a))) key (bucket_shown file a sound).belong (ne_eqb own a other)

  pub once : (a : ℕ) → bucket_sound_in file a ≡ true → times key (keys_in file a) ≤ 1
  unfolding keys_in
  once a sound = distinct_times (keys_of (rides_of (region_of file a))) key (bucket_shown file a sound).single

  -- what search and insert take for held is what stands in the key's own bucket
  pub held_times : bucket_sound_in file own ≡ true → times key (keys_in file own) ≡ cond (held file key) 1 0
  unfolding keys_in
  held_times sound = ⊎_elim
      (λ h. there h ∙ ap (λ (b : Bool). cond b 1 0) (sym (lt-ltb slot count h) ∙ is_held))
      (λ h. absent h ∙ ap (λ (b : Bool). cond b 1 0) (sym (le-ltb slot count h) ∙ is_held))
      (below slot count)
    where
      slot : ℕ
      slot = slot_of (region_of file own) key

      count : ℕ
      count = count_of (region_of file own)

      is_held : ltb slot count ≡ held file key
      is_held = held_is file key own (sym (own_is file key own refl)) slot count refl refl

      there : slot < count → times key (keys_of (rides_of (region_of file own))) ≡ 1
      there h = omega (
        arith,
        once own sound,
        times_at (keys_in file own) slot (omega (arith, h, keys_in_count file own)),
        ap (λ (k : ℕ). times k (keys_in file own))
            (keys_at (region_of file own) slot h ∙ slot_holds (region_of file own) key h),
      )

      absent : count ≤ slot → times key (keys_of (rides_of (region_of file own))) ≡ 0
      absent h = every_times (λ other. not (eqb other key)) (keys_of (rides_of (region_of file own))) key
          (fresh (region_of file own) key (omega (arith, h, slot_most (region_of file own) key)))
          (ap not (eq-eqb key key refl))

  module _ (lift : ℕ) where
    pub other_times : of_lift lift key ≡ false → (way : List ℕ) → times key (matches_on file lift way) ≡ 0
    other_times other [] = ap (times key) (matches_none file lift) ∙ times_none key
    other_times other (a ∷ way) = omega (
      arith,
      ap (times key) (matches_first file lift a way),
      times_append key (matching lift (keys_in file a)) (matches_on file lift way),
      match_other lift key other (keys_in file a),
      other_times other way,
    )

    module _ (match : of_lift lift key ≡ true) where
      first_times : (a : ℕ) (way : List ℕ)
          → times key (matches_on file lift (a ∷ way))
          ≡ times key (keys_in file a) + times key (matches_on file lift way)
      first_times a way = omega (
        arith,
        ap (times key) (matches_first file lift a way),
        times_append key (matching lift (keys_in file a)) (matches_on file lift way),
        match_times lift key match (keys_in file a),
      )

      unvisited : (way : List ℕ) → every (bucket_sound_in file) way ≡ true → times own way ≡ 0
          → times key (matches_on file lift way) ≡ 0
      unvisited [] fine none = ap (times key) (matches_none file lift) ∙ times_none key
      unvisited (a ∷ way) fine none =
          let sound = every_first (bucket_sound_in file) a way fine in
          ⊎_elim
          (λ e. absurd (omega (arith, times_here own a way e)))
          (λ e. omega (
            arith,
            first_times a way,
            elsewhere a sound e,
            unvisited way (sym (every_next (bucket_sound_in file) a way sound) ∙ fine)
                (sym (times_there own a way e) ∙ none),
          ))
          (same own a)

      pub visited : (way : List ℕ) → every (bucket_sound_in file) way ≡ true → times own way ≡ 1
          → times key (matches_on file lift way) ≡ times key (keys_in file own)
      visited [] fine one = absurd (omega (arith, times_none own))
      visited (a ∷ way) fine one =
          let sound = every_first (bucket_sound_in file) a way fine in
          let rest = sym (every_next (bucket_sound_in file) a way sound) ∙ fine in
          ⊎_elim
          (λ e. omega (
            arith,
            first_times a way,
            ap (λ (b : ℕ). times key (keys_in file b)) e,
            unvisited way rest (omega (arith, times_here own a way e)),
          ))
          (λ e. omega (
            arith,
            first_times a way,
            elsewhere a sound e,
            visited way rest (sym (times_there own a way e) ∙ one),
          ))
          (same own a)
