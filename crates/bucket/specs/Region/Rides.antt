-- Lists of rides and of their keys: one ride more, how often a key stands in them, and the rides that a test keeps.
use Rattle.std.specs.Prelude.{ℕ, suc, ◌+◌, ◌≤◌, ◌≡◌, refl, Bool, true, false, cond, not, ◌&&◌, List, [], ◌∷◌, ◌++◌, eqb}
use Rattle.std.specs.Prelude.{length}
use Rattle.std.proofs.Common.{sym, ap, ap₂, ◌∙◌, ⊎_elim, arith, eq-eqb}
use Rattle.address.specs.Compare.{same}
use Rattle.address.specs.Rules.Scan.{times, times_none, times_here, times_there}
use Rattle.layout.specs.Bytes.Tests.{and_left, and_right, and_both}
use Rattle.bucket.specs.Region.{Ride, Whole, keys_of, every, distinct, kept}
use Rattle.bucket.specs.Region.Every.{every_append, every_times}

-- Each ride is whole.
abbrev pub AllWhole : List Ride → Type 0
AllWhole [] = Unit {0}
AllWhole (ride ∷ rides) = Whole ride × AllWhole rides

pub whole_append : (rides : List Ride) (ride : Ride) → AllWhole rides → Whole ride → AllWhole (rides ++ (ride ∷ []))
whole_append [] ride all one = (one, tt)
whole_append (first ∷ rides) ride all one = (all.0, whole_append rides ride all.1 one)

pub keys_append : (rides : List Ride) (ride : Ride) → keys_of (rides ++ (ride ∷ [])) ≡ keys_of rides ++ (ride.key ∷ [])
unfolding keys_of
keys_append [] ride = refl
keys_append (first ∷ rides) ride = ap (λ (keys : List ℕ). first.key ∷ keys) (keys_append rides ride)

-- two tests that agree, and a test that follows from another
-- one key more at the end is distinct from all
pub distinct_append : (keys : List ℕ) (key : ℕ)
    → distinct (keys ++ (key ∷ [])) ≡ (distinct keys && every (λ other. not (eqb other key)) keys)
unfolding distinct every
distinct_append [] key = refl
distinct_append (first ∷ keys) key =
    ap₂ ◌&&◌ (every_append (λ other. not (eqb first other)) keys key) (distinct_append keys key)
    ∙ go (every (λ other. not (eqb first other)) keys) (not (eqb first key)) (distinct keys)
    (every (λ other. not (eqb other key)) keys)
  where
    go : (a b c d : Bool) → (a && b && (c && d)) ≡ (a && c && (b && d))
    go true true c d = refl
    go true false true d = refl
    go true false false d = refl
    go false b c d = refl

-- a key that fails a test which all pass stands nowhere among them, and distinct keys stand there once at the most
pub distinct_times : (keys : List ℕ) (key : ℕ) → distinct keys ≡ true → times key keys ≤ 1
unfolding distinct
distinct_times [] key single = omega (arith, times_none key)
distinct_times (first ∷ keys) key single = ⊎_elim
    (λ e. omega (
      arith,
      times_here key first keys e,
      every_times (λ other. not (eqb first other)) keys key (and_left _ (distinct keys) single)
          (ap not (eq-eqb first key (sym e))),
    ))
    (λ e. omega (
      arith,
      times_there key first keys e,
      distinct_times keys key (and_right (every (λ other. not (eqb first other)) keys) (distinct keys) single),
    ))
    (same key first)

-- ---- what a test keeps

pub kept_in : (test : ℕ → Bool) (ride : Ride) (rides : List Ride) → test ride.key ≡ true
    → kept test (ride ∷ rides) ≡ ride ∷ kept test rides
unfolding kept
kept_in test ride rides h = rw h

pub kept_out : (test : ℕ → Bool) (ride : Ride) (rides : List Ride) → test ride.key ≡ false
    → kept test (ride ∷ rides) ≡ kept test rides
unfolding kept
kept_out test ride rides h = rw h

-- a property of lists of rides that a kept ride and a left-out ride both carry on
pub kept_ind : (test : ℕ → Bool) (ride : Ride) (rides : List Ride) (P : List Ride → Type 0)
    → (test ride.key ≡ true → P (ride ∷ kept test rides)) → (test ride.key ≡ false → P (kept test rides))
    → P (kept test (ride ∷ rides))
kept_ind test ride rides P in-it left_out = go (test ride.key) refl
  where
    go : (b : Bool) → test ride.key ≡ b → P (kept test (ride ∷ rides))
    go true e = rw (kept_in test ride rides e) (in-it e)
    go false e = rw (kept_out test ride rides e) (left_out e)

pub kept_whole : (test : ℕ → Bool) (rides : List Ride) → AllWhole rides → AllWhole (kept test rides)
unfolding kept
kept_whole test [] all = tt
kept_whole test (ride ∷ rides) all =
    kept_ind test ride rides AllWhole (λ h. (all.0, kept_whole test rides all.1))
    (λ h. kept_whole test rides all.1)

-- what passed a test still passes it, and what is kept passes the test that kept it
pub kept_every : (test f : ℕ → Bool) (rides : List Ride) → every f (keys_of rides) ≡ true
    → every f (keys_of (kept test rides)) ≡ true
unfolding kept keys_of every
kept_every test f [] h = refl
kept_every test f (ride ∷ rides) h =
    kept_ind test ride rides (λ list. every f (keys_of list) ≡ true)
    (λ e. and_both (f ride.key) (every f (keys_of (kept test rides)))
    (and_left (f ride.key) (every f (keys_of rides)) h)
    (kept_every test f rides (and_right (f ride.key) (every f (keys_of rides)) h)))
    (λ e. kept_every test f rides (and_right (f ride.key) (every f (keys_of rides)) h))

pub kept_passes : (test : ℕ → Bool) (rides : List Ride) → every test (keys_of (kept test rides)) ≡ true
unfolding kept keys_of every
kept_passes test [] = refl
kept_passes test (ride ∷ rides) =
    kept_ind test ride rides (λ list. every test (keys_of list) ≡ true)
    (λ e. and_both (test ride.key) (every test (keys_of (kept test rides))) e (kept_passes test rides))
    (λ e. kept_passes test rides)

-- distinct keys stay distinct
pub kept_distinct : (test : ℕ → Bool) (rides : List Ride) → distinct (keys_of rides) ≡ true
    → distinct (keys_of (kept test rides)) ≡ true
unfolding kept keys_of distinct
kept_distinct test [] h = refl
kept_distinct test (ride ∷ rides) h =
    kept_ind test ride rides (λ list. distinct (keys_of list) ≡ true)
    (λ e. and_both (every (λ other. not (eqb ride.key other)) (keys_of (kept test rides)))
    (distinct (keys_of (kept test rides)))
    (kept_every test (λ other. not (eqb ride.key other)) rides (and_left _ (distinct (keys_of rides)) h))
    (kept_distinct test rides
    (and_right (every (λ other. not (eqb ride.key other)) (keys_of rides)) (distinct (keys_of rides)) h)))
    (λ e. kept_distinct test rides
    (and_right (every (λ other. not (eqb ride.key other)) (keys_of rides)) (distinct (keys_of rides)) h))

-- what one test keeps and what the other does are as many as there were
pub kept_lengths : (test : ℕ → Bool) (rides : List Ride)
    → length (kept test rides) + length (kept (λ key. not (test key)) rides) ≡ length rides
unfolding kept
kept_lengths test [] = refl
kept_lengths test (ride ∷ rides) = go (kept_lengths test rides) (test ride.key) refl
  where
    go : length (kept test rides) + length (kept (λ key. not (test key)) rides) ≡ length rides
        → (b : Bool) → test ride.key ≡ b
        → length (kept test (ride ∷ rides)) + length (kept (λ key. not (test key)) (ride ∷ rides)) ≡ suc (length rides)
    go rest true e = rw e (omega arith)
    go rest false e = rw e (omega arith)

-- one ride more at the end
pub kept_append : (test : ℕ → Bool) (rides : List Ride) (ride : Ride)
    → kept test (rides ++ (ride ∷ [])) ≡ kept test rides ++ cond (test ride.key) (ride ∷ []) []
unfolding kept
kept_append test [] ride = refl
kept_append test (first ∷ rides) ride = go (kept_append test rides ride) (test first.key) refl
  where
    go : kept test (rides ++ (ride ∷ [])) ≡ kept test rides ++ cond (test ride.key) (ride ∷ []) []
        → (b : Bool) → test first.key ≡ b
        → kept test ((first ∷ rides) ++ (ride ∷ []))
        ≡ kept test (first ∷ rides) ++ cond (test ride.key) (ride ∷ []) []
    go rest true e = rw e (ap (λ (list : List Ride). first ∷ list) rest)
    go rest false e = rw e rest
