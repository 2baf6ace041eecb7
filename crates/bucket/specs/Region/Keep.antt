-- What searching, placing and dividing keep: a key is found exactly where it is held, a fresh ride that belongs leaves
-- a bucket sound, and what a division gives a bucket is sound there: just those rides that pass its test.
use Rattle.std.specs.Prelude.{ℕ, zero, suc, ◌+◌, ◌≤◌, ◌<◌, ◌≡◌, refl, Bool, true, cond, not, eqb, length, get_or}
use Rattle.std.proofs.Common.{sym, ap, ap₂, ◌∙◌, ⊎_elim, add-zero, zero-add, arith, eq-eqb, eqb-true, length-append}
use mathlib.Core.List.Memᴰ
use mathlib.Core.List.{List, [], ◌∷◌, ◌++◌, Memᴰ}
use Rattle.std.proofs.lemmas.List.{length-map}
use Rattle.address.specs.declared.Image.{Image}
use Rattle.address.specs.Rules.{Formed, buckets, address, level, keeps}
use Rattle.layout.specs.Bytes.{Bytes, first_from}
use Rattle.layout.specs.Bytes.Tests.{and_left, and_right, and_both, first_within, first_passes, first_before}
use Rattle.bucket.specs.Region.{Ride, Whole, slot_at, count_of, key_at, ride_at, rides_from, rides_of, keys_of, every}
use Rattle.bucket.specs.Region.{distinct, sound_with, bucket_sound, slot_of, encode, kept}
use Rattle.bucket.specs.Region.Rides.{AllWhole, whole_append, keys_append, distinct_append}
use Rattle.bucket.specs.Region.Every.{every_append}
use Rattle.bucket.specs.Region.Rides.{kept_whole, kept_passes, kept_distinct, kept_lengths, kept_in, kept_ind}
use Rattle.bucket.specs.Region.Judge.{fresh_from}
use Rattle.bucket.specs.Region.Sound.{Parts, length_rides, sound_count, sound_whole, encode_sound, bucket_judged}
use Rattle.bucket.specs.Region.Sound.{bucket_parts}

-- the keys of the slots, one by one
key_at_lem : (region : List ℕ) (k c i : ℕ) → i < c
    → get_or (keys_of (rides_from region k c)) i 0 ≡ key_at region (k + i)
unfolding rides_from keys_of ride_at
key_at_lem region k zero i h = absurd (omega arith)
key_at_lem region k (suc c) zero h = ap (key_at region) (sym (add-zero k))
key_at_lem region k (suc c) (suc i) h = key_at_lem region (suc k) c i (omega arith) ∙ ap (key_at region) moved
  where
    moved : suc k + i ≡ k + suc i
    moved = omega arith

pub keys_at : (region : List ℕ) (k : ℕ) → k < count_of region → get_or (keys_of (rides_of region)) k 0 ≡ key_at region k
unfolding rides_of
keys_at region k h = key_at_lem region 0 (count_of region) k h ∙ ap (key_at region) (zero-add k)

pub keys_count : (region : List ℕ) → length (keys_of (rides_of region)) ≡ count_of region
unfolding keys_of rides_of
keys_count region = length-map (rides_from region 0 (count_of region)) (λ ride. ride.key)
    ∙ length_rides region 0 (count_of region)

-- the slot of a key, as a search from the first slot on finds it
pub slot_is : (region : List ℕ) (key : ℕ)
    → first_from (λ k. eqb (key_at region k) key) (count_of region) 0 ≡ slot_of region key
unfolding slot_of
slot_is region key = refl

-- a slot is found within the count, and it holds the key unless it is the count
pub slot_most : (region : List ℕ) (key : ℕ) → slot_of region key ≤ count_of region
unfolding slot_of
slot_most region key = omega (arith, first_within (λ k. eqb (key_at region k) key) (count_of region) 0)

pub slot_holds : (region : List ℕ) (key : ℕ) → slot_of region key < count_of region
    → key_at region (slot_of region key) ≡ key
unfolding slot_of
slot_holds region key h = eqb-true _ _ (first_passes (λ k. eqb (key_at region k) key) (count_of region) 0 (omega arith))

-- a key that no slot holds is fresh
pub fresh : (region : List ℕ) (key : ℕ) → slot_of region key ≡ count_of region
    → every (λ other. not (eqb other key)) (keys_of (rides_of region)) ≡ true
unfolding slot_of rides_of
fresh region key e = fresh_from region key 0 (count_of region)
    (λ i low high. first_before (λ k. eqb (key_at region k) key) (count_of region) 0 i low (omega (arith, e)))

-- a fresh ride that belongs, placed in a sound bucket that has room, leaves it sound
pub placed_sound : (S j : ℕ) (own : ℕ → Bool) (region : List ℕ) → Bytes region → length region ≡ slot_at S → S < 65536
    → Parts S j own region
    → (ride : Ride) → Whole ride → own ride.key ≡ true → slot_of region ride.key ≡ count_of region
    → count_of region < S
    → sound_with S j own (encode S j (rides_of region ++ (ride ∷ []))) ≡ true
placed_sound S j own region bytes long small sound ride whole belongs new room =
    encode_sound S j (rides_of region ++ (ride ∷ [])) (whole_append (rides_of region) ride all whole)
    (omega (arith, length-append (rides_of region) (ride ∷ []), sound_count S j own region bytes long sound)) small own
    ∙ and_both _ _
    (ap (every own) (keys_append (rides_of region) ride) ∙ every_append own (keys_of (rides_of region)) ride.key
    ∙ and_both _ _ sound.belong belongs)
    (ap distinct (keys_append (rides_of region) ride) ∙ distinct_append (keys_of (rides_of region)) ride.key
    ∙ and_both _ _ sound.single (fresh region ride.key new))
  where
    all : AllWhole (rides_of region)
    all = sound_whole S j own region bytes long sound

-- so too for a bucket of a state
pub bucket_placed : (N : ℕ) (s : Image) (S a : ℕ) (region : List ℕ) → Bytes region → length region ≡ slot_at S
    → S < 65536 → bucket_sound N s S a region ≡ true
    → (ride : Ride) → Whole ride → address N s ride.key ≡ a → slot_of region ride.key ≡ count_of region
    → count_of region < S
    → bucket_sound N s S a (encode S (level N s a) (rides_of region ++ (ride ∷ []))) ≡ true
unfolding bucket_sound
bucket_placed N s S a region bytes long small sound ride whole own new room =
    placed_sound S (level N s a) (λ key. eqb (address N s key) a) region bytes long small
    (bucket_parts N s S a region sound) ride whole (eq-eqb _ _ own) new room

-- what a division gives a bucket is sound there
pub divided_sound : (S j : ℕ) (own : ℕ → Bool) (rides : List Ride) → AllWhole rides → length rides ≤ S → S < 65536
    → distinct (keys_of rides) ≡ true
    → sound_with S j own (encode S j (kept own rides)) ≡ true
divided_sound S j own rides whole few small single =
    encode_sound S j (kept own rides) (kept_whole own rides whole) (omega (arith, kept_lengths own rides)) small own
    ∙ and_both _ _ (kept_passes own rides) (kept_distinct own rides single)

-- so too for a bucket of a state, which keeps the keys whose h_j is its own number
pub bucket_divided : (N : ℕ) → 0 < N → (s : Image) → Formed N s → (S a j : ℕ) → a < buckets N s → level N s a ≡ j
    → (rides : List Ride) → AllWhole rides → length rides ≤ S → S < 65536 → distinct (keys_of rides) ≡ true
    → bucket_sound N s S a (encode S j (kept (keeps N a j) rides)) ≡ true
bucket_divided N positive s formed S a j exists e rides whole few small single =
    bucket_judged N positive s formed S a exists (encode S j (kept (keeps N a j) rides))
    ∙ ap (λ (k : ℕ). sound_with S k (keeps N a k) (encode S j (kept (keeps N a j) rides))) e
    ∙ divided_sound S j (keeps N a j) rides whole few small single

-- a bucket whose level a change of state leaves alone is judged as before
pub bucket_alike : (N : ℕ) → 0 < N → (s t : Image) → Formed N s → Formed N t → (S a : ℕ) → a < buckets N s
    → a < buckets N t → level N t a ≡ level N s a
    → (region : List ℕ) → bucket_sound N t S a region ≡ bucket_sound N s S a region
bucket_alike N positive s t fs ft S a es et e region =
    bucket_judged N positive t ft S a et region ∙ ap (λ (k : ℕ). sound_with S k (keeps N a k) region) e
    ∙ sym (bucket_judged N positive s fs S a es region)

-- two tests that agree on all the keys keep the same rides
pub kept_agree : (all f g : ℕ → Bool) (rides : List Ride) → every all (keys_of rides) ≡ true
    → ((key : ℕ) → all key ≡ true → f key ≡ g key) → kept f rides ≡ kept g rides
unfolding keys_of every kept
kept_agree all f g [] h same = refl
kept_agree all f g (ride ∷ rides) h same =
    ap₂ (λ (b : Bool) (l : List Ride). cond b (ride ∷ l) l) (same ride.key (and_left _ _ h))
    (kept_agree all f g rides (and_right (all ride.key) (every all (keys_of rides)) h) same)

-- what is kept was there, and what was there and passes the test is kept
pub kept_member : (test : ℕ → Bool) (rides : List Ride) (ride : Ride) → Memᴰ ride (kept test rides)
    → Memᴰ ride rides
unfolding kept
kept_member test [] ride = λ m. m
kept_member test (first ∷ rides) ride =
    kept_ind test first rides (λ list. Memᴰ ride list → Memᴰ ride (first ∷ rides))
    (λ e m. ⊎_elim Memᴰ.head (λ rest. Memᴰ.tail (kept_member test rides ride rest)) (Memᴰ.cases_cons m))
    (λ e m. Memᴰ.tail (kept_member test rides ride m))

pub member_kept : (test : ℕ → Bool) (rides : List Ride) (ride : Ride) → Memᴰ ride rides → test ride.key ≡ true
    → Memᴰ ride (kept test rides)
member_kept test [] ride m h = absurd (Memᴰ.not-nil m)
member_kept test (first ∷ rides) ride m h = ⊎_elim here
    (λ rest. kept_ind test first rides (λ list. Memᴰ ride list)
    (λ e. Memᴰ.tail (member_kept test rides ride rest h)) (λ e. member_kept test rides ride rest h))
    (Memᴰ.cases_cons m)
  where
    here : ride ≡ first → Memᴰ ride (kept test (first ∷ rides))
    here e = rw (kept_in test first rides same) (Memᴰ.head e)
      where
        same : test first.key ≡ true
        same = ap (λ (r : Ride). test r.key) (sym e) ∙ h
