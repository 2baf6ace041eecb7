-- What a region holds, ride by ride: a slot in use holds its ride, and a search by key finds the one ride of that key,
-- if there is any.
use Rattle.std.specs.Prelude.{ℕ, zero, suc, ◌+◌, ◌*◌, ◌-◌, ◌<◌, ◌≡◌, refl, Bool, true, not, ◌⊎◌, ◌↔◌, eqb, length}
use Rattle.std.specs.Prelude.{replicate}
use Rattle.std.proofs.Common.{sym, ap, subst, ◌∙◌, true≢false, inl, inr, ⊎_elim, add-zero, zero-add, arith, eq-eqb}
use mathlib.Core.List.Memᴰ
use mathlib.Core.List.{List, [], ◌∷◌, ◌++◌, Memᴰ}
use Rattle.layout.specs.Bytes.{Bytes, le_bytes}
use Rattle.layout.specs.Bytes.Edit.{append_bytes, zeros_bytes}
use Rattle.layout.specs.Bytes.Numbers.{le_bytes_bytes}
use Rattle.layout.specs.Bytes.Tests.{and_left, and_right}
use Rattle.bucket.specs.Region.{Ride, Whole, bucket_mark, slot_mark, count_of, ride_at, rides_from, rides_of, keys_of}
use Rattle.bucket.specs.Region.{every, distinct, slot_of, head_bytes, slot_bytes, slots_bytes, lay_out, encode}
use Rattle.bucket.specs.Region.Keep.{slot_holds, fresh}
use Rattle.bucket.specs.Region.Rides.{AllWhole}

-- a slot in use is among the rides
from_at : (region : List ℕ) (k c i : ℕ) → i < c → Memᴰ (ride_at region (k + i)) (rides_from region k c)
unfolding rides_from
from_at region k zero i h = absurd (omega arith)
from_at region k (suc c) zero h = Memᴰ.head (ap (ride_at region) (add-zero k))
from_at region k (suc c) (suc i) h = Memᴰ.tail
    (subst (λ (j : ℕ). Memᴰ (ride_at region j) (rides_from region (suc k) c)) moved
    (from_at region (suc k) c i (omega arith)))
  where
    moved : suc k + i ≡ k + suc i
    moved = omega arith

pub slot_held : (region : List ℕ) (k : ℕ) → k < count_of region → Memᴰ (ride_at region k) (rides_of region)
unfolding rides_of
slot_held region k h = subst (λ (j : ℕ). Memᴰ (ride_at region j) (rides_from region 0 (count_of region))) (zero-add k)
    (from_at region 0 (count_of region) k h)

-- a ride among those whose keys all pass a test passes it
pub held_passes : (test : ℕ → Bool) (rides : List Ride) (ride : Ride) → every test (keys_of rides) ≡ true
    → Memᴰ ride rides → test ride.key ≡ true
unfolding every keys_of
held_passes test [] ride all m = absurd (Memᴰ.not-nil m)
held_passes test (first ∷ rides) ride all m = ⊎_elim
    (λ e. ap (λ (r : Ride). test r.key) e ∙ and_left (test first.key) (every test (keys_of rides)) all)
    (held_passes test rides ride (and_right (test first.key) (every test (keys_of rides)) all))
    (Memᴰ.cases_cons m)

pub held_whole : (rides : List Ride) (ride : Ride) → AllWhole rides → Memᴰ ride rides → Whole ride
held_whole [] ride all m = absurd (Memᴰ.not-nil m)
held_whole (first ∷ rides) ride all m =
    ⊎_elim (λ e. subst Whole (sym e) all.0) (held_whole rides ride all.1) (Memᴰ.cases_cons m)

-- where no key stands twice, two rides of one key are the same ride
pub held_single : (rides : List Ride) (one two : Ride) → distinct (keys_of rides) ≡ true → Memᴰ one rides
    → Memᴰ two rides → one.key ≡ two.key → one ≡ two
unfolding distinct keys_of
held_single [] one two single m n e = absurd (Memᴰ.not-nil m)
held_single (first ∷ rides) one two single m n e = ⊎_elim
    (λ here. ⊎_elim (λ there. here ∙ sym there)
    (λ later. absurd (apart two later (ap (λ (r : Ride). r.key) (sym here) ∙ e))) (Memᴰ.cases_cons n))
    (λ rest. ⊎_elim (λ there. absurd (apart one rest (ap (λ (r : Ride). r.key) (sym there) ∙ sym e)))
    (λ later. held_single rides one two
    (and_right (every (λ other. not (eqb first.key other)) (keys_of rides)) _ single) rest later e)
    (Memᴰ.cases_cons n))
    (Memᴰ.cases_cons m)
  where
    apart : (ride : Ride) → Memᴰ ride rides → first.key ≡ ride.key → ⊥
    apart ride rest same = true≢false
        (sym (held_passes (λ other. not (eqb first.key other)) rides ride
        (and_left _ (distinct (keys_of rides)) single) rest)
        ∙ ap not (eq-eqb first.key ride.key same))

-- a key that is found: just the ride of its slot has it
pub found_held : (region : List ℕ) (ride : Ride) → distinct (keys_of (rides_of region)) ≡ true
    → slot_of region ride.key < count_of region
    → Memᴰ ride (rides_of region) ↔ (ride_at region (slot_of region ride.key)).payload ≡ ride.payload
unfolding ride_at
found_held region ride single found =
    (λ m. ap (λ (r : Ride). r.payload) (held_single (rides_of region) there ride single held m same), back)
  where
    there : Ride
    there = ride_at region (slot_of region ride.key)

    held : Memᴰ there (rides_of region)
    held = slot_held region (slot_of region ride.key) found

    same : there.key ≡ ride.key
    same = slot_holds region ride.key found

    back : there.payload ≡ ride.payload → Memᴰ ride (rides_of region)
    back e = subst (λ (r : Ride). Memᴰ r (rides_of region)) (λ i. record { key = same i; payload = e i }) held

-- a key that is not found is no ride's
pub absent_held : (region : List ℕ) (ride : Ride) → slot_of region ride.key ≡ count_of region
    → Memᴰ ride (rides_of region) → ⊥
absent_held region ride none m = true≢false
    (sym (held_passes (λ other. not (eqb other ride.key)) (rides_of region) ride (fresh region ride.key none) m)
    ∙ ap not (eq-eqb ride.key ride.key refl))

-- one ride more
pub held_more : (rides : List Ride) (one ride : Ride)
    → Memᴰ ride (rides ++ (one ∷ [])) ↔ (Memᴰ ride rides ⊎ (ride ≡ one))
held_more rides one ride = (there rides, ⊎_elim (before rides) (last rides))
  where
    there : (rides : List Ride) → Memᴰ ride (rides ++ (one ∷ [])) → Memᴰ ride rides ⊎ (ride ≡ one)
    there [] m = ⊎_elim inr (λ n. absurd (Memᴰ.not-nil n)) (Memᴰ.cases_cons m)
    there (first ∷ rides) m = ⊎_elim (λ e. inl (Memᴰ.head e))
        (λ n. ⊎_elim (λ h. inl (Memᴰ.tail h)) inr (there rides n)) (Memᴰ.cases_cons m)

    before : (rides : List Ride) → Memᴰ ride rides → Memᴰ ride (rides ++ (one ∷ []))
    before [] m = absurd (Memᴰ.not-nil m)
    before (first ∷ rides) m = ⊎_elim Memᴰ.head (λ n. Memᴰ.tail (before rides n)) (Memᴰ.cases_cons m)

    last : (rides : List Ride) → ride ≡ one → Memᴰ ride (rides ++ (one ∷ []))
    last [] e = Memᴰ.head e
    last (first ∷ rides) e = Memᴰ.tail (last rides e)

-- an encoding of whole rides is bytes
pair_bytes : (x y : ℕ) → x < 256 → y < 256 → Bytes (x ∷ y ∷ [])
pair_bytes x y hx hy zero = hx
pair_bytes x y hx hy (suc zero) = hy
pair_bytes x y hx hy (suc (suc k)) = omega arith

slots_bytes_lem : (rides : List Ride) → AllWhole rides → Bytes (slots_bytes rides)
unfolding slots_bytes slot_bytes
slots_bytes_lem [] all = λ k. omega arith
slots_bytes_lem (ride ∷ rides) all = append_bytes (slot_mark ++ le_bytes 8 ride.key ++ ride.payload) (slots_bytes rides)
    (append_bytes slot_mark (le_bytes 8 ride.key ++ ride.payload) (pair_bytes 76 82 (omega arith) (omega arith))
    (append_bytes (le_bytes 8 ride.key) ride.payload (le_bytes_bytes 8 ride.key) all.0.bytes))
    (slots_bytes_lem rides all.1)

pub encode_bytes : (S j : ℕ) (rides : List Ride) → j < 256 → AllWhole rides → Bytes (encode S j rides)
unfolding encode lay_out head_bytes
encode_bytes S j rides low all = append_bytes (bucket_mark ++ (j ∷ 0 ∷ []) ++ le_bytes 2 (length rides) ++ (0 ∷ 0 ∷ []))
    (slots_bytes rides ++ free)
    (append_bytes bucket_mark ((j ∷ 0 ∷ []) ++ le_bytes 2 (length rides) ++ (0 ∷ 0 ∷ []))
    (pair_bytes 76 66 (omega arith) (omega arith))
    (append_bytes (j ∷ 0 ∷ []) (le_bytes 2 (length rides) ++ (0 ∷ 0 ∷ [])) (pair_bytes j 0 low (omega arith))
    (append_bytes (le_bytes 2 (length rides)) (0 ∷ 0 ∷ []) (le_bytes_bytes 2 (length rides)) (zeros_bytes 2))))
    (append_bytes (slots_bytes rides) free (slots_bytes_lem rides all) (zeros_bytes (24 * (S - length rides))))
  where
    free : List ℕ
    free = replicate (24 * (S - length rides)) 0
