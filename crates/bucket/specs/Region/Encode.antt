-- The bytes of a list of rides: how long they are, one ride more, another count, and that what is laid out is read
-- back.
use Prim.Native.Nat.{ℕ, zero, suc, ◌+◌, ◌*◌, ◌-◌, ◌/◌, ◌%◌, ◌≤◌, ◌<◌}
use Rattle.std.specs.Prelude.{◌≡◌, true, drop}
use Rattle.std.proofs.Math.Path.{refl, sym, ap, ap₂}
use Rattle.std.proofs.Common.{◌∙◌, add-zero, eq-eqb, drop-drop, get_or-drop}
use mathlib.Core.List.{List, [], ◌∷◌, ◌++◌, append_assoc, append-nil}
use native.Mathlib.Omega.{arith}
use Rattle.std.proofs.Math.ListN.{length, get_or, replicate, length-append, length-replicate}
use Rattle.std.proofs.lemmas.List.{replicate-append-replicate}
use Rattle.std.proofs.Math.Seq.{drop_at}
use Rattle.layout.specs.Bytes.{le_at, le_bytes, edit, part}
use Rattle.layout.specs.Bytes.Tests.{and_both}
use Rattle.layout.specs.Bytes.Edit.{edit_next, edit_seam, part_seam, part_drop}
use Rattle.layout.specs.Bytes.Numbers.{length_le_bytes, le_bytes_two, le_back, le_seam, le_drop}
use Rattle.bucket.specs.Region.{Ride, Whole, bucket_mark, slot_mark, slot_at, count_of, level_of, head_formed}
use Rattle.bucket.specs.Region.{slot_used}
use Rattle.bucket.specs.Region.{key_at}
use Rattle.bucket.specs.Region.{ride_at, rides_from, head_bytes, slot_bytes, slots_bytes, lay_out, encode}
use Rattle.bucket.specs.Region.Rides.{AllWhole, whole_append}

pub head_is : (j count : ℕ) → head_bytes j count ≡ 76 ∷ 66 ∷ j ∷ 0 ∷ count % 256 ∷ count / 256 % 256 ∷ 0 ∷ 0 ∷ []
unfolding head_bytes
head_is j count = rw (le_bytes_two count)

-- a head is written as its mark and its figures
pub head_written : (bytes : List ℕ) (at j count : ℕ) → at + 8 ≤ length bytes → {one two : List ℕ}
    → one ≡ edit at bucket_mark bytes
    → two ≡ edit (at + 2) (j ∷ 0 ∷ count % 256 ∷ count / 256 % 256 ∷ 0 ∷ 0 ∷ []) one
    → two ≡ edit at (head_bytes j count) bytes
head_written bytes at j count fits e f = f ∙ ap (edit (at + 2) _) e ∙ edit_next at bucket_mark _ bytes fits
    ∙ ap (λ (l : List ℕ). edit at l bytes) (sym (head_is j count))

pub length_head : (j count : ℕ) → length (head_bytes j count) ≡ 8
length_head j count = rw (head_is j count)

pub length_slot : (ride : Ride) → Whole ride → length (slot_bytes ride) ≡ 24
unfolding slot_bytes
length_slot ride w = omega (
  arith,
  length-append (slot_mark ++ le_bytes 8 ride.key) ride.payload,
  length-append slot_mark (le_bytes 8 ride.key),
  length_le_bytes 8 ride.key,
  w.long,
)

pub length_slots : (rides : List Ride) → AllWhole rides → length (slots_bytes rides) ≡ 24 * length rides
unfolding slots_bytes
length_slots [] w = refl
length_slots (ride ∷ rides) w = omega
    (arith, length-append (slot_bytes ride) (slots_bytes rides), length_slot ride w.0, length_slots rides w.1)

pub slots_append : (rides : List Ride) (ride : Ride)
    → slots_bytes (rides ++ (ride ∷ [])) ≡ slots_bytes rides ++ slot_bytes ride
unfolding slots_bytes
slots_append [] ride = append-nil (slot_bytes ride)
slots_append (first ∷ rides) ride = ap (λ (l : List ℕ). slot_bytes first ++ l) (slots_append rides ride)
    ∙ sym (append_assoc (slot_bytes first) (slots_bytes rides) (slot_bytes ride))

-- 24 zeros less
zeros : ℕ → List ℕ
zeros n = replicate n 0

zeros_less : (n m : ℕ) → n ≡ 24 + m → drop 24 (zeros n) ≡ zeros m
unfolding zeros
zeros_less n m e = ap (λ (k : ℕ). drop 24 (replicate {A = ℕ} k 0)) e
    ∙ ap (drop 24) (sym (replicate-append-replicate {A = ℕ} 24 m 0))
    ∙ drop_at (replicate 24 0) (replicate m 0) 24 (length-replicate {A = ℕ} 24 0)

module _ (S j : ℕ) (rides : List Ride) (whole : AllWhole rides) where
  front : (count : ℕ) → length (head_bytes j count ++ slots_bytes rides) ≡ slot_at (length rides)
  front count = omega
      (arith, length-append (head_bytes j count) (slots_bytes rides), length_head j count, length_slots rides whole)

  pub length_lay_out : (count : ℕ) → length rides ≤ S → length (lay_out S j count rides) ≡ slot_at S
  unfolding lay_out
  length_lay_out count h = omega (
    arith,
    length-append (head_bytes j count) (slots_bytes rides ++ replicate (24 * (S - length rides)) 0),
    length_head j count,
    length-append (slots_bytes rides) (replicate (24 * (S - length rides)) 0),
    length_slots rides whole,
    length-replicate {A = ℕ} (24 * (S - length rides)) 0,
  )

  -- one ride more in the first free slot
  pub lay_out_more : (count : ℕ) (ride : Ride) → Whole ride → length rides < S
      → edit (slot_at (length rides)) (slot_bytes ride) (lay_out S j count rides)
      ≡ lay_out S j count (rides ++ (ride ∷ []))
  unfolding lay_out
  lay_out_more count ride w room =
      ap (edit (slot_at (length rides)) (slot_bytes ride))
      (sym (append_assoc (head_bytes j count) (slots_bytes rides) tail))
      ∙ edit_seam (head_bytes j count ++ slots_bytes rides) (slot_bytes ride) tail (slot_at (length rides))
      (front count)
      ∙ ap₂ (λ (f b : List ℕ). f ++ b) (append_assoc (head_bytes j count) (slots_bytes rides) (slot_bytes ride)) less
      ∙ append_assoc (head_bytes j count) (slots_bytes rides ++ slot_bytes ride)
      (replicate (24 * (S - length (rides ++ (ride ∷ [])))) 0)
      ∙ ap (λ (l : List ℕ). head_bytes j count ++ (l ++ replicate (24 * (S - length (rides ++ (ride ∷ [])))) 0))
      (sym (slots_append rides ride))
    where
      tail : List ℕ
      tail = replicate (24 * (S - length rides)) 0

      less : drop (length (slot_bytes ride)) tail ≡ replicate (24 * (S - length (rides ++ (ride ∷ [])))) 0
      less = ap (λ (k : ℕ). drop k tail) (length_slot ride w)
          ∙ unfold zeros
          in (zeros_less (24 * (S - length rides)) (24 * (S - length (rides ++ (ride ∷ []))))
          (omega (arith, length-append rides (ride ∷ []))))

  -- another count
  pub lay_out_count : (count other : ℕ) → edit 4 (le_bytes 2 other) (lay_out S j count rides) ≡ lay_out S j other rides
  unfolding lay_out head_bytes
  lay_out_count count other = rw (le_bytes_two count, le_bytes_two other)
      (edit_seam (76 ∷ 66 ∷ j ∷ 0 ∷ []) (other % 256 ∷ other / 256 % 256 ∷ [])
      (count % 256 ∷ count / 256 % 256 ∷ 0 ∷ 0 ∷ (slots_bytes rides ++ replicate (24 * (S - length rides)) 0)) 4 refl)

-- so a ride placed in the first free slot is one ride more
pub encode_more : (S j : ℕ) (rides : List Ride) → AllWhole rides → (ride : Ride) → Whole ride → length rides < S
    → edit 4 (le_bytes 2 (length rides + 1)) (edit (slot_at (length rides)) (slot_bytes ride) (encode S j rides))
    ≡ encode S j (rides ++ (ride ∷ []))
unfolding encode
encode_more S j rides whole ride w room =
    ap (edit 4 (le_bytes 2 (length rides + 1))) (lay_out_more S j rides whole (length rides) ride w room)
    ∙ lay_out_count S j (rides ++ (ride ∷ [])) (whole_append rides ride whole w) (length rides) (length rides + 1)
    ∙ ap (λ (n : ℕ). lay_out S j n (rides ++ (ride ∷ []))) (sym (length-append rides (ride ∷ [])))

-- ---- what is laid out is read back

-- a slot
module _ (region : List ℕ) (k : ℕ) (ride : Ride) (w : Whole ride) (rest : List ℕ)
    (here : drop (slot_at k) region ≡ slot_bytes ride ++ rest) where
  byte : (i : ℕ) → get_or region (slot_at k + i) 0 ≡ get_or (slot_bytes ride ++ rest) i 0
  byte i = sym (get_or-drop (slot_at k) region i 0) ∙ ap (λ (l : List ℕ). get_or l i 0) here

  slot_used_lem : slot_used region k ≡ true
  unfolding slot_used slot_bytes
  slot_used_lem = and_both _ _ (eq-eqb _ 76 (ap (λ (i : ℕ). get_or region i 0) (sym (add-zero (slot_at k))) ∙ byte 0))
      (eq-eqb _ 82 (byte 1))

  slot_key : key_at region k ≡ ride.key
  unfolding key_at slot_bytes
  slot_key =
      sym (le_drop 8 region (slot_at k) 2)
      ∙ ap (λ (l : List ℕ). le_at 8 l 2) here
      ∙ le_seam 8 slot_mark (le_bytes 8 ride.key ++ ride.payload ++ rest) 2 refl
      ∙ ap (λ (l : List ℕ). le_at 8 l 0) (append_assoc (le_bytes 8 ride.key) ride.payload rest)
      ∙ le_back 8 ride.key w.small (ride.payload ++ rest)

  slot_payload : part (slot_at k + 10) 14 region ≡ ride.payload
  unfolding slot_bytes
  slot_payload =
      sym (part_drop (slot_at k) 10 14 region)
      ∙ ap₂ (part 10) (sym w.long) (here ∙ append_assoc (slot_mark ++ le_bytes 8 ride.key) ride.payload rest)
      ∙ part_seam 10 (slot_mark ++ le_bytes 8 ride.key) ride.payload rest
      (length-append slot_mark (le_bytes 8 ride.key) ∙ omega (arith, length_le_bytes 8 ride.key))

  slot_ride : ride_at region k ≡ ride
  unfolding ride_at
  slot_ride = λ i. record { key = slot_key i; payload = slot_payload i }

  slot_next : drop (slot_at (suc k)) region ≡ rest
  slot_next = ap (λ (n : ℕ). drop n region) place ∙ sym (drop-drop 24 (slot_at k) region) ∙ ap (drop 24) here
      ∙ drop_at (slot_bytes ride) rest 24 (length_slot ride w)
    where
      place : slot_at (suc k) ≡ slot_at k + 24
      place = omega arith

-- slots in a row
pub rides_back : (rides : List Ride) → AllWhole rides → (region : List ℕ) (k : ℕ) (rest : List ℕ)
    → drop (slot_at k) region ≡ slots_bytes rides ++ rest
    → rides_from region k (length rides) ≡ rides
unfolding rides_from slots_bytes
rides_back [] w region k rest here = refl
rides_back (ride ∷ rides) w region k rest here =
    let here' = here ∙ append_assoc (slot_bytes ride) (slots_bytes rides) rest in
    ap₂ ◌∷◌ (slot_ride region k ride w.0 (slots_bytes rides ++ rest) here')
    (rides_back rides w.1 region (suc k) rest (slot_next region k ride w.0 (slots_bytes rides ++ rest) here'))

pub used_back : (rides : List Ride) → AllWhole rides → (region : List ℕ) (k : ℕ) (rest : List ℕ)
    → drop (slot_at k) region ≡ slots_bytes rides ++ rest
    → (i : ℕ) → i < length rides → slot_used region (k + i) ≡ true
unfolding slots_bytes
used_back [] w region k rest here i h = absurd (omega arith)
used_back (ride ∷ rides) w region k rest here zero h =
    ap (slot_used region) (add-zero k)
    ∙ slot_used_lem region k ride w.0 (slots_bytes rides ++ rest)
    (here ∙ append_assoc (slot_bytes ride) (slots_bytes rides) rest)
used_back (ride ∷ rides) w region k rest here (suc i) h =
    ap (slot_used region) place
    ∙ used_back rides w.1 region (suc k) rest
    (slot_next region k ride w.0 (slots_bytes rides ++ rest)
    (here ∙ append_assoc (slot_bytes ride) (slots_bytes rides) rest)) i (omega arith)
  where
    place : k + suc i ≡ suc k + i
    place = omega arith

module _ (S j count : ℕ) (rides : List Ride) (whole : AllWhole rides) where
  pub slots_here : drop (slot_at 0) (lay_out S j count rides)
      ≡ slots_bytes rides ++ replicate (24 * (S - length rides)) 0
  unfolding lay_out
  slots_here = drop_at (head_bytes j count) (slots_bytes rides ++ replicate (24 * (S - length rides)) 0) 8
      (length_head j count)

  pub rest_zero : drop (slot_at (length rides)) (lay_out S j count rides) ≡ replicate (24 * (S - length rides)) 0
  unfolding lay_out
  rest_zero = ap (drop (slot_at (length rides)))
      (sym (append_assoc (head_bytes j count) (slots_bytes rides) (replicate (24 * (S - length rides)) 0)))
      ∙ drop_at (head_bytes j count ++ slots_bytes rides) (replicate (24 * (S - length rides)) 0)
      (slot_at (length rides))
      (front S j rides whole count)

  pub count_back : count < 65536 → count_of (lay_out S j count rides) ≡ count
  unfolding lay_out head_bytes
  count_back small = le_seam 2 (76 ∷ 66 ∷ j ∷ 0 ∷ [])
      (le_bytes 2 count ++ (0 ∷ 0 ∷ []) ++ (slots_bytes rides ++ replicate (24 * (S - length rides)) 0)) 4 refl
      ∙ ap (λ (l : List ℕ). le_at 2 l 0)
      (append_assoc (le_bytes 2 count) (0 ∷ 0 ∷ []) (slots_bytes rides ++ replicate (24 * (S - length rides)) 0))
      ∙ le_back 2 count small ((0 ∷ 0 ∷ []) ++ (slots_bytes rides ++ replicate (24 * (S - length rides)) 0))

  pub level_back : level_of (lay_out S j count rides) ≡ j
  unfolding lay_out head_bytes
  level_back = refl

  pub head_back : head_formed (lay_out S j count rides) ≡ true
  unfolding lay_out head_bytes head_formed
  head_back = rw (le_bytes_two count)

pub length_encode : (S j : ℕ) (rides : List Ride) → AllWhole rides → length rides ≤ S
    → length (encode S j rides) ≡ slot_at S
unfolding encode
length_encode S j rides whole room = length_lay_out S j rides whole (length rides) room
