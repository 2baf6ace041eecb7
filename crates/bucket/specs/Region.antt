-- A bucket's region as document 01 lays it out: a head of 8 bytes, then S slots of 24 bytes. What its bytes hold, when
-- it is sound, and the bytes of a list of rides.
pub mod Divide
pub mod Encode
pub mod Every
pub mod Held
pub mod Judge
pub mod Keep
pub mod Rides
pub mod Single
pub mod Sound
pub mod Told
pub mod Write
use Rattle.std.specs.Prelude.{ℕ, zero, suc, ◌+◌, ◌*◌, ◌-◌, ◌^◌, ◌<◌, ◌≡◌, Bool, true, cond, not, ◌&&◌, List, [], ◌∷◌}
use Rattle.std.specs.Prelude.{◌++◌, map, leb, eqb, length, drop, replicate}
use Rattle.address.specs.declared.Image.{Image}
use Rattle.address.specs.Rules.{address, level}
use Rattle.layout.specs.Bytes.{Bytes, byte_at, le_at, le_bytes, marked, all_below, all_zero, first_from, edit, part}

-- A ride: a key and its payload of 14 bytes.
pub record Ride : Type 0 where
  pub key : ℕ
  pub payload : List ℕ

-- A key is any 64-bit number; a payload is 14 bytes without meaning here.
pub record Whole (ride : Ride) : Type 0 where
  pub small : ride.key < 256 ^ 8
  pub long : length ride.payload ≡ 14
  pub bytes : Bytes ride.payload

-- The marks: 4C 42 of a bucket, 4C 52 of a slot.
abbrev pub bucket_mark : List ℕ
bucket_mark = 76 ∷ 66 ∷ []

abbrev pub slot_mark : List ℕ
slot_mark = 76 ∷ 82 ∷ []

-- Slot k starts 8 + 24·k bytes into the region; M regions of 8 + 24·S bytes.
abbrev pub slot_at : ℕ → ℕ
slot_at k = 8 + 24 * k

-- A bucket's head: mark 4C 42; byte 2 its level; byte 3 zero; bytes 4-5 its record count; bytes 6-7 zero.
abbrev pub level_of : List ℕ → ℕ
level_of region = byte_at region 2

abbrev pub count_of : List ℕ → ℕ
count_of region = le_at 2 region 4

pub head_formed : List ℕ → Bool
head_formed region = marked region 0 bucket_mark && eqb (byte_at region 3) 0 && eqb (byte_at region 6) 0
    && eqb (byte_at region 7) 0

-- Slot, 24 bytes: mark 4C 52; key, 8 bytes; payload, 14 bytes.
pub slot_used : List ℕ → ℕ → Bool
slot_used region k = marked region (slot_at k) slot_mark

pub key_at : List ℕ → ℕ → ℕ
key_at region k = le_at 8 region (slot_at k + 2)

pub ride_at : List ℕ → ℕ → Ride
ride_at region k = record { key = key_at region k; payload = part (slot_at k + 10) 14 region }

-- The rides of c slots from slot k on, and those of all slots in use, in their order.
pub rides_from : List ℕ → ℕ → ℕ → List Ride
rides_from region k zero = []
rides_from region k (suc c) = ride_at region k ∷ rides_from region (suc k) c

pub rides_of : List ℕ → List Ride
rides_of region = rides_from region 0 (count_of region)

-- The keys of rides.
pub keys_of : List Ride → List ℕ
keys_of rides = map (λ ride. ride.key) rides

-- Every key of a list passes a test.
pub every : (ℕ → Bool) → List ℕ → Bool
every test [] = true
every test (key ∷ keys) = test key && every test keys

-- No key of a list stands twice.
pub distinct : List ℕ → Bool
distinct [] = true
distinct (key ∷ keys) = every (λ other. not (eqb key other)) keys && distinct keys

-- A region of S slots is sound at a level if its head is well formed, its level is that one, its count is at most S,
-- its slots in use come first, an unused slot is all zero, each of its keys passes the test of its own bucket, and no
-- key stands twice. Its length is the file's matter.
pub head_sound : ℕ → ℕ → List ℕ → Bool
head_sound S j region = head_formed region && eqb (level_of region) j && leb (count_of region) S

pub sound_with : ℕ → ℕ → (ℕ → Bool) → List ℕ → Bool
sound_with S j own region =
    head_sound S j region
    && all_below (slot_used region) (count_of region)
    && all_zero (drop (slot_at (count_of region)) region)
    && every own (keys_of (rides_of region))
    && distinct (keys_of (rides_of region))

-- Bucket a is sound in state (i, n): its level is i+1 where a < n or a ≥ 2^i and i otherwise, and each of its keys has
-- a as its address.
pub bucket_sound : ℕ → Image → ℕ → ℕ → List ℕ → Bool
bucket_sound N s S a region = sound_with S (level N s a) (λ key. eqb (address N s key) a) region

-- The slot that holds a key, and the count if none does.
pub slot_of : List ℕ → ℕ → ℕ
slot_of region key = first_from (λ k. eqb (key_at region k) key) (count_of region) 0

-- The bytes of a head, of a ride's slot, and of the slots of a list of rides.
pub head_bytes : ℕ → ℕ → List ℕ
head_bytes j count = bucket_mark ++ (j ∷ 0 ∷ []) ++ le_bytes 2 count ++ (0 ∷ 0 ∷ [])

pub slot_bytes : Ride → List ℕ
slot_bytes ride = slot_mark ++ le_bytes 8 ride.key ++ ride.payload

pub slots_bytes : List Ride → List ℕ
slots_bytes [] = []
slots_bytes (ride ∷ rides) = slot_bytes ride ++ slots_bytes rides

-- A region with a head's count and a list of rides, slots in use first, in order of arrival; an unused slot is all
-- zero.
pub lay_out : ℕ → ℕ → ℕ → List Ride → List ℕ
lay_out S j count rides = head_bytes j count ++ (slots_bytes rides ++ replicate (24 * (S - length rides)) 0)

-- The region of S slots that holds just these rides, at level j.
pub encode : ℕ → ℕ → List Ride → List ℕ
encode S j rides = lay_out S j (length rides) rides

-- The rides that a test keeps, in their order.
pub kept : (ℕ → Bool) → List Ride → List Ride
kept test [] = []
kept test (ride ∷ rides) = cond (test ride.key) (ride ∷ kept test rides) (kept test rides)

-- Some bytes after the region of S slots at `old` was divided between it and the one at `new`, both then of level j:
-- the rides whose keys pass the test stay, the others are in the new region, both groups in their order and packed;
-- freed slots are zero.
abbrev pub halved : (ℕ → Bool) → ℕ → ℕ → ℕ → ℕ → List ℕ → List ℕ
halved own S j old new bytes =
    let rides = rides_of (part old (slot_at S) bytes) in
    edit new (encode S j (kept (λ key. not (own key)) rides)) (edit old (encode S j (kept own rides)) bytes)
