-- A file as document 01 lays it out: a header of 16 bytes, then M regions of 8 + 24·S bytes. When it is sound, and what
-- create, check, view and split give.
pub mod Fault
pub mod Judge
pub mod Region
pub mod Create
pub mod Write
pub mod Split
pub mod Keeping
use Rattle.std.specs.Prelude.{ℕ, suc, ◌+◌, ◌*◌, ◌-◌, Bool, true, false, cond, not, ◌&&◌, List, [], ◌∷◌, ◌++◌, leb, ltb}
use Rattle.std.specs.Prelude.{eqb, length, replicate, Option}
use Rattle.std.specs.Bool.{then_some}
use Rattle.address.specs.Limits.{first_buckets, no_bucket, most_buckets, most_slots}
use Rattle.address.specs.declared.Image.{Image}
use Rattle.address.specs.Rules.{«at», span, buckets, level, keeps, splitting, newborn, grown}
use Rattle.layout.specs.Bytes.{byte_at, le_at, le_bytes, marked, all_below, all_zero, first_from, edit, part}
use Rattle.file.specs.declared.Header.{Header}
use Rattle.bucket.specs.Region.{Ride, slot_at, count_of, rides_of, bucket_sound, encode, kept}

-- The mark 4C 46 of a file.
abbrev pub file_mark : List ℕ
file_mark = 76 ∷ 70 ∷ []

-- File header, 16 bytes: byte 2 level i; byte 3 capacity b; bytes 4-5 split pointer n; bytes 6-7 most buckets M; byte 8
-- slots per bucket S.
abbrev pub capacity_of : List ℕ → ℕ
capacity_of file = byte_at file 3

abbrev pub most_of : List ℕ → ℕ
most_of file = le_at 2 file 6

abbrev pub slots_of : List ℕ → ℕ
slots_of file = byte_at file 8

pub state_of : List ℕ → Image
state_of file = «at» (byte_at file 2) (le_at 2 file 4)

-- Numbers: S 1 to 64, b 1 to S, M 1 to 4,096, file length exactly 16 + M·(8 + 24·S).
abbrev pub file_length : ℕ → ℕ → ℕ
file_length S M = 16 + M * (8 + 24 * S)

pub figures_fit : ℕ → ℕ → ℕ → ℕ → Bool
figures_fit long b S M = (leb 1 S && leb S most_slots && leb 1 b && leb b S && leb 1 M && leb M most_buckets)
    && eqb long (file_length S M)

-- The file has 2^i + n buckets.
pub buckets_of : List ℕ → ℕ
buckets_of file = buckets first_buckets (state_of file)

-- n < 2^i and 2^i + n ≤ M.
pub state_fits : Image → ℕ → Bool
state_fits state M = ltb state.pointer (span first_buckets state.level) && leb (buckets first_buckets state) M

-- The header's fixed bytes: the mark, and zeros from byte 9 on.
abbrev pub first_zero : ℕ
first_zero = 9

abbrev pub fixed_bytes : List ℕ → Bool
fixed_bytes file = marked file 0 file_mark && all_zero (part first_zero (16 - first_zero) file)

-- Its figures, each as it stands there.
abbrev pub figures_of : List ℕ → Header
figures_of file = record {
  state = state_of file;
  capacity = capacity_of file;
  slots = slots_of file;
  most = most_of file;
}

-- Their ranges, with the length.
abbrev pub ranges_fit : ℕ → Header → Bool
ranges_fit long header = figures_fit long header.capacity header.slots header.most
    && state_fits header.state header.most

-- A header is sound if marks, zeros, ranges and length hold, n < 2^i and 2^i + n ≤ M.
pub header_sound : List ℕ → Bool
header_sound file = leb 16 (length file) && fixed_bytes file && ranges_fit (length file) (figures_of file)

-- The header that the code reads and judges once in a call: the figures of a sound header, else none.
pub header_of : List ℕ → Option Header
header_of file = then_some (header_sound file) (figures_of file)

-- Then M regions of 8 + 24·S bytes.
abbrev pub start_of : ℕ → ℕ → ℕ
start_of S a = 16 + a * (8 + 24 * S)

pub region_of : List ℕ → ℕ → List ℕ
region_of file a = part (start_of (slots_of file) a) (slot_at (slots_of file)) file

-- The file with another region's bytes, and with another state in its header.
pub with_region : List ℕ → ℕ → List ℕ → List ℕ
with_region file a region = edit (start_of (slots_of file) a) region file

pub with_state : List ℕ → Image → List ℕ
with_state file state = edit 4 (le_bytes 2 state.pointer) (edit 2 (state.level ∷ []) file)

-- A bucket of the file; a region past the last bucket is sound if all its bytes are zero; a file is sound if header and
-- all M regions are.
pub bucket_sound_in : List ℕ → ℕ → Bool
bucket_sound_in file a = bucket_sound first_buckets (state_of file) (slots_of file) a (region_of file a)

pub region_sound : List ℕ → ℕ → Bool
region_sound file a = cond (ltb a (buckets_of file)) (bucket_sound_in file a) (all_zero (region_of file a))

pub file_sound : List ℕ → Bool
file_sound file = header_sound file && all_below (region_sound file) (most_of file)

-- The file with one ride more in a bucket, behind those that it holds.
pub with_ride : List ℕ → ℕ → Ride → List ℕ
with_ride file a ride = with_region file a
    (encode (slots_of file) (level first_buckets (state_of file) a) (rides_of (region_of file a) ++ (ride ∷ [])))

-- Check: 5, 7 (lowest region; with other replies the number is 65,535).
pub record Checked : Type 0 where
  pub answer : ℕ
  pub bucket : ℕ

pub lowest_unsound : List ℕ → ℕ
lowest_unsound file = first_from (λ a. not (region_sound file a)) (most_of file) 0

pub check : List ℕ → Checked
check file =
    cond (not (header_sound file)) (record { answer = 5; bucket = no_bucket })
    (cond (ltb (lowest_unsound file) (most_of file)) (record { answer = 7; bucket = lowest_unsound file })
    (record { answer = 0; bucket = no_bucket }))

-- The bucket view: the used slots; empty if the header is unsound, the number is too high or the bucket is unsound.
pub view : List ℕ → ℕ → List ℕ
view file a =
    cond (header_sound file && ltb a (buckets_of file) && bucket_sound_in file a)
    (part (start_of (slots_of file) a + 8) (24 * count_of (region_of file a)) file) []

-- Create takes b, S and M and writes the sound file in state (0, 0) without records.
pub header_bytes : Image → ℕ → ℕ → ℕ → List ℕ
header_bytes state b S M = file_mark ++ (state.level ∷ b ∷ []) ++ le_bytes 2 state.pointer ++ le_bytes 2 M ++ (S ∷ [])
    ++ replicate (16 - first_zero) 0

pub created : ℕ → ℕ → ℕ → List ℕ
created b S M = header_bytes («at» 0 0) b S M ++ (encode S 0 [] ++ replicate ((M - 1) * (8 + 24 * S)) 0)

-- 13: figures out of range or length not theirs.
pub record Created : Type 0 where
  pub answer : ℕ
  pub file : List ℕ

pub create : List ℕ → ℕ → ℕ → ℕ → Created
create file b S M = cond (figures_fit (length file) b S M) (record { answer = 0; file = created b S M })
    (record { answer = 13; file = file })

-- Split: records of bucket n whose h_{i+1} is not n go to new bucket n + 2^i, both groups keeping their order and
-- packed; freed slots are zeroed; both levels become i+1; n grows by 1, and at 2^i it becomes 0 and i grows by 1.
pub staying : Image → ℕ → Bool
staying state key = keeps first_buckets (splitting state) (suc state.level) key

pub divided : List ℕ → List ℕ
divided file =
    let state = state_of file in
    let rides = rides_of (region_of file (splitting state)) in
    let old = encode (slots_of file) (suc state.level) (kept (staying state) rides) in
    let new = encode (slots_of file) (suc state.level) (kept (λ key. not (staying state key)) rides) in
    with_state (with_region (with_region file (splitting state) old) (newborn first_buckets state) new)
    (grown first_buckets state)

-- Split: 5, 10, 7 (bucket n, then the new region). Its plain answer gives the old bucket and the new, else 65,535
-- twice, but with 7 the unsound one and 65,535.
pub record SplitOutcome : Type 0 where
  pub answer : ℕ
  pub old : ℕ
  pub new : ℕ
  pub file : List ℕ

pub split : List ℕ → SplitOutcome
split file =
    let old = splitting (state_of file) in
    let new = newborn first_buckets (state_of file) in
    cond (not (header_sound file)) (record { answer = 5; old = no_bucket; new = no_bucket; file = file })
    (cond (leb (most_of file) (buckets_of file)) (record { answer = 10; old = no_bucket; new = no_bucket; file = file })
    (cond (not (bucket_sound_in file old)) (record { answer = 7; old = old; new = no_bucket; file = file })
    (cond (not (all_zero (region_of file new))) (record { answer = 7; old = new; new = no_bucket; file = file })
    (record { answer = 0; old = old; new = new; file = divided file }))))
