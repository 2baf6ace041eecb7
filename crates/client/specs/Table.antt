-- A client table as document 01 lays it out: 1 to 256 records of 8 bytes, each a client's image. When it is sound, what
-- an image is, and what joining leaves.
pub mod Caller
pub mod Keeping
pub mod Laws
pub mod Start
use Rattle.std.specs.Prelude.{ℕ, ◌*◌, ◌/◌, ◌%◌, ◌+◌, Bool, cond, not, ◌&&◌, List, [], ◌∷◌, ◌++◌, leb, ltb, eqb, length}
use Rattle.address.specs.Limits.{first_buckets, most_level, most_table}
use Rattle.address.specs.declared.Image.{Image}
use Rattle.address.specs.Rules.{«at», span}
use Rattle.layout.specs.Bytes.{byte_at, le_at, le_bytes, marked, all_below, edit}
use Rattle.layout.specs.Replies.{Refusal, refuse, reply}

-- The mark 4C 43 of a client record.
abbrev pub client_mark : List ℕ
client_mark = 76 ∷ 67 ∷ []

-- A table's length passes 2 unless it is 0, over 2,048 or no multiple of 8.
pub length_sound : List ℕ → Bool
length_sound table = ltb 0 (length table) && leb (length table) most_table && eqb (length table % 8) 0

-- A client passes 3 if there is such a one.
pub exists : List ℕ → ℕ → Bool
exists table client = ltb client (length table / 8)

-- Client record, 8 bytes: mark 4C 43; byte 2 image level i'; byte 3 zero; bytes 4-5 image pointer n'; bytes 6-7 zero.
pub image_of : List ℕ → ℕ → Image
image_of table client = «at» (byte_at table (8 * client + 2)) (le_at 2 table (8 * client + 4))

-- A client record passes 4 unless it is ill formed, i' > 12 or n' ≥ 2^i'.
pub record_formed : List ℕ → ℕ → Bool
record_formed table client =
    marked table (8 * client) client_mark && eqb (byte_at table (8 * client + 3)) 0
    && eqb (byte_at table (8 * client + 6)) 0 && eqb (byte_at table (8 * client + 7)) 0

pub image_formed : Image → Bool
image_formed image = leb image.level most_level && ltb image.pointer (span first_buckets image.level)

pub record_sound : List ℕ → ℕ → Bool
record_sound table client = record_formed table client && image_formed (image_of table client)

-- A client table is sound if its length passes 2 and each record passes 4.
pub table_sound : List ℕ → Bool
table_sound table = length_sound table && all_below (record_sound table) (length table / 8)

-- The refusals by the table alone, in their order.
pub table_refusals : List ℕ → ℕ → List Refusal
table_refusals table client = refuse 2 (not (length_sound table)) ∷ refuse 3 (not (exists table client)) ∷ []

-- The refusals of a caller, in their order: 2, 3, 4.
pub caller_refusals : List ℕ → ℕ → List Refusal
caller_refusals table client = table_refusals table client ++ (refuse 4 (not (record_sound table client)) ∷ [])

-- The bytes of an image, and the table with a client's image written.
pub image_bytes : Image → List ℕ
image_bytes image = client_mark ++ (image.level ∷ 0 ∷ []) ++ le_bytes 2 image.pointer ++ (0 ∷ 0 ∷ [])

pub with_image : List ℕ → ℕ → Image → List ℕ
with_image table client image = edit (8 * client) (image_bytes image) table

-- Join: 2, 3; it writes (0, 0) over any old content.
pub record Joined : Type 0 where
  pub answer : ℕ
  pub table : List ℕ

pub join : List ℕ → ℕ → Joined
join table client = record {
  answer = reply (table_refusals table client) 0;
  table = cond (eqb (reply (table_refusals table client) 0) 0) (with_image table client («at» 0 0)) table;
}
