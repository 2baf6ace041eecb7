-- Insert and search as document 01 has them: the refusals in their order, and what is left of answer block, table and
-- file.
pub mod After
pub mod Keeping
pub mod Left
pub mod Own
pub mod Placing
pub mod Replied
use Rattle.std.specs.Prelude.{ℕ, suc, Bool, cond, not, ◌&&◌, List, eqb, length}
use Rattle.std.specs.Prelude.{true, false, Result, Ok, Err}
use Rattle.address.specs.Limits.{first_buckets}
use Rattle.address.specs.Rules.{image_after}
use Rattle.layout.specs.declared.refused.Refused.{Refused}
use Rattle.layout.specs.Replies.{reply}
use Rattle.layout.specs.Replies.Refused.{number}
use Rattle.bucket.specs.Region.{count_of, ride_at, slot_of}
use Rattle.client.specs.Table.{image_of, with_image}
use Rattle.file.specs.File.{state_of, region_of, with_ride}
use Rattle.answer.specs.Answer.{block, no_payload}
use Rattle.route.specs.Way.{on_way, met_on, way_of, own_of, held, full}

-- What a key call leaves: its reply, the answer block, the client table and the file.
pub record Outcome : Type 0 where
  pub answer : ℕ
  pub block : List ℕ
  pub table : List ℕ
  pub file : List ℕ

-- The reply that a search's result stands for: 0 if its key is held, else 1; or the refusal's number.
abbrev pub found : Bool → ℕ
found held = cond held 0 1

abbrev pub search_number : Result Bool Refused → ℕ
search_number (Ok held) = found held
search_number (Err refused) = number refused

-- The image after the call: adjusted with 0, 1, 8 and 9, and with nothing else.
pub adjusted_table : List ℕ → List ℕ → ℕ → ℕ → List ℕ
adjusted_table file table client key = with_image table client
    (image_after first_buckets (state_of file) (image_of table client) key)

-- A call up to its route: 14 if the answer block is not 24 bytes or insert's payload not 14, 2 to 6, 7, else what it
-- comes to once the key's own bucket is reached.
pub routed : Bool → List ℕ → List ℕ → ℕ → ℕ → List ℕ → Outcome → Outcome
routed fits file table client key answer reached =
    let r = reply (on_way file table client key) 0 in
    cond (not fits) (record { answer = 14; block = answer; table = table; file = file })
    (cond (eqb r 0) reached
    (record { answer = r; block = block r (met_on file table client key) 0 no_payload; table = table; file = file }))

-- A search that has reached the key's own bucket: 0 with the payload found, or 1.
pub searched : List ℕ → List ℕ → ℕ → ℕ → Outcome
searched file table client key =
    let way = way_of file (image_of table client) key in
    let after = adjusted_table file table client key in
    let region = region_of file (own_of file key) in
    cond (held file key)
    (record {
      answer = 0;
      block = block 0 way 0 (ride_at region (slot_of region key)).payload;
      table = after;
      file = file;
    })
    (record { answer = 1; block = block 1 way 0 no_payload; table = after; file = file })

pub search : List ℕ → List ℕ → ℕ → ℕ → List ℕ → Outcome
search file table client key answer = routed (eqb (length answer) 24) file table client key answer
    (searched file table client key)

-- The file with the ride placed in the key's own bucket; placing a record answers the count then held, and insert
-- passes it up (02 §1).
pub inserted : List ℕ → ℕ → List ℕ → List ℕ
inserted file key payload = with_ride file (own_of file key) (record { key = key; payload = payload })

pub count_then : List ℕ → ℕ → ℕ
count_then file key = suc (count_of (region_of file (own_of file key)))

-- An insert that has reached it: 8 if the key is held, 9 if its bucket holds S records, else the ride is placed.
pub placed : List ℕ → List ℕ → ℕ → ℕ → List ℕ → Outcome
placed file table client key payload =
    let way = way_of file (image_of table client) key in
    let after = adjusted_table file table client key in
    cond (held file key) (record { answer = 8; block = block 8 way 0 no_payload; table = after; file = file })
    (cond (full file key) (record { answer = 9; block = block 9 way 0 no_payload; table = after; file = file })
    (record {
      answer = 0;
      block = block 0 way (count_then file key) no_payload;
      table = after;
      file = inserted file key payload;
    }))

pub insert : List ℕ → List ℕ → ℕ → ℕ → List ℕ → List ℕ → Outcome
insert file table client key payload answer =
    routed (eqb (length answer) 24 && eqb (length payload) 14) file table client key answer
    (placed file table client key payload)
