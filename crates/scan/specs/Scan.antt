-- A scan as document 01 has it: the refusals in their order, the buckets visited, the matching keys, and what is left
-- of both lists.
pub mod Outcome
pub mod Bits
pub mod Fill
pub mod Found
pub mod Notes
pub mod Replied
pub mod Tally
pub mod Unsound
pub mod Way
use Rattle.std.specs.Prelude.{ℕ, ◌/◌, Bool, cond, not, List, [], ◌∷◌, ◌++◌, ltb, eqb, length}
use Rattle.std.specs.Prelude.{Result, Ok, Err}
use Rattle.address.specs.Limits.{first_buckets, no_bucket}
use Rattle.address.specs.declared.Image.{Image}
use Rattle.address.specs.Rules.{visits}
use Rattle.layout.specs.Bytes.{edit}
use Rattle.layout.specs.Replies.{reply}
use Rattle.bucket.specs.Region.{rides_of, keys_of, every}
use Rattle.client.specs.Table.{image_of}
use Rattle.file.specs.File.{state_of, buckets_of, region_of, bucket_sound_in}
use Rattle.file.specs.File.Fault.{fault_number, fault_region}
use Rattle.file.specs.declared.fault.Fault.{Fault}
use Rattle.route.specs.Way.{early}
use Rattle.scan.specs.declared.Counts.{Counts}
use Rattle.scan.specs.declared.ScanAnswer.{ScanAnswer}

-- A key's upper 32 bits are the lift: it is of a lift if they are that number.
pub of_lift : ℕ → ℕ → Bool
of_lift lift key = eqb (key / 4294967296) lift

-- A scan is for one lift: of some keys the matching ones, in their order.
pub matching : ℕ → List ℕ → List ℕ
matching lift [] = []
matching lift (key ∷ keys) = cond (of_lift lift key) (key ∷ matching lift keys) (matching lift keys)

-- The keys of a bucket, in slot order.
pub keys_in : List ℕ → ℕ → List ℕ
keys_in file a = keys_of (rides_of (region_of file a))

-- Matching keys stand in visit order, then slot order.
pub matches_on : List ℕ → ℕ → List ℕ → List ℕ
matches_on file lift [] = []
matches_on file lift (a ∷ way) = matching lift (keys_in file a) ++ matches_on file lift way

-- The visited bucket numbers: the rules' order for the file's state and a client's image.
pub visits_of : List ℕ → Image → List ℕ
visits_of file image = visits first_buckets (state_of file) image

-- The unsound bucket that is first in visit order, and 65,535 if there is none.
pub first_unsound : List ℕ → List ℕ → ℕ
first_unsound file [] = no_bucket
first_unsound file (a ∷ way) = cond (bucket_sound_in file a) (first_unsound file way) a

-- What a scan answers, its reply, a bucket's number and both counts, and what it leaves of the visit list and of the
-- match list.
pub record Scanned : Type 0 where
  pub answer : ℕ
  pub bucket : ℕ
  pub visits : ℕ
  pub matches : ℕ
  pub visit_list : List ℕ
  pub match_list : List ℕ

-- A scan's answer, with the lists as it leaves them.
abbrev pub leaving : ScanAnswer → List ℕ → List ℕ → Scanned
leaving r visits matches =
    record {
      answer = r.reply;
      bucket = r.bucket;
      visits = r.visits;
      matches = r.matches;
      visit_list = visits;
      match_list = matches;
    }

-- A refused scan answers counts 0, and leaves both lists untouched.
abbrev pub refusal : ℕ → ℕ → ScanAnswer
refusal r a = record { reply = r; bucket = a; visits = 0; matches = 0 }

-- The answer for C that a scan's result stands for: 0 with both counts, or the refusal.
abbrev pub answer_of : Result Counts Fault → ScanAnswer
answer_of (Ok counts) =
    record { reply = 0; bucket = no_bucket; visits = counts.visits; matches = counts.matches }
answer_of (Err fault) = refusal (fault_number fault) (fault_region fault)

pub refused : ℕ → ℕ → List ℕ → List ℕ → Scanned
refused r a visits matches = leaving (refusal r a) visits matches

-- A scan of the buckets on a way: 7 (first in visit order), 12 (match list shorter than the matches), else it writes
-- visited bucket numbers and matching keys and answers both counts; list entries past them keep their content. The
-- bucket's number is the unsound one with 7, otherwise 65,535.
pub collected : List ℕ → ℕ → List ℕ → List ℕ → List ℕ → Scanned
collected file lift way visits matches =
    let found = matches_on file lift way in
    cond (not (every (bucket_sound_in file) way)) (refused 7 (first_unsound file way) visits matches)
    (cond (ltb (length matches) (length found)) (refused 12 no_bucket visits matches)
    (record {
      answer = 0;
      bucket = no_bucket;
      visits = length way;
      matches = length found;
      visit_list = edit 0 way visits;
      match_list = edit 0 found matches;
    }))

-- Scan: 2 to 6, 11 (visit list shorter than the bucket count), 7, 12.
pub scan : List ℕ → List ℕ → ℕ → ℕ → List ℕ → List ℕ → Scanned
scan file table client lift visits matches =
    let r = reply (early file table client) 0 in
    cond (not (eqb r 0)) (refused r no_bucket visits matches)
    (cond (ltb (length visits) (buckets_of file)) (refused 11 no_bucket visits matches)
    (collected file lift (visits_of file (image_of table client)) visits matches))
