-- Runs of calls. What a call does to file and table, and what it answers, are the definitions that
-- its contract cites.
pub mod Clients
pub mod Fresh
pub mod Held
pub mod Loading
pub mod Replied
pub mod Shut
use Rattle.std.specs.Prelude.{ℕ, ◌+◌, ◌^◌, ◌≤◌, ◌<◌, ◌≡◌, Bool, true, cond, not, ◌&&◌, ◌⊎◌, ◌↔◌, leb, ltb, eqb, length}
use Rattle.std.specs.Prelude.{take}
use mathlib.Core.List.{List, [], ◌∷◌, ◌++◌, map, Memᴰ}
use Rattle.address.specs.Limits.{first_buckets}
use Rattle.address.specs.Load.{threshold_fits}
use Rattle.address.specs.Rules.{NotAhead, buckets, address, splitting, newborn, forwards, parent}
use Rattle.address.specs.Rules.Route.{Delivered}
use Rattle.address.specs.Rules.Scan.{times}
use Rattle.layout.specs.Bytes.{Bytes, all_zero, part}
use Rattle.layout.specs.Replies.{Refusal, refuse, reply}
use Rattle.bucket.specs.Region.{Ride, rides_of, every}
use Rattle.client.specs.Table.{length_sound, exists, image_of, table_sound, table_refusals, Joined}
use Rattle.client.specs.Table.{join}
use Rattle.file.specs.File.{most_of, state_of, buckets_of, header_sound, region_of, bucket_sound_in}
use Rattle.file.specs.File.{file_sound, lowest_unsound, Checked, check, view, create, SplitOutcome}
use Rattle.file.specs.File.{split}
use Rattle.route.specs.Way.{early, cut, way_of, own_of, held, full}
use Rattle.ride.specs.Call.{Outcome, search, insert}
use Rattle.load.specs.Load.{number, decision_on, Loaded, insert_split}
use Rattle.scan.specs.Scan.{Scanned, matches_on, visits_of, scan}

-- The lent memory that lasts from call to call: the file and the client table.
pub record Memory : Type 0 where
  pub file : List ℕ
  pub table : List ℕ

-- A call with its arguments. A list is a lent buffer as it stands before the call: a payload, an
-- answer block, a visit list, a match list.
pub data Call : Type 0 where
  Join : ℕ → Call
  Insert : ℕ → ℕ → List ℕ → List ℕ → Call
  InsertSplit : ℕ → ℕ → List ℕ → ℕ → List ℕ → Call
  Search : ℕ → ℕ → List ℕ → Call
  Split : Call
  Scan : ℕ → ℕ → List ℕ → List ℕ → Call
  Check : Call
  View : ℕ → Call
  Parent : ℕ → Call

-- What the types of an insert's arguments say: a key is any 64-bit number, a payload is bytes.
pub Typed : Call → Type 0
Typed (Join client) = Unit {0}
Typed (Insert client key payload answer) = (key < 256 ^ 8) × Bytes payload
Typed (InsertSplit client key payload t answer) = (key < 256 ^ 8) × Bytes payload
Typed (Search client key answer) = Unit {0}
Typed Split = Unit {0}
Typed (Scan client lift visits matches) = Unit {0}
Typed Check = Unit {0}
Typed (View bucket) = Unit {0}
Typed (Parent bucket) = Unit {0}

-- File and table as an insert or a search leaves them, and as an insert with load control does.
pub left : Outcome → Memory
left outcome = record { file = outcome.file; table = outcome.table }

pub left_loaded : Loaded → Memory
left_loaded outcome = record { file = outcome.file; table = outcome.table }

-- What a call answers: for each, the outcome that its contract is equal to.
abbrev pub Answer : Call → Type 0
Answer (Join client) = Joined
Answer (Insert client key payload answer) = Outcome
Answer (InsertSplit client key payload t answer) = Loaded
Answer (Search client key answer) = Outcome
Answer Split = SplitOutcome
Answer (Scan client lift visits matches) = Scanned
Answer Check = Checked
Answer (View bucket) = List ℕ
Answer (Parent bucket) = ℕ

pub answered : (m : Memory) (call : Call) → Answer call
answered m (Join client) = join m.table client
answered m (Insert client key payload answer) = insert m.file m.table client key payload
    answer
answered m (InsertSplit client key payload t answer) = insert_split m.file m.table client key
    payload t answer
answered m (Search client key answer) = search m.file m.table client key answer
answered m Split = split m.file
answered m (Scan client lift visits matches) = scan m.file m.table client lift visits matches
answered m Check = check m.file
answered m (View bucket) = view m.file bucket
answered m (Parent bucket) = parent first_buckets bucket

-- What it leaves of file and table; scan, check, view and parent change nothing.
pub after : Memory → Call → Memory
after m (Join client) = record { file = m.file; table = (answered m (Join client)).table }
after m (Insert client key payload answer) = left (answered m (Insert client key payload answer))
after m (InsertSplit client key payload t answer) =
    left_loaded (answered m (InsertSplit client key payload t answer))
after m (Search client key answer) = left (answered m (Search client key answer))
after m Split = record { file = (answered m Split).file; table = m.table }
after m (Scan client lift visits matches) = m
after m Check = m
after m (View bucket) = m
after m (Parent bucket) = m

-- A run is a list of calls, one after the other.
pub run : Memory → List Call → Memory
run m [] = m
run m (call ∷ calls) = run (after m call) calls

pub AllTyped : List Call → Type 0
AllTyped [] = Unit {0}
AllTyped (call ∷ calls) = Typed call × AllTyped calls

-- Of each call of a run: what holds of the memory before the call, and of the call.
pub Each : (Memory → Call → Type 0) → Memory → List Call → Type 0
Each Holding m [] = Unit {0}
Each Holding m (call ∷ calls) = Holding m call × Each Holding (after m call) calls

-- ---- demand 1

-- The number that a call replies. The view and the parent give no reply number; 0 stands for them,
-- and they are never refused.
pub replied : Memory → Call → ℕ
replied m (Join client) = (answered m (Join client)).answer
replied m (Insert client key payload answer) = (answered m (Insert client key payload answer)).answer
replied m (InsertSplit client key payload t answer) =
    (answered m (InsertSplit client key payload t answer)).answer
replied m (Search client key answer) = (answered m (Search client key answer)).answer
replied m Split = (answered m Split).answer
replied m (Scan client lift visits matches) = (answered m (Scan client lift visits matches)).answer
replied m Check = (answered m Check).answer
replied m (View bucket) = 0
replied m (Parent bucket) = 0

-- Every bucket of a way is sound.
abbrev pub all_sound : Memory → List ℕ → Bool
all_sound m way = every (bucket_sound_in m.file) way

-- Insert's conditions behind 14, without load control and with it.
abbrev pub insert_conditions : Memory → ℕ → ℕ → List Refusal
insert_conditions m client key =
    early m.file m.table client
    ++ (refuse 7 (not (all_sound m (way_of m.file (image_of m.table client) key)))
    ∷ refuse 8 (held m.file key)
    ∷ refuse 9 (full m.file key)
    ∷ [])

-- A split is due by load control after an insert of the key, and the file has room for it.
abbrev pub splits : Memory → ℕ → ℕ → Bool
splits m key t = eqb (number (decision_on m.file key t)) 1

-- Each reply with its condition, in document 01's order: the first match wins, and 0 is left. (1 is
-- no refusal, but it has its condition like one.)
pub conditions : Memory → Call → List Refusal
conditions m (Join client) = table_refusals m.table client
conditions m (Insert client key payload answer) =
    refuse 14 (not (eqb (length answer) 24 && eqb (length payload) 14))
    ∷ insert_conditions m client key
conditions m (InsertSplit client key payload t answer) =
    refuse 14 (not (eqb (length answer) 24 && eqb (length payload) 14))
    ∷ refuse 15 (not (threshold_fits t))
    ∷ (insert_conditions m client key
    ++ (refuse 7 (splits m key t && not (bucket_sound_in m.file (splitting (state_of m.file))))
    ∷ refuse 7 (splits m key t
    && not (all_zero (region_of m.file (newborn first_buckets (state_of m.file)))))
    ∷ []))
conditions m (Search client key answer) =
    refuse 14 (not (eqb (length answer) 24))
    ∷ (early m.file m.table client
    ++ (refuse 7 (not (all_sound m (way_of m.file (image_of m.table client) key)))
    ∷ refuse 1 (not (held m.file key))
    ∷ []))
conditions m Split =
    refuse 5 (not (header_sound m.file))
    ∷ refuse 10 (leb (most_of m.file) (buckets_of m.file))
    ∷ refuse 7 (not (bucket_sound_in m.file (splitting (state_of m.file))))
    ∷ refuse 7 (not (all_zero (region_of m.file (newborn first_buckets (state_of m.file)))))
    ∷ []
conditions m (Scan client lift visits matches) =
    let way = visits_of m.file (image_of m.table client) in
    early m.file m.table client
    ++ (refuse 11 (ltb (length visits) (buckets_of m.file))
    ∷ refuse 7 (not (all_sound m way))
    ∷ refuse 12 (ltb (length matches) (length (matches_on m.file lift way)))
    ∷ [])
conditions m Check =
    refuse 5 (not (header_sound m.file))
    ∷ refuse 7 (ltb (lowest_unsound m.file) (most_of m.file))
    ∷ []
conditions m (View bucket) = []
conditions m (Parent bucket) = []

-- ---- demand 2

-- A file holds a ride if some bucket of it does.
pub Holds : List ℕ → Ride → Type 0
Holds file ride = (a : ℕ) × (a < buckets_of file) × Memᴰ ride (rides_of (region_of file a))

-- An insert is accepted if its reply is 0.
pub Accepts : Memory → Ride → Call → Type 0
Accepts m ride (Join client) = ⊥
Accepts m ride (Insert client key payload answer) =
    (replied m (Insert client key payload answer) ≡ 0)
    × (ride ≡ record { key = key; payload = payload })
Accepts m ride (InsertSplit client key payload t answer) =
    (replied m (InsertSplit client key payload t answer) ≡ 0)
    × (ride ≡ record { key = key; payload = payload })
Accepts m ride (Search client key answer) = ⊥
Accepts m ride Split = ⊥
Accepts m ride (Scan client lift visits matches) = ⊥
Accepts m ride Check = ⊥
Accepts m ride (View bucket) = ⊥
Accepts m ride (Parent bucket) = ⊥

-- Its insert was accepted in a run.
pub Accepted : Memory → Ride → List Call → Type 0
Accepted m ride [] = ⊥
Accepted m ride (call ∷ calls) = Accepts m ride call ⊎ Accepted (after m call) ride calls

-- Held at the start, or its insert was accepted since.
pub Kept : Memory → List Call → Ride → Type 0
Kept m calls ride = Holds m.file ride ⊎ Accepted m ride calls

-- The payload in an answer block, bytes 10-23.
pub payload_in : List ℕ → List ℕ
payload_in block = part 10 14 block

-- A search of a key tells what is held of it: it replies 0 with a payload exactly if that is held,
-- and 1 exactly if none is.
pub record Finds (key : ℕ) (outcome : Outcome) (Has : Ride → Type 0) : Type 0 where
  pub present : (payload : List ℕ)
      → ((outcome.answer ≡ 0) × (payload_in outcome.block ≡ payload))
      ↔ Has (record { key = key; payload = payload })
  pub absent : (outcome.answer ≡ 1)
      ↔ ((payload : List ℕ) → Has (record { key = key; payload = payload }) → ⊥)

-- ---- demand 3

-- A sound file and a sound table with no client ahead.
pub record Ready (m : Memory) : Type 0 where
  pub bytes : Bytes m.file
  pub file_is_sound : file_sound m.file ≡ true
  pub table_is_sound : table_sound m.table ≡ true
  pub none_ahead : (client : ℕ) → exists m.table client ≡ true
      → NotAhead first_buckets (state_of m.file) (image_of m.table client)

-- A key that a client sends: insert and search send theirs unless 14, 15 or 2 to 6 refuses them.
pub data Sent : Type 0 where
  Nothing : Sent
  Key : ℕ → ℕ → Sent

pub sent_if : Bool → Memory → ℕ → ℕ → Sent
sent_if fits m client key =
    cond (fits && eqb (reply (early m.file m.table client) 0) 0) (Key client key) Nothing

pub sent : Memory → Call → Sent
sent m (Join client) = Nothing
sent m (Insert client key payload answer) =
    sent_if (eqb (length answer) 24 && eqb (length payload) 14) m client key
sent m (InsertSplit client key payload t answer) =
    sent_if (eqb (length answer) 24 && eqb (length payload) 14 && threshold_fits t) m client key
sent m (Search client key answer) = sent_if (eqb (length answer) 24) m client key
sent m Split = Nothing
sent m (Scan client lift visits matches) = Nothing
sent m Check = Nothing
sent m (View bucket) = Nothing
sent m (Parent bucket) = Nothing

-- The bucket that the client sends it to.
abbrev pub sent_to : Memory → ℕ → ℕ → ℕ
sent_to m client key = address first_buckets (image_of m.table client) key

-- Its defined route; with 7 it ends at the unsound bucket.
pub route_of : Memory → ℕ → ℕ → List ℕ
route_of m client key =
    cut (bucket_sound_in m.file) (way_of m.file (image_of m.table client) key)

-- It reaches its own bucket: at most two forwards, each to a higher-numbered bucket, and the last
-- bucket is the key's address.
pub Reached : Memory → Sent → Type 0
Reached m Nothing = Unit {0}
Reached m (Key client key) =
    (h : ℕ) × (h ≤ 2) × Delivered first_buckets (state_of m.file) key (sent_to m client key) h
    (route_of m client key)

-- Of a client: 1 for a key sent whose first bucket is not the key's own, and the forwards of its
-- route.
pub wrong_first : ℕ → Memory → Sent → ℕ
wrong_first client m Nothing = 0
wrong_first client m (Key other key) =
    cond (eqb other client && not (eqb (sent_to m client key) (own_of m.file key))) 1 0

pub forwards_of : ℕ → Memory → Sent → ℕ
forwards_of client m Nothing = 0
forwards_of client m (Key other key) = cond (eqb other client) (forwards (route_of m client key)) 0

-- The buckets that a client believes in.
pub believed : ℕ → Memory → ℕ
believed client m = buckets first_buckets (image_of m.table client)

-- Summed over a run.
pub summed : (Memory → Sent → ℕ) → Memory → List Call → ℕ
summed count m [] = 0
summed count m (call ∷ calls) = count m (sent m call) + summed count (after m call) calls

-- An insert with load control counts as its insert, and as its split where one was done (02 §2).
pub parts : Memory → ℕ → ℕ → List ℕ → ℕ → List ℕ → List Call
parts m client key payload t answer =
    Insert client key payload answer
    ∷ cond (eqb (number (answered m (InsertSplit client key payload t answer)).split) 1)
    (Split ∷ []) []

-- The buckets that a scan visits.
pub visited : Memory → ℕ → ℕ → List ℕ → List ℕ → List ℕ
visited m client lift visits matches =
    let outcome = scan m.file m.table client lift visits matches in
    take outcome.visits outcome.visit_list

-- An accepted scan visits each bucket once, and nothing else.
pub VisitsOnce : Memory → Call → Type 0
VisitsOnce m (Join client) = Unit {0}
VisitsOnce m (Insert client key payload answer) = Unit {0}
VisitsOnce m (InsertSplit client key payload t answer) = Unit {0}
VisitsOnce m (Search client key answer) = Unit {0}
VisitsOnce m Split = Unit {0}
VisitsOnce m (Scan client lift visits matches) =
    replied m (Scan client lift visits matches) ≡ 0 → (a : ℕ)
    → (a < buckets_of m.file → times a (visited m client lift visits matches) ≡ 1)
    × (buckets_of m.file ≤ a → times a (visited m client lift visits matches) ≡ 0)
VisitsOnce m Check = Unit {0}
VisitsOnce m (View bucket) = Unit {0}
VisitsOnce m (Parent bucket) = Unit {0}

-- The client is not joined anew.
pub NotJoined : ℕ → List Call → Type 0
NotJoined client [] = Unit {0}
NotJoined client (call ∷ calls) = (call ≡ Join client → ⊥) × NotJoined client calls

-- ---- from nothing

-- A file that create has just made and any table, the clients joined one after the other.
pub started : List ℕ → List ℕ → ℕ → ℕ → ℕ → List ℕ → Memory
started file table b S M clients =
    run (record { file = (create file b S M).file; table = table }) (map Join clients)

-- Create accepts the figures, the table's length is sound, and each client of it is joined.
pub record FromNothing (file table : List ℕ) (b S M : ℕ) (clients : List ℕ) : Type 0 where
  pub made : (create file b S M).answer ≡ 0
  pub long : length_sound table ≡ true
  pub all_joined : (client : ℕ) → exists table client ≡ true → Memᴰ client clients
