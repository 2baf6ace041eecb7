-- The three demands, over every run of calls.
use Rattle.std.specs.Prelude.{ℕ, ◌*◌, ◌-◌, ◌≤◌, ◌<◌, ◌≡◌, true, not, List, [], ◌∷◌, ◌⊎◌, length}
use Rattle.address.specs.Limits.{first_buckets}
use Rattle.layout.specs.Replies.{refuse, reply}
use Rattle.client.specs.Table.{exists}
use Rattle.file.specs.File.{figures_fit, buckets_of, file_sound, create}
use Rattle.ride.specs.Call.{adjusted_table, search, insert}
use Rattle.load.specs.Load.{insert_split}
use Rattle.scan.specs.Scan.{scan}
use Rattle.demands.specs.Run.{Memory, Call, Insert, InsertSplit, Search, Each}
use Rattle.demands.specs.Run.{after, run, replied, conditions, Finds, Accepted, Kept, Ready}
use Rattle.demands.specs.Run.{sent, Reached, VisitsOnce, believed, wrong_first, forwards_of}
use Rattle.demands.specs.Run.{summed, NotJoined}

-- Demand 1. Every entry point takes anything at all, judges it itself and gives exactly the
-- numbered reply that document 01 fixes, first match wins. A refusal changes nothing but what 01
-- names.
pub record Demand1 (m : Memory) : Type 0 where
  -- the reply is the first whose condition holds, and 0 if none does
  pub replies : (call : Call) → replied m call ≡ reply (conditions m call) 0
  pub create_replies : (b S M : ℕ)
      → (create m.file b S M).answer
      ≡ reply (refuse 13 (not (figures_fit (length m.file) b S M)) ∷ []) 0
  -- replies 2 to 15 leave file and table untouched, except that 8 and 9 adjust the image
  pub untouched : (call : Call) → 1 < replied m call → (replied m call ≡ 8 → ⊥)
      → (replied m call ≡ 9 → ⊥)
      → after m call ≡ m
  pub adjusted : (client key : ℕ) (payload answer : List ℕ)
      → (replied m (Insert client key payload answer) ≡ 8)
      ⊎ (replied m (Insert client key payload answer) ≡ 9)
      → after m (Insert client key payload answer)
      ≡ record { file = m.file; table = adjusted_table m.file m.table client key }
  pub load_adjusted : (client key : ℕ) (payload : List ℕ) (t : ℕ) (answer : List ℕ)
      → (replied m (InsertSplit client key payload t answer) ≡ 8)
      ⊎ (replied m (InsertSplit client key payload t answer) ≡ 9)
      → after m (InsertSplit client key payload t answer)
      ≡ record { file = m.file; table = adjusted_table m.file m.table client key }
  pub create_untouched : (b S M : ℕ) → (create m.file b S M).answer ≡ 13
      → (create m.file b S M).file ≡ m.file
  -- 14 touches nothing, not even the answer block
  pub insert_block : (client key : ℕ) (payload answer : List ℕ)
      → replied m (Insert client key payload answer) ≡ 14
      → (insert m.file m.table client key payload answer).block ≡ answer
  pub load_block : (client key : ℕ) (payload : List ℕ) (t : ℕ) (answer : List ℕ)
      → replied m (InsertSplit client key payload t answer) ≡ 14
      → (insert_split m.file m.table client key payload t answer).block ≡ answer
  pub search_block : (client key : ℕ) (answer : List ℕ) → replied m (Search client key answer) ≡ 14
      → (search m.file m.table client key answer).block ≡ answer
  -- a refused scan leaves both lists and answers counts 0
  pub scan_lists : (client lift : ℕ) (visits matches : List ℕ)
      → ((scan m.file m.table client lift visits matches).answer ≡ 0 → ⊥)
      → ((scan m.file m.table client lift visits matches).visits ≡ 0)
      × ((scan m.file m.table client lift visits matches).matches ≡ 0)
      × ((scan m.file m.table client lift visits matches).visit_list ≡ visits)
      × ((scan m.file m.table client lift visits matches).match_list ≡ matches)

-- Demand 2. In a sound file, with any table whatever, after any run: a search that is not refused
-- finds exactly the rides held at the start and those accepted since, each with its payload, across
-- any splits; and the file is sound.
pub record Demand2 (m : Memory) (calls : List Call) : Type 0 where
  pub sound : file_sound (run m calls).file ≡ true
  pub found : (client key : ℕ) (answer : List ℕ)
      → replied (run m calls) (Search client key answer) ≤ 1
      → Finds key (search (run m calls).file (run m calls).table client key answer) (Kept m calls)

-- Demand 3. In any run of a sound file and a sound table with no client ahead: all of that holds
-- again after it, and so after each call of it; every key that is sent reaches its own bucket in at
-- most two forwards, each to a higher bucket; every accepted scan visits each bucket once; a
-- client's wrong first sends number at most the buckets at the end less those it believed in at the
-- start, its forwards at most twice that.
pub record Demand3 (m : Memory) (calls : List Call) : Type 0 where
  pub ready : Ready (run m calls)
  pub reached : Each (λ now call. Reached now (sent now call)) m calls
  pub scanned : Each VisitsOnce m calls
  pub wrong : (client : ℕ) → exists m.table client ≡ true → NotJoined client calls
      → summed (wrong_first client) m calls ≤ buckets_of (run m calls).file - believed client m
  pub forwarded : (client : ℕ) → exists m.table client ≡ true → NotJoined client calls
      → summed (forwards_of client) m calls ≤ 2 * (buckets_of (run m calls).file - believed client m)

-- From nothing. A file that create has just made, every client of the table joined, any run: what
-- demands 2 and 3 ask for is there, so both hold. Nothing is held at the start, and a client
-- believes in the first bucket alone: a search that is not refused finds exactly the rides
-- accepted, and a client's wrong first sends number at most the buckets at the end less one.
pub record Demanded (m : Memory) (calls : List Call) : Type 0 where
  pub second : Demand2 m calls
  pub third : Demand3 m calls
  pub found : (client key : ℕ) (answer : List ℕ)
      → replied (run m calls) (Search client key answer) ≤ 1
      → Finds key (search (run m calls).file (run m calls).table client key answer)
      (λ ride. Accepted m ride calls)
  pub wrong : (client : ℕ) → exists m.table client ≡ true → NotJoined client calls
      → summed (wrong_first client) m calls ≤ buckets_of (run m calls).file - first_buckets
  pub forwarded : (client : ℕ) → exists m.table client ≡ true → NotJoined client calls
      → summed (forwards_of client) m calls ≤ 2 * (buckets_of (run m calls).file - first_buckets)
