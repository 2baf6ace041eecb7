-- What an insert was accepted with is found in any run after it, by any client of the table.
use Rattle.std.specs.Prelude.{ℕ, ◌≡◌, true, List, length}
use Rattle.client.specs.Table.{exists}
use Rattle.ride.specs.Call.{search}
use Rattle.demands.specs.Run.{Memory, Call, Insert, Search, Typed, AllTyped, after, run, replied, payload_in, Ready}
use Rattle.demands.specs.Run.Held.{run_finds}
use Rattle.demands.specs.Run.Shut.{stored_by}

pub stored : (m : Memory) → Ready m → (client key : ℕ) (payload answer : List ℕ)
    → Typed (Insert client key payload answer) → replied m (Insert client key payload answer) ≡ 0
    → (calls : List Call) → AllTyped calls → (other : ℕ)
    → exists (run (after m (Insert client key payload answer)) calls).table other ≡ true → (block : List ℕ)
    → length block ≡ 24
    → let now = run (after m (Insert client key payload answer)) calls
    in (replied now (Search other key block) ≡ 0)
    × (payload_in (search now.file now.table other key block).block ≡ payload)
stored m ready = stored_by m ready (run_finds m ready.bytes ready.file_is_sound)
