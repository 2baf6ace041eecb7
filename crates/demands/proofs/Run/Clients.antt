-- A wrong first send makes the client believe in more buckets, and it never believes in more than there are.
use Rattle.std.specs.Prelude.{ℕ, ◌+◌, ◌≤◌, ◌≡◌, true, List}
use Rattle.client.specs.Table.{exists}
use Rattle.file.specs.File.{buckets_of}
use Rattle.demands.specs.Run.{Memory, Call, AllTyped, run, Ready, believed, wrong_first, summed, NotJoined}
use Rattle.demands.specs.Run.Clients.{step_counts, sends_over}

pub wrong_sends : (client : ℕ) (m : Memory) → Ready m → exists m.table client ≡ true → (calls : List Call)
    → AllTyped calls → NotJoined client calls
    → summed (wrong_first client) m calls + believed client m ≤ buckets_of (run m calls).file
wrong_sends client = sends_over client (λ m ready there call old. step_counts m ready client there call old)
