-- From nothing: once every client of the table is joined, the memory is ready.
use Rattle.std.specs.Prelude.{ℕ, ◌≡◌, true, List}
use Rattle.address.specs.Limits.{first_buckets}
use Rattle.client.specs.Table.{exists}
use Rattle.demands.specs.Run.{Ready, believed, started, FromNothing}
use Rattle.demands.specs.Run.Fresh.{at_start, ready_at, believes_at}

module _ (file table : List ℕ) (b S M : ℕ) (clients : List ℕ) (given : FromNothing file table b S M clients) where
  pub fresh_ready : Ready (started file table b S M clients)
  fresh_ready = ready_at file table b S M clients given (at_start file table b S M clients given)

  pub fresh_believes : (client : ℕ) → exists (started file table b S M clients).table client ≡ true
      → believed client (started file table b S M clients) ≡ first_buckets
  fresh_believes client there = believes_at file table b S M clients given client
      (at_start file table b S M clients given client there)
