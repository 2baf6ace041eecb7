-- From nothing: a file just made holds nothing, and a client joined is at (0, 0) with a sound record and stays so while
-- others are joined; so once every client of the table is joined, the memory is ready (put together in
-- proofs/Run/Fresh.antt).
use Rattle.std.specs.Prelude.{ℕ, ◌≡◌, refl, ◌⊎◌, length}
use Rattle.std.proofs.Math.Path.{sym, ap, subst}
use Rattle.std.proofs.Common.{◌∙◌, inl, inr, ⊎_elim}
use Rattle.std.proofs.Math.Bool.{true}
use mathlib.Core.List.Memᴰ
use mathlib.Core.List.{List, [], ◌∷◌, map, Memᴰ}
use native.Mathlib.Omega.{arith}
use Rattle.address.specs.Limits.{first_buckets}
use Rattle.address.specs.Rules.{«at», buckets}
use Rattle.address.specs.Rules.Cases.{buckets_is}
use Rattle.address.specs.Rules.Hash.{span_is}
use Rattle.bucket.specs.Region.{Ride}
use Rattle.client.specs.Table.{length_sound, exists, join}
use Rattle.client.specs.Table.Start.{AtStart, same_exists, same_sound, table_whole, join_length, join_starts}
use Rattle.client.specs.Table.Start.{join_stays}
use Rattle.file.specs.File.{create}
use Rattle.file.specs.File.Create.{Fresh, create_fresh}
use Rattle.ride.specs.Call.{Outcome}
use Rattle.demands.specs.Run.{Memory, Call, Join, after, answered, run, Holds, Accepted, Kept, Finds}
use Rattle.demands.specs.Run.{Ready, believed, started, FromNothing}

-- what is left once some clients are joined
record Joins (m now : Memory) (clients : List ℕ) : Type 0 where
  file : now.file ≡ m.file
  long : length now.table ≡ length m.table
  start : (client : ℕ) → exists m.table client ≡ true → AtStart m.table client ⊎ Memᴰ client clients
      → AtStart now.table client

joins : (clients : List ℕ) (m : Memory) → length_sound m.table ≡ true → Joins m (run m (map Join clients)) clients
unfolding run after answered
joins [] m sound = record {
  file = refl;
  long = refl;
  start = λ client there. ⊎_elim (λ s. s) (λ none. absurd (Memᴰ.not-nil none));
}
joins (first ∷ clients) m sound = more (joins clients then sound_then)
  where
    then : Memory
    then = record { file = m.file; table = (join m.table first).table }

    long_then : length (join m.table first).table ≡ length m.table
    long_then = join_length m.table first

    sound_then : length_sound (join m.table first).table ≡ true
    sound_then = same_sound m.table (join m.table first).table long_then ∙ sound

    more : Joins then (run then (map Join clients)) clients → Joins m (run then (map Join clients)) (first ∷ clients)
    more rest = record {
      file = rest.file;
      long = rest.long ∙ long_then;
      start = λ client there start. rest.start client
          (same_exists m.table (join m.table first).table long_then client ∙ there)
          (⊎_elim (λ s. inl (join_stays m.table first client s))
          (λ among. ⊎_elim
          (λ e. inl (subst (AtStart (join m.table first).table) (sym e)
          (join_starts m.table first sound (subst (λ (c : ℕ). exists m.table c ≡ true) e there))))
          (λ later. inr later) (Memᴰ.cases_cons among)) start);
    }

module _ (file table : List ℕ) (b S M : ℕ) (clients : List ℕ) (given : FromNothing file table b S M clients) where
  made : Memory
  made = record { file = (create file b S M).file; table = table }

  now : Memory
  now = started file table b S M clients

  joined : Joins made now clients
  unfolding made now started
  joined = joins clients (record { file = (create file b S M).file; table = table }) given.long

  fresh : Fresh now.file
  unfolding made
  fresh = subst Fresh (sym joined.file) (create_fresh file b S M given.made)

  -- every client is at its start
  pub at_start : (client : ℕ) → exists (started file table b S M clients).table client ≡ true
      → AtStart (started file table b S M clients).table client
  unfolding made now
  at_start client there =
      let was : exists table client ≡ true = sym (same_exists table now.table joined.long client) ∙ there in
      joined.start client was (inr (given.all_joined client was))

  one : buckets first_buckets («at» 0 0) ≡ first_buckets
  one = buckets_is first_buckets («at» 0 0) ∙ omega (arith, span_is first_buckets 0)

  -- with every client at its start the memory is ready, and each client believes in the first buckets
  pub ready_at : ((client : ℕ) → exists (started file table b S M clients).table client ≡ true
      → AtStart (started file table b S M clients).table client) → Ready (started file table b S M clients)
  unfolding made now
  ready_at start = record {
    bytes = fresh.bytes;
    file_is_sound = fresh.sound;
    table_is_sound = table_whole now.table (same_sound table now.table joined.long ∙ given.long)
        (λ client there. (start client there).sound);
    none_ahead = λ client there. omega (
      arith,
      ap (buckets first_buckets) (start client there).is,
      ap (buckets first_buckets) fresh.start,
    );
  }

  pub believes_at : (client : ℕ) → AtStart (started file table b S M clients).table client
      → believed client (started file table b S M clients) ≡ first_buckets
  unfolding believed now
  believes_at client start = ap (buckets first_buckets) start.is ∙ one

  -- nothing is held
  pub fresh_empty : (ride : Ride) → Holds (started file table b S M clients).file ride → ⊥
  unfolding Holds now
  fresh_empty ride (a, there, among) = Memᴰ.not-nil (subst (Memᴰ ride) (fresh.empty a there) among)

-- where nothing was held at the start, what is kept is what was accepted
pub finds_accepted : (m : Memory) (calls : List Call) {key : ℕ} {outcome : Outcome}
    → Finds key outcome (Kept m calls) → ((ride : Ride) → Holds m.file ride → ⊥)
    → Finds key outcome (λ ride. Accepted m ride calls)
unfolding Kept
finds_accepted m calls found none = record {
  present = λ payload. (
    λ h. ⊎_elim (λ held. absurd (none _ held)) (λ since. since) ((found.present payload).0 h),
    λ since. (found.present payload).1 (inr since),
  );
  absent = (
    λ e payload since. found.absent.0 e payload (inr since),
    λ nowhere. found.absent.1 (λ payload. ⊎_elim (λ held. none _ held) (nowhere payload)),
  );
}
