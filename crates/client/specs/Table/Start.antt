-- Clients at their start: one that is joined is at (0, 0) and its record is sound, and so it stays when others are
-- joined; a table of a sound length whose clients are all there is sound.
use Rattle.std.specs.Prelude.{ℕ, ◌+◌, ◌*◌, ◌/◌, ◌%◌, ◌≤◌, ◌≡◌, refl, true, ◌&&◌, List, leb, ltb, eqb, length}
use Rattle.std.proofs.Common.{ap, ◌∙◌, arith, lt-ltb}
use Rattle.std.proofs.Math.Logic.{by_cases}
use Rattle.std.proofs.Math.Decide.{ℕ_discrete}
use Rattle.address.specs.Limits.{first_buckets, most_table}
use Rattle.address.specs.Rules.{«at», Formed}
use Rattle.address.specs.Rules.Hash.{span_pos}
use Rattle.layout.specs.Bytes.Tests.{and_both, all_of}
use Rattle.client.specs.Table.{length_sound, exists, image_of, record_sound, table_sound, with_image}
use Rattle.client.specs.Table.{join}
use Rattle.client.specs.Table.Keeping.{written_length, written_other, other_image, written_image, written_sound}
use Rattle.client.specs.Table.Keeping.{client_passes}
use Rattle.client.specs.Table.Laws.{join_ways, record_fits}

-- a client at (0, 0) whose record is sound
pub record AtStart (table : List ℕ) (client : ℕ) : Type 0 where
  pub sound : record_sound table client ≡ true
  pub is : image_of table client ≡ «at» 0 0

-- what a table's length decides
pub same_exists : (table other : List ℕ) → length other ≡ length table → (client : ℕ)
    → exists other client ≡ exists table client
unfolding exists
same_exists table other e client = ap (λ (n : ℕ). ltb client (n / 8)) e

pub same_sound : (table other : List ℕ) → length other ≡ length table → length_sound other ≡ length_sound table
unfolding length_sound
same_sound table other e = ap (λ (n : ℕ). ltb 0 n && leb n most_table && eqb (n % 8) 0) e

-- a table whose clients all have sound records
pub table_whole : (table : List ℕ) → length_sound table ≡ true
    → ((client : ℕ) → exists table client ≡ true → record_sound table client ≡ true) → table_sound table ≡ true
unfolding table_sound exists
table_whole table long each = and_both (length_sound table) _ long
    (all_of (record_sound table) (length table / 8) (λ client l. each client (lt-ltb client (length table / 8) l)))

module _ (table : List ℕ) (client : ℕ) where
  first_formed : Formed first_buckets («at» 0 0)
  first_formed = span_pos first_buckets (omega arith) 0

  written_start : 8 * client + 8 ≤ length table → AtStart (with_image table client («at» 0 0)) client
  written_start fits = record {
    sound = written_sound table client («at» 0 0) fits (omega arith) first_formed;
    is = written_image table client («at» 0 0) fits (omega arith) first_formed;
  }

  -- a join keeps the length, puts its client at the start, and leaves those who are there
  pub join_length : length (join table client).table ≡ length table
  join_length = join_ways (λ o. length o.table ≡ length table) table client (λ r e some. refl)
      (λ none. written_length table client («at» 0 0) (record_fits table client none))

  pub join_starts : length_sound table ≡ true → exists table client ≡ true → AtStart (join table client).table client
  join_starts long there = join_ways (λ o. AtStart o.table client) table client
      (λ r e some. absurd (some (e ∙ client_passes table long client there)))
      (λ none. written_start (record_fits table client none))

  pub join_stays : (other : ℕ) → AtStart table other → AtStart (join table client).table other
  join_stays other start = join_ways (λ o. AtStart o.table other) table client (λ r e some. start)
      (λ none. by_cases (ℕ_discrete other client)
      (λ e. rw e (written_start (record_fits table client none)))
      (λ apart. record {
        sound = written_other table client («at» 0 0) (record_fits table client none) other apart ∙ start.sound;
        is = other_image table client («at» 0 0) (record_fits table client none) other apart ∙ start.is;
      }))
