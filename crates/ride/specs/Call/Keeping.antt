-- What a key call keeps that reaches the key's own bucket: the image that it writes is read back, every other client's
-- is as it was, a sound table stays sound; and its forwards are at most two.
use Rattle.std.specs.Prelude.{ℕ, ◌≤◌, ◌≡◌, true, List, length}
use Rattle.std.proofs.Common.{ap, arith}
use Rattle.address.specs.Limits.{first_buckets}
use Rattle.address.specs.Rules.{image_after, forwards}
use Rattle.address.specs.Rules.Route.{forwards_short}
use Rattle.client.specs.Table.{exists, image_of, table_sound}
use Rattle.client.specs.Table.Keeping.{written_image, written_exists, other_image, table_kept}
use Rattle.file.specs.File.{state_of}
use Rattle.answer.specs.Answer.{block, forwards_in}
use Rattle.answer.specs.Answer.Block.{forwards_block}
use Rattle.route.specs.Way.{way_of}
use Rattle.route.specs.Way.Keeping.{Passed, formed, believes, near, written_formed, written_low}
use Rattle.route.specs.Way.Route.{way_route}
use Rattle.ride.specs.Call.{adjusted_table}

module _ (file table : List ℕ) (client key : ℕ) (open_to : Passed file table client) where
  -- the image written is read back, and the table stays sound
  pub adjusted_image : image_of (adjusted_table file table client key) client
      ≡ image_after first_buckets (state_of file) (image_of table client) key
  unfolding adjusted_table
  adjusted_image = written_image table client (image_after first_buckets (state_of file) (image_of table client) key)
      open_to.there (written_low file table client key open_to) (written_formed file table client key open_to)

  pub adjusted_other : (other : ℕ) → (other ≡ client → ⊥)
      → image_of (adjusted_table file table client key) other ≡ image_of table other
  unfolding adjusted_table
  adjusted_other other apart = other_image table client
      (image_after first_buckets (state_of file) (image_of table client) key) open_to.there other apart

  pub adjusted_exists : (other : ℕ) → exists (adjusted_table file table client key) other ≡ exists table other
  unfolding adjusted_table
  adjusted_exists other = written_exists table client
      (image_after first_buckets (state_of file) (image_of table client) key) open_to.there other

  pub adjusted_kept : table_sound table ≡ true → table_sound (adjusted_table file table client key) ≡ true
  unfolding adjusted_table
  adjusted_kept = table_kept table client (image_after first_buckets (state_of file) (image_of table client) key)
      open_to.there (written_low file table client key open_to) (written_formed file table client key open_to)

-- the forwards of a block are at most two
pub forwards_few : (file table : List ℕ) (client key : ℕ) → Passed file table client → (r count : ℕ) (payload : List ℕ)
    → length payload ≡ 14
    → forwards_in (block r (way_of file (image_of table client) key) count payload) ≤ 2
forwards_few file table client key open_to r count payload long =
    omega (
      arith,
      forwards_block r count (way_of file (image_of table client) key) payload long,
      ap forwards (way_route file (image_of table client) key),
      forwards_short first_buckets (omega arith) (state_of file) (formed file table client open_to)
          (image_of table client)
          (believes file table client open_to) (near file table client open_to) key,
    )
