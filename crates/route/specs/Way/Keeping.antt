-- What is known of a call that is not refused before its route: in a sound file no bucket on the route is unsound;
-- the image after it is well formed, not ahead of the file and believes in no fewer buckets.
use Rattle.std.specs.Prelude.{ℕ, ◌+◌, ◌*◌, ◌≤◌, ◌≡◌, true, List, ◌∷◌, length}
use Rattle.std.proofs.Math.Path.{refl, sym, ap}
use Rattle.std.proofs.Common.{◌∙◌, arith}
use Rattle.address.specs.Limits.{first_buckets, most_level}
use Rattle.address.specs.Rules.{Formed, NotAhead, buckets, address, image_after}
use Rattle.address.proofs.Rules.Adjust.{after_formed, after_behind, after_grows}
use Rattle.address.specs.Rules.Route.{delivered}
use Rattle.layout.specs.Replies.{reply}
use Rattle.bucket.specs.Region.{every}
use Rattle.bucket.specs.Region.Every.{every_below, every_last}
use Rattle.client.specs.Table.{image_of, record_sound}
use Rattle.client.specs.Table.Laws.{record_image, record_fits}
use Rattle.file.specs.File.{most_of, state_of, buckets_of, header_sound, bucket_sound_in, file_sound}
use Rattle.file.specs.File.Judge.{header_ranges, existing, state_small}
use Rattle.file.specs.File.Keeping.{sound_bucket}
use Rattle.route.specs.Way.{early, way_of, own_of}
use Rattle.route.specs.Way.Open.{early_passes}
use Rattle.route.specs.Way.Own.{own_is}

-- what a call that is not refused before its route has passed
pub record Passed (file table : List ℕ) (client : ℕ) : Type 0 where
  pub there : 8 * client + 8 ≤ length table
  pub image_sound : record_sound table client ≡ true
  pub header_is_sound : header_sound file ≡ true
  pub behind : buckets first_buckets (image_of table client) ≤ buckets_of file

pub passed : (file table : List ℕ) (client : ℕ) → reply (early file table client) 0 ≡ 0 → Passed file table client
passed file table client none =
    let (passes, recorded, headed, near) = early_passes file table client none in
    record { there = record_fits table client passes; image_sound = recorded; header_is_sound = headed; behind = near }

module _ (file table : List ℕ) (client : ℕ) (open_to : Passed file table client) where
  pub formed : Formed first_buckets (state_of file)
  formed = (header_ranges file open_to.header_is_sound).formed

  pub believes : Formed first_buckets (image_of table client)
  believes = (record_image table client open_to.image_sound).1

  pub near : NotAhead first_buckets (state_of file) (image_of table client)
  near = omega (arith, open_to.behind, existing file)

module _ (file table : List ℕ) (client key : ℕ) (open_to : Passed file table client) where
  -- in a sound file no bucket on a route is unsound
  pub route_sound : file_sound file ≡ true
      → every (bucket_sound_in file) (way_of file (image_of table client) key) ≡ true
  unfolding way_of
  route_sound sound =
      let (h, short, d) = delivered first_buckets (omega arith) (state_of file) (formed file table client open_to)
      (image_of table client) (believes file table client open_to) (near file table client open_to) key in
      ap (every (bucket_sound_in file)) d.is
      ∙ every_below (bucket_sound_in file) (buckets first_buckets (state_of file))
      (λ a l. sound_bucket file sound a (omega (arith, l, existing file)))
      (address first_buckets (image_of table client) key ∷ d.rest) d.exist

  -- where no bucket on it is, the key's own bucket is sound: the route ends there
  pub own_sound : every (bucket_sound_in file) (way_of file (image_of table client) key) ≡ true
      → bucket_sound_in file (own_of file key) ≡ true
  unfolding way_of
  own_sound all =
      let (h, short, d) = delivered first_buckets (omega arith) (state_of file) (formed file table client open_to)
      (image_of table client) (believes file table client open_to) (near file table client open_to) key in
      ap (bucket_sound_in file) (own_is file key _ refl ∙ sym d.ends)
      ∙ every_last (bucket_sound_in file) (address first_buckets (image_of table client) key) d.rest
      (sym (ap (every (bucket_sound_in file)) d.is) ∙ all)

  -- the image that a call writes
  pub written_formed : Formed first_buckets (image_after first_buckets (state_of file) (image_of table client) key)
  written_formed = after_formed first_buckets (omega arith) (state_of file) (formed file table client open_to)
      (image_of table client) (believes file table client open_to) (near file table client open_to) key

  pub written_behind : NotAhead first_buckets (state_of file)
      (image_after first_buckets (state_of file) (image_of table client) key)
  written_behind = after_behind first_buckets (omega arith) (state_of file) (formed file table client open_to)
      (image_of table client) (believes file table client open_to) (near file table client open_to) key

  pub written_grows : buckets first_buckets (image_of table client)
      ≤ buckets first_buckets (image_after first_buckets (state_of file) (image_of table client) key)
  written_grows = after_grows first_buckets (omega arith) (state_of file) (formed file table client open_to)
      (image_of table client) (believes file table client open_to) (near file table client open_to) key

  pub written_low : (image_after first_buckets (state_of file) (image_of table client) key).level ≤ most_level
  written_low = (state_small (image_after first_buckets (state_of file) (image_of table client) key) (most_of file)
      (header_ranges file open_to.header_is_sound).figured.few_buckets written_formed
      (omega (arith, written_behind, existing file, (header_ranges file open_to.header_is_sound).few))).0
