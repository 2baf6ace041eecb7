-- At the key's own bucket: the payload in its slot, and the table with the image after the call.
use Rattle.std.specs.Prelude.{ℕ, ◌+◌, ◌*◌, ◌≤◌, ◌<◌, ◌≡◌, true, List, ltb, length}
use Rattle.std.proofs.Common.{sym, ap, ◌∙◌, arith, ltb-true}
use Rattle.address.specs.declared.Image.{Image}
use Rattle.layout.specs.Bytes.{edit, part}
use Rattle.layout.specs.Bytes.Edit.{length_part, part_part}
use Rattle.bucket.specs.Region.{slot_at, count_of, ride_at}
use Rattle.bucket.specs.Region.Judge.{ride_payload}
use Rattle.file.specs.File.{most_of, slots_of, buckets_of, start_of, region_of}
use Rattle.file.specs.File.Region.{region_is, region_fits, sound_few}
use Rattle.file.specs.File.Judge.{Known}
use Rattle.file.specs.declared.Header.{Header}
use Rattle.route.specs.declared.walk.Walk.{Walk}
use Rattle.route.specs.Way.{noted}
use Rattle.route.specs.Way.Reach.{AtOwn}
use Rattle.answer.specs.Answer.{block, no_payload}
use Rattle.answer.specs.Answer.Block.{block_payload}

-- a key that is held is in a slot of the bucket
pub held_low : {file table : List ℕ} {client key : ℕ} {header : Header} {image : Image} {walk : Walk} {a place : ℕ}
    → AtOwn file table client key header image walk a place → {count : ℕ} → count ≡ count_of (region_of file a)
    → ltb place count ≡ true → place < slots_of file
held_low {file} {a = a} {place = place} own {count} en h =
    omega (arith, ltb-true place count h, en, sound_few file a own.good)

-- a payload, cut out of the file
module _ {file : List ℕ} {header : Header} (seen : Known file header) {a at k : ℕ} (there : a < buckets_of file)
    (ea : at ≡ start_of header.slots a) (low : k < slots_of file) where
  here : at ≡ start_of (slots_of file) a
  here = ea ∙ ap (λ (S : ℕ). start_of S a) seen.slots

  exists : a < most_of file
  exists = omega (arith, there, seen.ranges.few)

  pub payload_within : at + (18 + 24 * k) + 14 ≤ length file
  payload_within = omega (arith, region_fits file seen.ranges a exists, here)

  payload_cut : part (at + (18 + 24 * k)) 14 file ≡ (ride_at (region_of file a) k).payload
  payload_cut = ap (λ (p : ℕ). part p 14 file) place
      ∙ sym (ride_payload (region_of file a) k ∙ ap (part (slot_at k + 10) 14) (region_is file a)
      ∙ part_part (start_of (slots_of file) a) (slot_at (slots_of file)) (slot_at k + 10) 14 file (omega arith)
      (region_fits file seen.ranges a exists))
    where
      place : at + (18 + 24 * k) ≡ start_of (slots_of file) a + (slot_at k + 10)
      place = omega (arith, here)

  -- so the block with it is written as a block without one, and the payload over that
  pub found_written : (walk : Walk) {one two : List ℕ} → one ≡ block 0 (noted walk) 0 no_payload
      → two ≡ edit 10 (part (at + (18 + 24 * k)) 14 file) one
      → two ≡ block 0 (noted walk) 0 (ride_at (region_of file a) k).payload
  found_written walk e1 e2 = e2 ∙ ap (edit 10 _) e1
      ∙ block_payload 0 0 (noted walk) _ (length_part (at + (18 + 24 * k)) 14 file payload_within)
      ∙ ap (block 0 (noted walk) 0) payload_cut
