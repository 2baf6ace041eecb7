-- What an accepted insert leaves, from what was found in the own bucket and what was written.
use Rattle.std.specs.Prelude.{ℕ, ◌+◌, ◌≡◌, false, leb, ltb, List}
use Rattle.std.proofs.Common.{ap₂, ◌∙◌}
use Rattle.address.specs.declared.Image.{Image}
use Rattle.bucket.specs.Region.{count_of}
use Rattle.client.specs.Table.{with_image}
use Rattle.file.specs.File.{region_of, with_ride}
use Rattle.file.specs.declared.Header.{Header}
use Rattle.answer.specs.Answer.{block, no_payload}
use Rattle.route.specs.declared.walk.Walk.{Walk}
use Rattle.route.specs.Way.{noted, adjusted_by}
use Rattle.route.specs.Way.Reach.{AtOwn}
use Rattle.ride.specs.Call.{placed}
use Rattle.ride.specs.Call.Own.{refusal_at, accepted_at}
use Rattle.ride.specs.Call.Replied.{count_is, inserted_is, placed_done, adjusted_is, held_at, full_at}

module _ {file table : List ℕ} {client key : ℕ} {header : Header} {image : Image} {walk : Walk} {a place : ℕ}
    (own : AtOwn file table client key header image walk a place) {after : List ℕ}
    (et : after ≡ with_image table client (adjusted_by header.state image walk)) {count : ℕ}
    (en : count ≡ count_of (region_of file a)) (payload : List ℕ) {left : List ℕ} where
  pub insert_done : ltb place count ≡ false → leb header.slots count ≡ false → {grown : List ℕ}
      → grown ≡ with_ride file a (record { key = key; payload = payload })
      → left ≡ block 0 (noted walk) (count + 1) no_payload
      → record { answer = 0; block = left; table = after; file = grown } ≡ placed file table client key payload
  insert_done h l {grown} ex el =
      (λ i.
      record {
        answer = 0;
        block = (el ∙ ap₂ (λ (w : List ℕ) (n : ℕ). block 0 w n no_payload) own.way
            (count_is file key a own.own en)) i;
        table = adjusted_is own et en i;
        file = inserted_is file key a own.own payload grown ex i;
      }) ∙ placed_done file table client key payload (held_at own et en h)
      (full_at own et en l)

-- the same of a bucket at which nothing refuses
pub placed_there : {file table : List ℕ} {client key : ℕ} {header : Header} {image : Image} {walk : Walk} {a place : ℕ}
    → AtOwn file table client key header image walk a place → {count : ℕ} → count ≡ count_of (region_of file a)
    → refusal_at place count header.slots ≡ 0 → (payload : List ℕ) → {left after next : List ℕ}
    → after ≡ with_image table client (adjusted_by header.state image walk)
    → next ≡ with_ride file a (record { key = key; payload = payload })
    → left ≡ block 0 (noted walk) (count + 1) no_payload
    → record { answer = 0; block = left; table = after; file = next } ≡ placed file table client key payload
placed_there {header = header} {place = place} own {count} en none payload et ef el =
    let (h, l) = accepted_at place count header.slots none in
    insert_done own et en payload h l ef el
