-- At the key's own bucket, by what was found there: refused with 8 or 9, or accepted.
use Rattle.std.specs.Prelude.{ℕ, ◌≤◌, ◌<◌, ◌≡◌, Bool, true, false, cond, leb, ltb}
use Rattle.std.proofs.Math.Path.{refl, sym}
use Rattle.std.proofs.Common.{subst, arith}
use mathlib.Core.List.{List}
use borrow.Author.Tests.{lt-ltb, le-ltb, le-leb, lt-leb, leb-false}
use Rattle.address.specs.declared.Image.{Image}
use Rattle.bucket.specs.Region.{count_of}
use Rattle.client.specs.Table.{with_image}
use Rattle.file.specs.File.{region_of}
use Rattle.file.specs.declared.Header.{Header}
use Rattle.answer.specs.Answer.{block, no_payload}
use Rattle.route.specs.declared.Walk.{Walk}
use Rattle.route.specs.Way.{noted, adjusted_by}
use Rattle.route.specs.Way.Reach.{AtOwn}
use Rattle.ride.specs.Call.{placed}
use Rattle.ride.specs.Call.Replied.{insert_held, insert_full}

-- 8, the key is held; 9, no slot is free; by what was found there
pub refusal_at : ℕ → ℕ → ℕ → ℕ
refusal_at place count slots = cond (ltb place count) 8 (cond (leb slots count) 9 0)

pub at_held : (place count slots : ℕ) → place < count → 8 ≡ refusal_at place count slots
unfolding refusal_at
at_held place count slots h = rw (lt-ltb place count h)

module _ (place count slots : ℕ) (free : count ≤ place) where
  pub at_full : slots ≤ count → 9 ≡ refusal_at place count slots
  unfolding refusal_at
  at_full h = rw (le-ltb place count free, le-leb slots count h)

  pub at_free : count < slots → 0 ≡ refusal_at place count slots
  unfolding refusal_at
  at_free h = rw (le-ltb place count free, lt-leb slots count h)

pub refusal_ways : (place count slots : ℕ) (P : ℕ → Type 0) → (ltb place count ≡ true → P 8)
    → (ltb place count ≡ false → leb slots count ≡ true → P 9)
    → (ltb place count ≡ false → leb slots count ≡ false → P 0) → P (refusal_at place count slots)
unfolding refusal_at
refusal_ways place count slots P there whole fine = go (ltb place count) refl (leb slots count) refl
  where
    go : (x : Bool) → ltb place count ≡ x → (y : Bool) → leb slots count ≡ y → P (cond x 8 (cond y 9 0))
    go true ex y ey = there ex
    go false ex true ey = whole ex ey
    go false ex false ey = fine ex ey

pub accepted_at : (place count slots : ℕ) → refusal_at place count slots ≡ 0
    → (ltb place count ≡ false) × (leb slots count ≡ false)
accepted_at place count slots = refusal_ways place count slots
    (λ r. r ≡ 0 → (ltb place count ≡ false) × (leb slots count ≡ false))
    (λ h e. absurd (omega (arith, e))) (λ h l e. absurd (omega (arith, e))) (λ h l e. (h, l))

pub slot_free : (place count slots : ℕ) → refusal_at place count slots ≡ 0 → count < slots
slot_free place count slots none = leb-false slots count (accepted_at place count slots none).1

-- refused there, the image is adjusted and nothing is placed
pub turned_away : {file table : List ℕ} {client key : ℕ} {header : Header} {image : Image} {walk : Walk} {a place : ℕ}
    → AtOwn file table client key header image walk a place → {count : ℕ} → count ≡ count_of (region_of file a)
    → {refused : ℕ} → refused ≡ refusal_at place count header.slots → (refused ≡ 0 → ⊥) → (payload : List ℕ)
    → {left after : List ℕ} → left ≡ block refused (noted walk) 0 no_payload
    → after ≡ with_image table client (adjusted_by header.state image walk)
    → record { answer = refused; block = left; table = after; file = file } ≡ placed file table client key payload
turned_away {file} {table} {client} {key} {header} {walk = walk} {place = place} own {count} en er some payload
    {left = left} {after = after} el et = subst Away (sym er) away some el
  where
    Away : ℕ → Type 0
    Away reply = (reply ≡ 0 → ⊥) → left ≡ block reply (noted walk) 0 no_payload
        → record { answer = reply; block = left; table = after; file = file }
        ≡ placed file table client key payload

    away : Away (refusal_at place count header.slots)
    away = refusal_ways place count header.slots Away (λ h z e. insert_held own et en payload h e)
        (λ h l z e. insert_full own et en payload h l e) (λ h l z e. absurd (z refl))
