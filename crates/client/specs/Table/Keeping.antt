-- What writing an image keeps: it is read back, every other record stays, so a sound table stays sound.
-- A record is judged by its own eight bytes.
use Rattle.std.specs.Prelude.{ℕ, ◌+◌, ◌*◌, ◌/◌, ◌%◌, ◌≤◌, ◌<◌, ◌≡◌}
use Rattle.std.proofs.Math.Path.{refl, ap, ap₂}
use Rattle.std.proofs.Common.{sym, ◌∙◌, add-zero}
use Rattle.std.proofs.Math.Bool.{true, ◌&&◌}
use mathlib.Core.List.{List, [], ◌∷◌, ◌++◌}
use Rattle.std.proofs.Math.Logic.{by_cases}
use Rattle.std.proofs.Math.Decide.{ℕ_discrete, dec_lt}
use native.Mathlib.Omega.{arith}
use borrow.Author.Tests.{lt-ltb, ltb-true, le-leb, eqb-true}
use Rattle.std.proofs.Math.Dec.{leb, ltb, eqb}
use Rattle.std.proofs.Math.ListN.{length, get_or}
use Rattle.address.specs.Limits.{first_buckets, most_level, most_table}
use Rattle.address.specs.declared.Image.{Image}
use Rattle.address.specs.Rules.{Formed, span}
use Rattle.address.specs.Rules.Hash.{span_is, span_mono}
use Rattle.layout.specs.Bytes.{Bytes, byte_at, le_at, marked, part}
use Rattle.layout.specs.Bytes.Tests.{and_left, and_right, and_both, all_at, all_of}
use Rattle.layout.specs.Bytes.Edit.{length_edit, edit_before, edit_in, edit_after, part_split, part_two}
use Rattle.layout.specs.Bytes.Apart.{edit_same}
use Rattle.layout.specs.Bytes.Numbers.{le_two, le_again, le_bytes_two}
use Rattle.layout.specs.Replies.{reply}
use Rattle.client.specs.Table.{client_mark, length_sound, exists, image_of, record_formed, image_formed, record_sound}
use Rattle.client.specs.Table.{table_sound, table_refusals, image_bytes, with_image}
use Rattle.client.specs.Table.Laws.{not_refused}

-- the eight bytes of an image
bytes_is : (image : Image) → image_bytes image
    ≡ 76 ∷ 67 ∷ image.level ∷ 0 ∷ image.pointer % 256 ∷ image.pointer / 256 % 256 ∷ 0 ∷ 0 ∷ []
unfolding image_bytes
bytes_is image = rw (le_bytes_two image.pointer)

-- two records of the same bytes have the same image, and are judged alike
module _ (table other : List ℕ) (client : ℕ)
    (same : (k : ℕ) → k < 8 → get_or other (8 * client + k) 0 ≡ get_or table (8 * client + k) 0) where
  image_same : image_of other client ≡ image_of table client
  unfolding image_of
  image_same = λ i. record { level = same 2 (omega arith) i; pointer = number i }
    where
      later : (l : List ℕ) → get_or l (8 * client + 4 + 1) 0 ≡ get_or l (8 * client + 5) 0
      later l = ap (λ (i : ℕ). get_or l i 0) next
        where
          next : 8 * client + 4 + 1 ≡ 8 * client + 5
          next = omega arith

      number : le_at 2 other (8 * client + 4) ≡ le_at 2 table (8 * client + 4)
      number = sym (le_two other (8 * client + 4))
          ∙ ap₂ (λ (x y : ℕ). x + y * 256) (same 4 (omega arith))
          (later other ∙ same 5 (omega arith) ∙ sym (later table)) ∙ le_two table (8 * client + 4)

  record_same : record_sound other client ≡ record_sound table client
  unfolding record_sound record_formed
  record_same =
      ap₂ ◌&&◌
      (ap₂ ◌&&◌
      (ap₂ ◌&&◌
      (ap₂ ◌&&◌ (ap₂ ◌&&◌ (ap (λ (x : ℕ). eqb x 76) first) (ap (λ (x : ℕ). eqb x 67) (same 1 (omega arith))))
      (ap (λ (x : ℕ). eqb x 0) (same 3 (omega arith))))
      (ap (λ (x : ℕ). eqb x 0) (same 6 (omega arith))))
      (ap (λ (x : ℕ). eqb x 0) (same 7 (omega arith))))
      (ap image_formed image_same)
    where
      first : get_or other (8 * client) 0 ≡ get_or table (8 * client) 0
      first = ap (λ (i : ℕ). get_or other i 0) (sym (add-zero (8 * client))) ∙ same 0 (omega arith)
          ∙ ap (λ (i : ℕ). get_or table i 0) (add-zero (8 * client))

module _ (table : List ℕ) (client : ℕ) (image : Image) (fits : 8 * client + 8 ≤ length table) where
  long : length (image_bytes image) ≡ 8
  long = ap length (bytes_is image)

  room : 8 * client + length (image_bytes image) ≤ length table
  room = omega (arith, long)

  pub written_length : length (with_image table client image) ≡ length table
  unfolding with_image
  written_length = length_edit (8 * client) (image_bytes image) table room

  pub written_exists : (other : ℕ) → exists (with_image table client image) other ≡ exists table other
  unfolding exists
  written_exists other = ap (λ (n : ℕ). ltb other (n / 8)) written_length

  -- byte k of the record is byte k of the image
  byte_here : (k : ℕ) → k < 8 → get_or (with_image table client image) (8 * client + k) 0
      ≡ get_or (76 ∷ 67 ∷ image.level ∷ 0 ∷ image.pointer % 256 ∷ image.pointer / 256 % 256 ∷ 0 ∷ 0 ∷ []) k 0
  unfolding with_image
  byte_here k h = edit_in (8 * client) (image_bytes image) table room k (omega (arith, long))
      ∙ ap (λ (l : List ℕ). get_or l k 0) (bytes_is image)

  -- every other record stays as it was, byte by byte
  module _ (other : ℕ) (apart : other ≡ client → ⊥) where
    byte_kept : (k : ℕ) → k < 8
        → get_or (with_image table client image) (8 * other + k) 0 ≡ get_or table (8 * other + k) 0
    unfolding with_image
    byte_kept k h = by_cases (dec_lt other client)
        (λ l. edit_before (8 * client) (image_bytes image) table room (8 * other + k) (omega arith))
        (λ l. edit_after (8 * client) (image_bytes image) table room (8 * other + k) (omega (arith, long, apart)))

    pub written_other : record_sound (with_image table client image) other ≡ record_sound table other
    written_other = record_same table (with_image table client image) other byte_kept

    pub other_image : image_of (with_image table client image) other ≡ image_of table other
    other_image = image_same table (with_image table client image) other byte_kept

  module _ (low : image.level ≤ most_level) (formed : Formed first_buckets image) where
    small : image.pointer < 65536
    small = omega (arith, formed, span_mono first_buckets low, span_is first_buckets most_level)

    pub written_image : image_of (with_image table client image) client ≡ image
    unfolding image_of
    written_image = λ i. record { level = byte_here 2 (omega arith) i; pointer = number i }
      where
        second : get_or (with_image table client image) (8 * client + 4 + 1) 0 ≡ image.pointer / 256 % 256
        second = ap (λ (i : ℕ). get_or (with_image table client image) i 0) next ∙ byte_here 5 (omega arith)
          where
            next : 8 * client + 4 + 1 ≡ 8 * client + 5
            next = omega arith

        number : le_at 2 (with_image table client image) (8 * client + 4) ≡ image.pointer
        number = sym (le_two (with_image table client image) (8 * client + 4))
            ∙ ap₂ (λ (x y : ℕ). x + y * 256) (byte_here 4 (omega arith)) second ∙ omega (arith, small)

    pub written_sound : record_sound (with_image table client image) client ≡ true
    unfolding record_sound record_formed image_formed
    written_sound = rw (
      ap (λ (i : ℕ). get_or (with_image table client image) i 0) (sym (add-zero (8 * client)))
          ∙ byte_here 0 (omega arith),
      byte_here 1 (omega arith),
      byte_here 3 (omega arith),
      byte_here 6 (omega arith),
      byte_here 7 (omega arith),
      written_image,
      le-leb image.level most_level low,
      lt-ltb image.pointer (span first_buckets image.level) formed,
    )

    -- a sound table stays sound
    pub table_kept : table_sound table ≡ true → table_sound (with_image table client image) ≡ true
    unfolding table_sound length_sound
    table_kept h = and_both _ _
        (ap (λ (n : ℕ). ltb 0 n && leb n most_table && eqb (n % 8) 0) written_length ∙ and_left _ _ h)
        (all_of (record_sound (with_image table client image)) (length (with_image table client image) / 8) each)
      where
        each : (k : ℕ) → k < length (with_image table client image) / 8
            → record_sound (with_image table client image) k ≡ true
        each k l = by_cases (ℕ_discrete k client)
            (λ e. ap (record_sound (with_image table client image)) e ∙ written_sound)
            (λ apart. written_other k apart
            ∙ all_at (record_sound table) (length table / 8) k (and_right (length_sound table) _ h)
            (omega (arith, l, ap (λ (n : ℕ). n / 8) written_length)))

-- a sound record has its own image written, so that writing it again changes nothing
module _ (table : List ℕ) (client : ℕ) (sound : record_sound table client ≡ true) (bytes : Bytes table) where
  formed_bytes : (byte_at table (8 * client) ≡ 76) × (byte_at table (8 * client + 1) ≡ 67)
      × (byte_at table (8 * client + 3) ≡ 0) × (byte_at table (8 * client + 6) ≡ 0)
      × (byte_at table (8 * client + 7) ≡ 0)
  unfolding record_sound record_formed
  formed_bytes =
      let h4 = and_left _ _ sound in
      let h3 = and_left _ _ h4 in
      let h2 = and_left _ _ h3 in
      let h1 = and_left _ _ h2 in (
        eqb-true _ _ (and_left _ _ h1),
        eqb-true _ _ (and_right (eqb (byte_at table (8 * client)) 76) _ h1),
        eqb-true _ _ (and_right (marked table (8 * client) client_mark) _ h2),
        eqb-true _ _
            (and_right (marked table (8 * client) client_mark && eqb (byte_at table (8 * client + 3)) 0) _ h3),
        eqb-true _ _
            (and_right (marked table (8 * client) client_mark && eqb (byte_at table (8 * client + 3)) 0
            && eqb (byte_at table (8 * client + 6)) 0) _ h4),
      )

  image_bytes_lem : 8 * client + 8 ≤ length table → part (8 * client) 8 table ≡ image_bytes (image_of table client)
  unfolding image_of image_bytes
  image_bytes_lem fits =
      part_split (8 * client) 2 6 table
      ∙ ap₂ ◌++◌ (two (8 * client) 76 67 (omega arith) formed_bytes.0 formed_bytes.1)
      (part_split (8 * client + 2) 2 4 table
      ∙ ap₂ ◌++◌ (two (8 * client + 2) _ 0 (omega arith) refl (moved 2 1 3 (omega arith) ∙ formed_bytes.2))
      (ap (λ (at : ℕ). part at 4 table) four ∙ part_split (8 * client + 4) 2 2 table
      ∙ ap₂ ◌++◌ (sym (le_again 2 table (8 * client + 4) bytes (omega arith)))
      (ap (λ (at : ℕ). part at 2 table) six
      ∙ two (8 * client + 6) 0 0 (omega arith) formed_bytes.3 (moved 6 1 7 (omega arith) ∙ formed_bytes.4))))
    where
      moved : (a b c : ℕ) → a + b ≡ c → byte_at table (8 * client + a + b) ≡ byte_at table (8 * client + c)
      moved a b c e = ap (byte_at table) (omega arith)

      four : 8 * client + 2 + 2 ≡ 8 * client + 4
      four = omega arith

      six : 8 * client + 4 + 2 ≡ 8 * client + 6
      six = omega arith

      two : (at x y : ℕ) → at + 2 ≤ length table → byte_at table at ≡ x → byte_at table (at + 1) ≡ y
          → part at 2 table ≡ x ∷ y ∷ []
      two at x y within ex ey = part_two at table within ∙ ap₂ (λ (a b : ℕ). a ∷ b ∷ []) ex ey

  pub written_again : 8 * client + 8 ≤ length table → with_image table client (image_of table client) ≡ table
  unfolding with_image
  written_again fits = edit_same (8 * client) (image_bytes (image_of table client)) table
      (room table client (image_of table client) fits)
      (ap (λ (n : ℕ). part (8 * client) n table) (long table client (image_of table client) fits)
      ∙ image_bytes_lem fits)

-- a sound table has a sound length and sound records; where the length is sound, 2 and 3 do not refuse a client of the
-- table
pub sound_record : (table : List ℕ) → table_sound table ≡ true → (client : ℕ) → exists table client ≡ true
    → record_sound table client ≡ true
unfolding table_sound exists
sound_record table sound client there = all_at (record_sound table) (length table / 8) client
    (and_right (length_sound table) _ sound) (ltb-true _ _ there)

pub sound_length : (table : List ℕ) → table_sound table ≡ true → length_sound table ≡ true
unfolding table_sound
sound_length table sound = and_left (length_sound table) _ sound

pub client_passes : (table : List ℕ) → length_sound table ≡ true → (client : ℕ) → exists table client ≡ true
    → reply (table_refusals table client) 0 ≡ 0
unfolding exists
client_passes table long client there = not_refused table client long (ltb-true _ _ there)
