-- The table's refusals by their cases, and what each function of the crate shows, over plain values.
use Rattle.std.specs.Prelude.{ℕ, ◌+◌, ◌*◌, ◌/◌, ◌%◌, ◌≤◌, ◌<◌, ◌≡◌, refl, Bool, true, false, cond, List, [], ◌∷◌, ◌++◌}
use Rattle.std.specs.Prelude.{leb, ltb, length, get_or}
use Rattle.std.proofs.Common.{sym, subst, ◌∙◌, arith, lt-ltb, le-ltb, le-leb, ltb-true, leb-true, eq-eqb, ne_eqb, Fits}
use Rattle.std.proofs.Math.Path.{ap, ap₂}
use Rattle.std.proofs.Math.Bool.{not, ◌&&◌, and_assoc}
use Rattle.std.proofs.Math.Logic.{by_cases}
use Rattle.std.proofs.Math.Decide.{ℕ_discrete, dec_lt}
use Rattle.std.proofs.lemmas.Bool.{lt-leb}
use Rattle.std.proofs.Math.Dec.{eqb}
use Rattle.std.specs.Int.{w8}
use Rattle.address.specs.Limits.{first_buckets, most_level, most_table}
use Rattle.address.specs.declared.Image.{Image}
use Rattle.address.specs.Rules.{«at», Formed, span}
use Rattle.layout.specs.Bytes.{byte_at, le_at, le_bytes, marked, edit}
use Rattle.layout.specs.Bytes.Tests.{and_left, and_right}
use Rattle.layout.specs.Bytes.Edit.{edit_next}
use Rattle.layout.specs.Bytes.Numbers.{le_eight, le_bytes_two, two_same}
use Rattle.layout.specs.Replies.{Numbers, reply, reply_none, reply_here, reply_past}
use Rattle.client.specs.Table.{client_mark, length_sound, exists, image_of, record_formed, image_formed, record_sound}
use Rattle.client.specs.Table.{table_refusals, image_bytes, with_image, Joined, join}

module _ (table : List ℕ) (client : ℕ) where
  -- 2, 3, or neither
  pub refused_length : length_sound table ≡ false → reply (table_refusals table client) 0 ≡ 2
  unfolding table_refusals
  refused_length h = reply_here 2 _ _ 0 (ap not h)

  pub refused_client : length_sound table ≡ true → length table / 8 ≤ client → reply (table_refusals table client) 0 ≡ 3
  unfolding table_refusals exists
  refused_client h l = reply_past 2 _ _ 0 (ap not h) ∙ reply_here 3 _ _ 0 (ap not (le-ltb client (length table / 8) l))

  pub not_refused : length_sound table ≡ true → client < length table / 8 → reply (table_refusals table client) 0 ≡ 0
  unfolding table_refusals exists
  not_refused h l = reply_past 2 _ _ 0 (ap not h) ∙ reply_past 3 _ _ 0 (ap not (lt-ltb client (length table / 8) l))
      ∙ reply_none 0

  -- its numbers are 2 and 3
  pub table_numbers : (P : ℕ → Type 0) → P 2 → P 3 → Numbers P (table_refusals table client)
  unfolding table_refusals
  table_numbers P two three = (two, (three, tt))

  pub table_numbered : Numbers (λ n. n ≡ 0 → ⊥) (table_refusals table client)
  table_numbered = table_numbers (λ n. n ≡ 0 → ⊥) (λ e. omega (arith, e)) (λ e. omega (arith, e))

  pub length_flag : (flag : Bool)
      → flag ≡ (ltb 0 (length table) && leb (length table) most_table && eqb (length table % 8) 0)
      → flag ≡ length_sound table
  unfolding length_sound
  length_flag flag e = e

  -- a table and a client that are not refused have the client's record
  pub record_fits : reply (table_refusals table client) 0 ≡ 0 → 8 * client + 8 ≤ length table
  record_fits h = go (length_sound table) refl
    where
      go : (flag : Bool) → length_sound table ≡ flag → 8 * client + 8 ≤ length table
      go false e = absurd (omega (arith, refused_length e))
      go true e = by_cases (dec_lt client (length table / 8)) (λ l. omega arith)
          (λ l. absurd (omega (arith, refused_client e (omega arith))))

  pub table_fits : {r : ℕ} → r ≡ reply (table_refusals table client) 0 → r ≡ 0 → 8 * client + 8 ≤ length table
  table_fits er none = record_fits (sym er ∙ none)

  -- bytes 3, 6 and 7 of the record, by its word
  pub record_judged : ((k : ℕ) → Fits w8 (get_or table k 0)) → {mark : Bool} {word : ℕ}
      → mark ≡ marked table (8 * client) client_mark → word ≡ le_at 8 table (8 * client)
      → (mark && eqb (word / 16777216 % 256) 0 && eqb (word / 281474976710656) 0) ≡ record_formed table client
  unfolding record_formed
  record_judged fits {mark} {word} em ew = rw (
    em,
    ap (λ (x : ℕ). eqb x 0) zeros.0,
    ap (λ (x : ℕ). eqb x 0) zeros.1 ∙ two_same (byte_at table (8 * client + 6)) (byte_at table (8 * client + 7)) 0 0
        (fits (8 * client + 6)).fits (omega arith),
  ) (sym (and_assoc (marked table (8 * client) client_mark && eqb (byte_at table (8 * client + 3)) 0)
      (eqb (byte_at table (8 * client + 6)) 0) (eqb (byte_at table (8 * client + 7)) 0)))
    where
      low : (k : ℕ) → byte_at table (8 * client + k) < 256
      low k = (fits (8 * client + k)).fits

      zeros : (word / 16777216 % 256 ≡ byte_at table (8 * client + 3))
          × (word / 281474976710656 ≡ byte_at table (8 * client + 6) + byte_at table (8 * client + 7) * 256)
      zeros = omega (
        arith,
        le_eight table (8 * client),
        (fits (8 * client)).fits,
        low 1,
        low 2,
        low 3,
        low 4,
        low 5,
        low 6,
        low 7,
      )

  pub image_read : (l p : ℕ) → l ≡ byte_at table (8 * client + 2) → p ≡ le_at 2 table (8 * client + 4)
      → «at» l p ≡ image_of table client
  unfolding image_of
  image_read l p el ep = λ i. record { level = el i; pointer = ep i }

  pub record_both : (formed ranged : Bool) → formed ≡ record_formed table client
      → ranged ≡ image_formed (image_of table client) → (formed && ranged) ≡ record_sound table client
  unfolding record_sound
  record_both formed ranged ef er = ap₂ ◌&&◌ ef er

-- an image in range, by its cases
pub image_high : (image : Image) → most_level < image.level → image_formed image ≡ false
unfolding image_formed
image_high image h = rw (lt-leb image.level most_level h)

pub image_low : (image : Image) → image.level ≤ most_level
    → image_formed image ≡ ltb image.pointer (span first_buckets image.level)
unfolding image_formed
image_low image h = rw (le-leb image.level most_level h)

-- a sound record's image
pub record_image : (table : List ℕ) (client : ℕ) → record_sound table client ≡ true
    → ((image_of table client).level ≤ most_level) × Formed first_buckets (image_of table client)
unfolding record_sound image_formed
record_image table client h =
    let formed = and_right (record_formed table client)
    (leb (image_of table client).level most_level
    && ltb (image_of table client).pointer (span first_buckets (image_of table client).level)) h in (
      leb-true (image_of table client).level most_level (and_left _ _ formed),
      ltb-true (image_of table client).pointer (span first_buckets (image_of table client).level)
          (and_right (leb (image_of table client).level most_level) _ formed),
    )

-- an image is written as its mark and its figures
pub image_written : (table : List ℕ) (client : ℕ) (image : Image) → 8 * client + 8 ≤ length table
    → {one two : List ℕ} → one ≡ edit (8 * client) client_mark table
    → two ≡ edit (8 * client + 2)
    (image.level ∷ 0 ∷ image.pointer % 256 ∷ image.pointer / 256 % 256 ∷ 0 ∷ 0 ∷ []) one
    → two ≡ with_image table client image
unfolding with_image image_bytes
image_written table client image fits e1 e2 = e2 ∙ ap (edit (8 * client + 2) _) e1
    ∙ edit_next (8 * client) client_mark _ table (omega arith)
    ∙ ap (λ (l : List ℕ). edit (8 * client) l table) bytes
  where
    bytes : client_mark ++ (image.level ∷ 0 ∷ image.pointer % 256 ∷ image.pointer / 256 % 256 ∷ 0 ∷ 0 ∷ [])
        ≡ client_mark ++ (image.level ∷ 0 ∷ []) ++ le_bytes 2 image.pointer ++ (0 ∷ 0 ∷ [])
    bytes = rw (le_bytes_two image.pointer)

-- joining: refused, or done; and no second outcome fits
pub join_refused : (table : List ℕ) (client r : ℕ) → r ≡ reply (table_refusals table client) 0 → (r ≡ 0 → ⊥)
    → record { answer = r; table = table } ≡ join table client
unfolding join
join_refused table client r e some = λ i.
    record {
      answer = e i;
      table =
          (sym (ap (λ (b : Bool). cond b (with_image table client («at» 0 0)) table)
          (ne_eqb (reply (table_refusals table client) 0) 0 (λ z. some (e ∙ z))))) i;
    }

pub join_done : (table after : List ℕ) (client r : ℕ) → r ≡ reply (table_refusals table client) 0 → r ≡ 0
    → after ≡ with_image table client («at» 0 0)
    → record { answer = 0; table = after } ≡ join table client
unfolding join
join_done table after client r e none w = λ i.
    record {
      answer = (sym none ∙ e) i;
      table =
          (w ∙ sym
          (ap (λ (b : Bool). cond b (with_image table client («at» 0 0)) table)
          (eq-eqb (reply (table_refusals table client) 0) 0 (sym e ∙ none)))) i;
    }

-- its reply is the first refusal of the table; the table is written, or as it was
pub join_reply : (table : List ℕ) (client : ℕ) → (join table client).answer ≡ reply (table_refusals table client) 0
unfolding join
join_reply table client = refl

pub join_ways : (P : Joined → Type 0) (table : List ℕ) (client : ℕ)
    → ((r : ℕ) → r ≡ reply (table_refusals table client) 0 → (r ≡ 0 → ⊥) → P (record { answer = r; table = table }))
    → (reply (table_refusals table client) 0 ≡ 0
    → P (record { answer = 0; table = with_image table client («at» 0 0) }))
    → P (join table client)
join_ways P table client refused done = by_cases (ℕ_discrete r 0)
    (λ e. subst P (join_done table _ client r refl e refl) (done e))
    (λ some. subst P (join_refused table client r refl some) (refused r refl some))
  where
    r : ℕ
    r = reply (table_refusals table client) 0

pub join_single : (table : List ℕ) (client : ℕ) (o p : Joined) → o ≡ join table client → p ≡ join table client → o ≡ p
join_single table client o p eo ep = eo ∙ sym ep
