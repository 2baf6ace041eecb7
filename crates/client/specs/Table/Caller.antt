-- A caller judged: its refusals by their cases, and what is known of one that is not refused.
use Rattle.std.specs.Prelude.{ℕ, ◌+◌, ◌*◌, ◌≤◌, ◌≡◌, refl, Bool, true, false, cond, ◌&&◌, List, length}
use Rattle.std.proofs.Common.{sym, ◌∙◌, arith}
use Rattle.std.proofs.Math.Path.{ap}
use Rattle.std.proofs.Math.Bool.{not}
use borrow.Author.Tests.{not-false}
use Rattle.address.specs.Limits.{first_buckets, most_level}
use Rattle.address.specs.declared.Image.{Image}
use Rattle.address.specs.Room.{ImageRoom}
use Rattle.address.specs.Rules.{Formed}
use Rattle.address.specs.Rules.Hash.{span_is, span_mono}
use Rattle.layout.specs.Replies.{Numbers, reply, reply_none, reply_is, reply_append, numbers_append}
use Rattle.client.specs.Table.{image_of, record_formed, image_formed, record_sound, table_refusals, caller_refusals}
use Rattle.client.specs.Table.Laws.{table_numbers, table_numbered, record_fits, record_image, record_both}
use Rattle.layout.specs.Replies.Passing.{Passes, passes_append, passes_split, passes_on, passes_back, refused_on}

-- what is known of a caller that is not refused
pub record Calling (table : List ℕ) (client : ℕ) (image : Image) : Type 0 where
  pub there : 8 * client + 8 ≤ length table
  pub recorded : record_sound table client ≡ true
  pub is : image ≡ image_of table client
  pub low : image.level ≤ most_level
  pub formed : Formed first_buckets image
  pub room : ImageRoom first_buckets image

module _ (table : List ℕ) (client : ℕ) where
  -- its numbers are 2, 3 and 4
  pub caller_numbers : (P : ℕ → Type 0) → P 2 → P 3 → P 4 → Numbers P (caller_refusals table client)
  unfolding caller_refusals
  caller_numbers P two three four = numbers_append P (table_refusals table client) _
      (table_numbers table client P two three) (four, tt)

  pub caller_numbered : Numbers (λ n. n ≡ 0 → ⊥) (caller_refusals table client)
  caller_numbered =
      caller_numbers (λ n. n ≡ 0 → ⊥) (λ e. omega (arith, e)) (λ e. omega (arith, e)) (λ e. omega (arith, e))

  -- a caller that is not refused has passed 2, 3 and 4
  pub caller_passes : Passes (caller_refusals table client)
      → (reply (table_refusals table client) 0 ≡ 0) × (record_sound table client ≡ true)
  unfolding caller_refusals
  caller_passes all =
      let (first, four) = passes_split (table_refusals table client) _ all in
      (passes_on (table_refusals table client) first 0, not-false _ four.0)

  pub caller_passed : reply (table_refusals table client) 0 ≡ 0 → record_sound table client ≡ true
      → Passes (caller_refusals table client)
  unfolding caller_refusals
  caller_passed none sound = passes_append (table_refusals table client) _
      (passes_back (table_refusals table client) (table_numbered table client) none) (ap not sound, tt)

  -- the reply: the table's, or else 4
  caller_reply : reply (caller_refusals table client) 0
      ≡ reply (table_refusals table client) (cond (not (record_sound table client)) 4 0)
  unfolding caller_refusals
  caller_reply = reply_append (table_refusals table client) _ 0
      ∙ ap (reply (table_refusals table client))
      (reply_is 4 _ _ 0 ∙ ap (cond (not (record_sound table client)) 4) (reply_none 0))

  -- the judging function's way, test by test
  module _ {r : ℕ} (er : r ≡ reply (table_refusals table client) 0) where
    pub caller_table : {x : ℕ} → (r ≡ 0 → ⊥) → x ≡ r → x ≡ reply (caller_refusals table client) 0
    caller_table some ex = ex ∙ sym (caller_reply
        ∙ refused_on (table_refusals table client) (table_numbered table client) r (sym er) some _)

    module _ (none : r ≡ 0) {formed ranged : Bool} (ef : formed ≡ record_formed table client) {image : Image}
        (ei : image ≡ image_of table client) (ea : ranged ≡ image_formed image) where
      judged : {b : Bool} → not (formed && ranged) ≡ b → reply (caller_refusals table client) 0 ≡ cond b 4 0
      judged h = caller_reply
          ∙ passes_on (table_refusals table client)
          (passes_back (table_refusals table client) (table_numbered table client) (sym er ∙ none)) _
          ∙ ap (λ (b : Bool). cond b 4 0)
          (ap not (sym (record_both table client formed ranged ef (ea ∙ ap image_formed ei))) ∙ h)

      pub caller_record : not (formed && ranged) ≡ true → 4 ≡ reply (caller_refusals table client) 0
      caller_record h = sym (judged h)

      pub caller_fine : not (formed && ranged) ≡ false → 0 ≡ reply (caller_refusals table client) 0
      caller_fine h = sym (judged h)

  -- what is known of a caller that is not refused
  pub calling : reply (caller_refusals table client) 0 ≡ 0 → {image : Image} → image ≡ image_of table client
      → Calling table client image
  calling none e = rw e (record {
    there = record_fits table client passed.0;
    recorded = passed.1;
    is = refl;
    low = low;
    formed = formed;
    room = record {
      levels = record { some = omega arith; few = omega arith; low = omega (arith, low) };
      near = omega (arith, formed, span_mono first_buckets low, span_is first_buckets most_level);
    };
  })
    where
      passed : (reply (table_refusals table client) 0 ≡ 0) × (record_sound table client ≡ true)
      passed = caller_passes (passes_back (caller_refusals table client) caller_numbered none)

      low : (image_of table client).level ≤ most_level
      low = (record_image table client passed.1).0

      formed : Formed first_buckets (image_of table client)
      formed = (record_image table client passed.1).1
