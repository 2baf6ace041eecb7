-- The refusals before any route, by their cases, and what is known of a call that passes them.
use Rattle.std.specs.Prelude.{ℕ, ◌+◌, ◌*◌, ◌≤◌, ◌≡◌, refl, Bool, true, false, cond, List, ltb, eqb, length, Some, None}
use Rattle.std.proofs.Math.Path.{sym, ap}
use Rattle.std.proofs.Common.{ap₂, ◌∙◌, arith}
use Rattle.std.proofs.Math.Bool.{not}
use borrow.Author.Tests.{le-ltb, ltb-false, not-false}
use Rattle.address.specs.Limits.{first_buckets, most_level}
use Rattle.address.specs.declared.Image.{Image}
use Rattle.address.specs.Room.{ImageRoom}
use Rattle.address.specs.Rules.{Formed, NotAhead, buckets}
use Rattle.layout.specs.Replies.{Numbers, reply, reply_none, reply_is, reply_append, reply_else, numbers_append}
use Rattle.client.specs.Table.{image_of, record_sound, table_refusals, caller_refusals}
use Rattle.client.specs.Table.Caller.{caller_numbers, caller_numbered, caller_passes, caller_passed, calling}
use Rattle.layout.specs.Replies.Passing.{passes_append, passes_split, passes_on, passes_back, refused_on}
use Rattle.file.specs.File.{buckets_of, state_of, header_sound, header_of}
use Rattle.file.specs.File.Judge.{FiguresOf, Known, known, known_read, unknown, existing, header_parts}
use Rattle.file.specs.File.Region.{buckets_known}
use Rattle.file.specs.declared.Header.{Header}
use Rattle.route.specs.Way.{early}

module _ (file table : List ℕ) (client : ℕ) where
  -- the reply: the caller's, or else 5, or else 6
  early_reply : reply (early file table client) 0
      ≡ reply (caller_refusals table client) (cond (not (header_sound file)) 5
      (cond (ltb (buckets_of file) (buckets first_buckets (image_of table client))) 6 0))
  unfolding early
  early_reply = reply_append (caller_refusals table client) _ 0
      ∙ ap (reply (caller_refusals table client))
      (reply_is 5 _ _ 0
      ∙ ap (cond (not (header_sound file)) 5)
      (reply_is 6 _ _ 0
      ∙ ap (cond (ltb (buckets_of file) (buckets first_buckets (image_of table client))) 6) (reply_none 0)))

  -- their numbers are 2 to 6
  pub early_numbers : (P : ℕ → Type 0) → P 2 → P 3 → P 4 → P 5 → P 6 → Numbers P (early file table client)
  unfolding early
  early_numbers P two three four five six = numbers_append P (caller_refusals table client) _
      (caller_numbers table client P two three four) (five, (six, tt))

  pub early_numbered : Numbers (λ n. n ≡ 0 → ⊥) (early file table client)
  early_numbered = early_numbers (λ n. n ≡ 0 → ⊥) (λ e. omega (arith, e)) (λ e. omega (arith, e))
      (λ e. omega (arith, e)) (λ e. omega (arith, e)) (λ e. omega (arith, e))

  pub early_else : (done : ℕ) → reply (early file table client) done
      ≡ cond (eqb (reply (early file table client) 0) 0) done (reply (early file table client) 0)
  early_else = reply_else (early file table client) early_numbered

  -- a call that is not refused has a sound record and a sound header, and its image is not ahead
  pub early_none : reply (table_refusals table client) 0 ≡ 0 → record_sound table client ≡ true
      → header_sound file ≡ true
      → buckets first_buckets (image_of table client) ≤ buckets_of file
      → 0 ≡ reply (early file table client) 0
  unfolding early
  early_none passes recorded headed near = sym (passes_on (early file table client)
      (passes_append (caller_refusals table client) _ (caller_passed table client passes recorded)
      (ap not headed, (le-ltb (buckets_of file) (buckets first_buckets (image_of table client)) near, tt))) 0)

  pub early_passes : reply (early file table client) 0 ≡ 0
      → (reply (table_refusals table client) 0 ≡ 0) × (record_sound table client ≡ true) × (header_sound file ≡ true)
      × (buckets first_buckets (image_of table client) ≤ buckets_of file)
  unfolding early
  early_passes none =
      let (first, rest) = passes_split (caller_refusals table client) _
      (passes_back (early file table client) early_numbered none) in
      let (passes, recorded) = caller_passes table client first in
      (passes, recorded, not-false _ rest.0, ltb-false _ _ rest.1.0)

-- what is known of a call that is not refused so far
pub record Opening (file table : List ℕ) (client : ℕ) (header : Header) (image : Image) : Type 0 where
  pub passed : reply (early file table client) 0 ≡ 0
  pub known : Known file header
  pub there : 8 * client + 8 ≤ length table
  pub recorded : record_sound table client ≡ true
  pub is : image ≡ image_of table client
  pub low : image.level ≤ most_level
  pub formed : Formed first_buckets image
  pub behind : NotAhead first_buckets (state_of file) image

-- it is read where nothing is refused
module _ (file table : List ℕ) (client : ℕ) (none : reply (early file table client) 0 ≡ 0) where
  not_refused : reply (caller_refusals table client) 0 ≡ 0
  unfolding early
  not_refused = passes_on (caller_refusals table client)
      (passes_split (caller_refusals table client) _
      (passes_back (early file table client) (early_numbered file table client) none)).0 0

  pub open_long : 16 ≤ length file
  open_long = (header_parts file (early_passes file table client none).2).0

  pub open_there : 8 * client + 8 ≤ length table
  open_there = (calling table client not_refused refl).there

  pub opening_known : {header : Header} {image : Image} → Known file header → image ≡ image_of table client
      → Opening file table client header image
  opening_known seen e =
      let caller = calling table client not_refused e in
      let passed = early_passes file table client none in
      record {
        passed = none;
        known = seen;
        there = caller.there;
        recorded = caller.recorded;
        is = e;
        low = caller.low;
        formed = caller.formed;
        behind = omega
            (arith, passed.3, ap (buckets first_buckets) e, existing file);
      }

  -- the same by the figures that were read
  pub opening : {header : Header} {image : Image} → FiguresOf file header → image ≡ image_of table client
      → Opening file table client header image
  opening read e = opening_known (known_read file (early_passes file table client none).2 read) e

-- the judging function's way, test by test
module _ (file table : List ℕ) (client : ℕ) {r : ℕ} (er : r ≡ reply (caller_refusals table client) 0) where
  pub refusal_caller : {x : ℕ} → (r ≡ 0 → ⊥) → x ≡ r → x ≡ reply (early file table client) 0
  refusal_caller some ex = ex ∙ sym (early_reply file table client
      ∙ refused_on (caller_refusals table client) (caller_numbered table client) r (sym er) some _)

  module _ (none : r ≡ 0) where
    pub refusal_there : 8 * client + 8 ≤ length table
    refusal_there = (calling table client (sym er ∙ none) refl).there

    behind_caller : reply (early file table client) 0 ≡ cond (not (header_sound file)) 5
        (cond (ltb (buckets_of file) (buckets first_buckets (image_of table client))) 6 0)
    behind_caller = early_reply file table client ∙ passes_on (caller_refusals table client)
        (passes_back (caller_refusals table client) (caller_numbered table client) (sym er ∙ none)) _

    pub refusal_header : None ≡ header_of file → 5 ≡ reply (early file table client) 0
    refusal_header e = sym (behind_caller ∙ rw (unknown file e))

    module _ {header : Header} (eh : Some header ≡ header_of file) where
      seen : Known file header
      seen = known file header eh

      pub refusal_state : ImageRoom first_buckets header.state
      refusal_state = seen.room

      module _ {image : Image} (ei : image ≡ image_of table client) where
        pub refusal_image : ImageRoom first_buckets image
        refusal_image = (calling table client (sym er ∙ none) ei).room

        module _ {all believed : ℕ} (ea : all ≡ buckets first_buckets header.state)
            (eb : believed ≡ buckets first_buckets image) where
          behind_header : {b : Bool} → ltb all believed ≡ b → reply (early file table client) 0 ≡ cond b 6 0
          behind_header h = behind_caller ∙ rw (seen.sound, ahead ∙ h)
            where
              ahead : ltb (buckets_of file) (buckets first_buckets (image_of table client)) ≡ ltb all believed
              ahead = sym (ap₂ ltb (buckets_known file header seen all ea) (eb ∙ ap (buckets first_buckets) ei))

          pub refusal_ahead : ltb all believed ≡ true → 6 ≡ reply (early file table client) 0
          refusal_ahead h = sym (behind_header h)

          pub refusal_none : ltb all believed ≡ false → 0 ≡ reply (early file table client) 0
          refusal_none h = sym (behind_header h)

          pub refusal_opens : ltb all believed ≡ false → Opening file table client header image
          refusal_opens h = opening_known file table client (behind_header h) seen ei
