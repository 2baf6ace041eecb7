-- A bucket's view as a place in the file and a length, 0 and 0 where it is empty; and that the part there is the view.
use Rattle.std.specs.Prelude.{ℕ, ◌+◌, ◌*◌, ◌-◌, ◌≤◌, ◌<◌, ◌≡◌, Bool, List, [], ◌∷◌, ltb, take, drop}
use Rattle.std.proofs.Math.Path.{refl, ap}
use Rattle.std.proofs.Common.{sym, ap₂, ◌∙◌, arith}
use Rattle.std.proofs.Math.Bool.{true, false, cond}
use borrow.Author.Tests.{ltb-true, ltb-false, eqb-true, eqb-false, eq-eqb, ne_eqb}
use Rattle.std.proofs.Math.Dec.{eqb}
use Rattle.std.proofs.Math.ListN.{length}
use Rattle.address.specs.Limits.{most_slots, most_buckets}
use Rattle.layout.specs.Bytes.{part, le_at}
use Rattle.layout.specs.Bytes.Edit.{part_is, length_part}
use Rattle.file.specs.File.{view, start_of, slots_of, buckets_of, header_sound, figures_of, bucket_sound_in}
use Rattle.file.specs.File.Judge.{Known, FiguresOf, known, header_sound_lem, header_parts}
use Rattle.file.specs.declared.Header.{Header}
use Rattle.file.specs.File.Region.{view_header, view_high, view_unsound, view_fits, view_used}

pub view_length : List ℕ → ℕ → ℕ
view_length file a = length (view file a)

pub view_start : List ℕ → ℕ → ℕ
view_start file a = cond (eqb (view_length file a) 0) 0 (start_of (slots_of file) a + 8)

-- what a view of a byte or more says of its file
pub record Viewed (file : List ℕ) (a : ℕ) : Type 0 where
  pub seen : Known file (figures_of file)
  pub exists : a < buckets_of file
  pub sound : bucket_sound_in file a ≡ true

module _ (file : List ℕ) (a : ℕ) (some : 0 < length (view file a)) where
  none : [] ≡ view file a → ⊥
  none e = omega (arith, some, ap length e)

  pub viewed : Viewed file a
  viewed = by_header (header_sound file) refl
    where
      by_bucket : Known file (figures_of file) → a < buckets_of file → (t : Bool) → bucket_sound_in file a ≡ t
          → Viewed file a
      by_bucket seen exists true e = record { seen = seen; exists = exists; sound = e }
      by_bucket seen exists false e = absurd (none (view_unsound file a seen.sound exists e))

      by_number : Known file (figures_of file) → (t : Bool) → ltb a (buckets_of file) ≡ t → Viewed file a
      by_number seen true e = by_bucket seen (ltb-true a (buckets_of file) e) (bucket_sound_in file a) refl
      by_number seen false e = absurd (none (view_high file a seen.sound (ltb-false a (buckets_of file) e)))

      by_header : (t : Bool) → header_sound file ≡ t → Viewed file a
      by_header true e = by_number (known file (figures_of file) (sym (header_sound_lem file e)))
          (ltb a (buckets_of file))
          refl
      by_header false e = absurd (none (view_header file a e))

-- the start and the length, by whether the part that is the view has a byte
module _ (file : List ℕ) (a : ℕ) {found : List ℕ} (is : found ≡ view file a) where
  pub view_length_lem : length found ≡ view_length file a
  unfolding view_length
  view_length_lem = ap length is

  module _ (empty : length found ≡ 0) where
    pub empty_start : 0 ≡ view_start file a
    unfolding view_start view_length
    empty_start = ap (λ (t : Bool). cond t 0 (start_of (slots_of file) a + 8))
        (sym (eq-eqb (length (view file a)) 0 (sym (ap length is) ∙ empty)))

    pub empty_length : 0 ≡ view_length file a
    empty_length = sym empty ∙ view_length_lem

  module _ (some : length found ≡ 0 → ⊥) where
    seen : Viewed file a
    seen = viewed file a (omega (arith, ap length is))

    -- its header is there
    pub viewed_long : 16 ≤ length file
    viewed_long = (header_parts file seen.seen.sound).0

    -- the bounds that its place asks, and the place
    pub viewed_bucket : a ≤ most_buckets
    viewed_bucket = omega (arith, seen.exists, seen.seen.ranges.few, seen.seen.ranges.figured.few_buckets)

    module _ {header : Header} (read : FiguresOf file header) where
      slots : header.slots ≡ slots_of file
      slots = read.slots

      pub viewed_slots : header.slots ≤ most_slots
      viewed_slots = omega (arith, slots, seen.seen.ranges.figured.few_slots)

      pub view_start_lem : {at : ℕ} → at ≡ start_of header.slots a → at + 8 ≡ view_start file a
      unfolding view_start view_length
      view_start_lem place = ap (λ (n : ℕ). n + 8) (place ∙ ap (λ (S : ℕ). start_of S a) slots)
          ∙ ap (λ (t : Bool). cond t 0 (start_of (slots_of file) a + 8))
          (sym (ne_eqb (length (view file a)) 0 (λ z. some (ap length is ∙ z))))

-- the part of the file there is the view
module _ (file : List ℕ) (a : ℕ) where
  empty_is : (xs : List ℕ) → length xs ≡ 0 → [] ≡ xs
  empty_is [] e = refl
  empty_is (x ∷ xs) e = absurd (omega (arith, e))

  used_is : (at n : ℕ) → at ≡ start_of (slots_of file) a → at + 8 + 24 * n ≤ length file
      → take (at + 8 + 24 * n - (at + 8)) (drop (at + 8) file) ≡ view file a
      → part (start_of (slots_of file) a + 8) (length (view file a)) file ≡ view file a
  used_is at n place fits is = ap₂ (λ (s m : ℕ). part (s + 8) m file) (sym place) long ∙ cut
    where
      width : 24 * n ≡ at + 8 + 24 * n - (at + 8)
      width = omega arith

      cut : part (at + 8) (24 * n) file ≡ view file a
      cut = part_is (at + 8) (24 * n) file ∙ ap (λ (m : ℕ). take m (drop (at + 8) file)) width ∙ is

      long : length (view file a) ≡ 24 * n
      long = ap length (sym cut) ∙ length_part (at + 8) (24 * n) file (omega (arith, fits))

  pub view_part : part (view_start file a) (view_length file a) file ≡ view file a
  unfolding view_start view_length
  view_part = by_length (eqb (length (view file a)) 0) refl
    where
      by_length : (t : Bool) → eqb (length (view file a)) 0 ≡ t
          → part (cond t 0 (start_of (slots_of file) a + 8)) (length (view file a)) file ≡ view file a
      by_length true e = ap (λ (n : ℕ). part 0 n file) (eqb-true _ 0 e) ∙ part_is 0 0 file
          ∙ empty_is (view file a) (eqb-true _ 0 e)
      by_length false e =
          let v = viewed file a (omega (arith, eqb-false (length (view file a)) 0 e)) in
          let at = start_of (figures_of file).slots a in
          let n = le_at 2 file (at + 4) in
          used_is at n (ap (λ (S : ℕ). start_of S a) v.seen.slots)
          (view_fits file (figures_of file) v.seen a at n refl refl v.exists v.sound)
          (view_used file (figures_of file) v.seen a at n refl refl v.exists v.sound)
