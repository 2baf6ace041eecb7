-- Writing the matches: what is left to write, written over the list as it is now, gives the list that the whole write
-- leaves.
use Rattle.std.specs.Prelude.{ℕ, suc, ◌+◌, ◌/◌, ◌^◌, ◌≤◌, ◌<◌, ◌≡◌, refl, List, [], ◌∷◌, ◌++◌, length, get_or, drop}
use Rattle.std.specs.Prelude.{set}
use Rattle.std.proofs.Common.{sym, ap, ap₂, subst, ◌∙◌, arith, length-append, length-set, length-drop, get_or-drop}
use Rattle.std.proofs.Common.{drop-drop}
use Rattle.std.specs.Int.Count.{count_trailing_zeros}
use Rattle.address.specs.Limits.{most_slots}
use Rattle.layout.specs.Bytes.{edit}
use Rattle.layout.specs.Bytes.Edit.{edit_next, edit_nothing, edit_first, length_edit}
use Rattle.scan.specs.Scan.{matching, keys_in, matches_on}
use Rattle.scan.specs.Scan.Bits.{bits_of, bits_few, selected, select_match, select_none, Next, next}
use Rattle.scan.specs.Scan.Tally.{matches_first, matches_none}
use Rattle.scan.specs.Scan.Way.{rest_first, rest_none}

-- ---- one bucket's selected keys

pub record Filled (keys : List ℕ) (bits from : ℕ) (old : List ℕ) (left slot filled : ℕ) (now : List ℕ) : Type 0 where
  pub within : slot ≤ length keys
  pub few : left < 2 ^ length (drop slot keys)
  pub full : length now ≡ length old
  pub count : filled + length (selected left (drop slot keys)) ≡ from + length (selected bits keys)
  pub is : edit filled (selected left (drop slot keys)) now ≡ edit from (selected bits keys) old

pub fill_none : (keys : List ℕ) (bits from : ℕ) (old : List ℕ) → bits < 2 ^ length keys
    → Filled keys bits from old bits 0 from old
fill_none keys bits from old few = record { within = omega arith; few = few; full = refl; count = refl; is = refl }

module _ {keys : List ℕ} {bits from : ℕ} {old : List ℕ} {left slot filled : ℕ} {now : List ℕ}
    (so : Filled keys bits from old left slot filled now) where
  pub fill_done : left ≡ 0 → (filled ≡ from + length (selected bits keys)) × (now ≡ edit from (selected bits keys) old)
  fill_done end = (
    omega (arith, so.count, ap length nothing),
    sym kept ∙ so.is,
  )
    where
      nothing : selected left (drop slot keys) ≡ []
      nothing = ap (λ (b : ℕ). selected b (drop slot keys)) end ∙ select_none (drop slot keys)

      kept : edit filled (selected left (drop slot keys)) now ≡ now
      kept = ap (λ (l : List ℕ). edit filled l now) nothing ∙ edit_nothing filled now

  module _ (short : length keys ≤ most_slots) (some : left ≡ 0 → ⊥) where
    abbrev zeros : ℕ
    zeros = count_trailing_zeros 64 left

    onward : Next left (drop slot keys) zeros
    onward = next 64 left (drop slot keys) (omega (arith, length-drop slot keys)) some so.few

    pub fill_within : slot + count_trailing_zeros 64 left < length keys
    fill_within = omega (arith, onward.within, length-drop slot keys, so.within)

    rest : drop (suc zeros) (drop slot keys) ≡ drop (slot + zeros + 1) keys
    rest = drop-drop (suc zeros) slot keys ∙ ap (λ (n : ℕ). drop n keys) place
      where
        place : slot + suc zeros ≡ slot + zeros + 1
        place = omega arith

    left_in : selected left (drop slot keys)
        ≡ get_or keys (slot + zeros) 0 ∷ selected (left / 2 ^ zeros / 2) (drop (slot + zeros + 1) keys)
    left_in = onward.is ∙ ap₂ (λ (x : ℕ) (l : List ℕ). x ∷ selected (left / 2 ^ zeros / 2) l)
        (get_or-drop slot keys zeros 0) rest

    module _ (room : from + length (selected bits keys) ≤ length old) where
      pub fill_fits : filled < length now
      fill_fits = omega (arith, so.count, so.full, ap length left_in)

      pub fill_more : (key : ℕ) → key ≡ get_or keys (slot + count_trailing_zeros 64 left) 0
          → Filled keys bits from old (left / 2 ^ count_trailing_zeros 64 left / 2)
          (slot + count_trailing_zeros 64 left + 1)
          (filled + 1) (set now filled key)
      fill_more key here = record {
        within = omega (arith, fill_within);
        few = subst (λ (l : List ℕ). left / 2 ^ zeros / 2 < 2 ^ length l) rest onward.few;
        full = length-set now filled key ∙ so.full;
        count = omega (arith, so.count, ap length left_in);
        is = edit_first filled key (selected (left / 2 ^ zeros / 2) (drop (slot + zeros + 1) keys)) now
            (omega (arith, so.count, so.full, ap length left_in))
            ∙ ap (λ (l : List ℕ). edit filled l now)
            (ap (λ (x : ℕ). x ∷ selected (left / 2 ^ zeros / 2) (drop (slot + zeros + 1) keys)) here ∙ sym left_in)
            ∙ so.is;
      }

-- ---- the matches of a way

pub record Written (file : List ℕ) (lift : ℕ) (way old : List ℕ) (k filled : ℕ) (now : List ℕ) : Type 0 where
  pub full : length now ≡ length old
  pub room : filled + length (matches_on file lift (drop k way)) ≤ length now
  pub is : edit filled (matches_on file lift (drop k way)) now ≡ edit 0 (matches_on file lift way) old

pub write_none : (file : List ℕ) (lift : ℕ) (way old : List ℕ) → length (matches_on file lift way) ≤ length old
    → Written file lift way old 0 0 old
write_none file lift way old room = record { full = refl; room = omega arith; is = refl }

module _ {file : List ℕ} {lift : ℕ} {way old : List ℕ} {k filled : ℕ} {now : List ℕ}
    (so : Written file lift way old k filled now) where
  pub write_done : length way ≤ k → now ≡ edit 0 (matches_on file lift way) old
  write_done end = sym (ap (λ (l : List ℕ). edit filled l now) nothing ∙ edit_nothing filled now) ∙ so.is
    where
      nothing : matches_on file lift (drop k way) ≡ []
      nothing = ap (matches_on file lift) (rest_none way k end) ∙ matches_none file lift

  -- the next bucket, with the bits of its matches
  module _ {a b : ℕ} (here : a ≡ get_or way k 0) (more : k < length way) (eb : b ≡ bits_of lift (keys_in file a)) where
    abbrev mine : List ℕ
    mine = selected b (keys_in file a)

    abbrev others : List ℕ
    others = matches_on file lift (drop (k + 1) way)

    matched : mine ≡ matching lift (keys_in file a)
    matched = ap (λ (n : ℕ). selected n (keys_in file a)) eb ∙ select_match lift (keys_in file a)

    both : matches_on file lift (drop k way) ≡ mine ++ others
    both = ap (matches_on file lift) (rest_first way k more ∙ ap (λ (n : ℕ). n ∷ drop (k + 1) way) (sym here))
        ∙ matches_first file lift a (drop (k + 1) way)
        ∙ ap (λ (l : List ℕ). l ++ others) (sym matched)

    lengths : length (matches_on file lift (drop k way)) ≡ length mine + length others
    lengths = ap length both ∙ length-append mine others

    -- there are no more bits than keys
    pub write_few : b < 2 ^ length (keys_in file a)
    write_few = rw eb (bits_few lift (keys_in file a))

    pub write_room : filled + length (selected b (keys_in file a)) ≤ length now
    write_room = omega (arith, so.room, lengths)

    pub write_more : {end : ℕ} {then : List ℕ}
        → (end ≡ filled + length (selected b (keys_in file a)))
        × (then ≡ edit filled (selected b (keys_in file a)) now)
        → Written file lift way old (k + 1) end then
    write_more {end} {then} (ef, et) = record {
      full = kept ∙ so.full;
      room = omega (arith, so.room, lengths, kept);
      is = ap₂ (λ (n : ℕ) (l : List ℕ). edit n others l) ef et
          ∙ edit_next filled mine others now (omega (arith, so.room, lengths))
          ∙ ap (λ (l : List ℕ). edit filled l now) (sym both) ∙ so.is;
    }
      where
        kept : length then ≡ length now
        kept = ap length et ∙ length_edit filled mine now write_room
