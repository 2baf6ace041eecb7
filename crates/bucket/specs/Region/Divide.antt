-- A bucket divided in place: each ride is written behind those that stay and, in the new region, behind those that
-- move, of which one group grows. What was not yet read is as it was, since no group is longer than what was read; then
-- heads and zeros make two regions of the bytes.
use Rattle.std.specs.Prelude.{ℕ, ◌+◌, ◌*◌, ◌-◌, ◌≤◌, ◌<◌, ◌≡◌, Bool, eqb, get_or, take, drop, replicate}
use Rattle.std.proofs.Math.Path.{refl, sym, ap}
use Rattle.std.proofs.Common.{ap₂, subst, ◌∙◌, zero-add, add-one, Fits, length-append, length-drop, length-take-le}
use Rattle.std.proofs.Math.Bool.{true, false, cond, not}
use mathlib.Core.List.{List, [], ◌∷◌, ◌++◌, append-nil}
use Rattle.std.proofs.Math.Logic.{inl, inr, ⊎_elim, by_cases}
use Rattle.std.proofs.Math.Decide.{dec_lt}
use native.Mathlib.Omega.{arith}
use Rattle.std.specs.Int.{w64}
use Rattle.std.proofs.Math.ListN.{length}
use Rattle.std.proofs.lemmas.List.{length-replicate}
use Rattle.address.specs.Limits.{most_slots}
use Rattle.address.specs.Rules.{hash, keeps}
use Rattle.address.specs.Rules.Cases.{keeps_is}
use Rattle.layout.specs.Bytes.{Bytes, le_at, all_below, edit, part}
use Rattle.layout.specs.Bytes.Tests.{all_at}
use Rattle.layout.specs.Bytes.Apart.{Apart, edit_apart, edit_over, edit_same, part_same, lent}
use Rattle.layout.specs.Bytes.Edit.{length_edit, edit_in, edit_next, edit_all, part_is, part_edit, part_before}
use Rattle.layout.specs.Bytes.Edit.{part_after, part_split, part_part, part_bytes, length_part}
use Rattle.layout.specs.Bytes.Numbers.{le_same, le_part}
use Rattle.bucket.specs.Region.{Ride, slot_at, count_of, slot_used, key_at, ride_at, rides_from, rides_of, head_bytes}
use Rattle.bucket.specs.Region.{slot_bytes, slots_bytes, lay_out, encode, kept, halved}
use Rattle.bucket.specs.Region.Rides.{AllWhole, kept_append, kept_whole, kept_lengths}
use Rattle.bucket.specs.Region.Encode.{length_head, length_slot, length_slots, slots_append, length_encode}
use Rattle.bucket.specs.Region.Sound.{length_rides, ride_whole, rides_whole, slot_again}
use Rattle.bucket.specs.Region.Judge.{key_is, rides_append}

-- ---- a head written and the unused slots cleared: the bytes of a bucket

pub closed : (S j at : ℕ) (rides : List Ride) (bytes : List ℕ) → AllWhole rides → length rides ≤ S
    → at + slot_at S ≤ length bytes
    → part (at + 8) (24 * length rides) bytes ≡ slots_bytes rides
    → edit (at + slot_at (length rides)) (replicate (24 * (S - length rides)) 0)
    (edit at (head_bytes j (length rides)) bytes) ≡ edit at (encode S j rides) bytes
unfolding encode lay_out
closed S j at rides bytes whole few fits here = sym (
    sym (edit_next at head (slots ++ zeros) bytes (omega (arith, long_head, long_rest)))
    ∙ ap (λ (n : ℕ). edit n (slots ++ zeros) headed) behind
    ∙ sym (edit_next (at + 8) slots zeros headed (omega (arith, long_slots, long_zeros, long_headed)))
    ∙ ap₂ (λ (n : ℕ) (l : List ℕ). edit n zeros l) place
    (edit_same (at + 8) slots headed (omega (arith, long_slots, long_headed)) still))
  where
    head : List ℕ
    head = head_bytes j (length rides)

    slots : List ℕ
    slots = slots_bytes rides

    zeros : List ℕ
    zeros = replicate (24 * (S - length rides)) 0

    headed : List ℕ
    headed = edit at head bytes

    long_head : length head ≡ 8
    long_head = length_head j (length rides)

    long_slots : length slots ≡ 24 * length rides
    long_slots = length_slots rides whole

    long_zeros : length zeros ≡ 24 * (S - length rides)
    long_zeros = length-replicate {A = ℕ} (24 * (S - length rides)) 0

    long_rest : length (slots ++ zeros) ≡ 24 * S
    long_rest = omega (arith, length-append slots zeros, long_slots, long_zeros)

    long_headed : length headed ≡ length bytes
    long_headed = length_edit at head bytes (omega (arith, long_head))

    behind : at + length head ≡ at + 8
    behind = omega (arith, long_head)

    place : at + 8 + length slots ≡ at + slot_at (length rides)
    place = omega (arith, long_slots)

    still : part (at + 8) (length slots) headed ≡ slots
    still = part_after at head bytes (omega (arith, long_head)) (at + 8) (length slots) (omega (arith, long_head))
        (omega (arith, long_slots))
        ∙ ap (λ (n : ℕ). part (at + 8) n bytes) long_slots ∙ here

-- the unused slots, lent to be cleared
pub closing : (S at count : ℕ) (headed cleared : List ℕ) → at + slot_at S ≤ length headed → count ≤ S
    → cleared
    ≡ replicate (length (take (at + (8 + 24 * S) - (at + (8 + 24 * count))) (drop (at + (8 + 24 * count)) headed)))
    0
    → take (at + (8 + 24 * count)) headed
    ++ (cleared ++ drop (at + (8 + 24 * S) - (at + (8 + 24 * count))) (drop (at + (8 + 24 * count)) headed))
    ≡ edit (at + slot_at count) (replicate (24 * (S - count)) 0) headed
closing S at count headed cleared fits few e =
    lent (at + slot_at count) n cleared headed
    (sym (ap length zeros ∙ length-replicate {A = ℕ} (24 * (S - count)) 0 ∙ sym wide))
    ∙ ap (λ (l : List ℕ). edit (at + slot_at count) l headed) zeros
  where
    n : ℕ
    n = at + (8 + 24 * S) - (at + (8 + 24 * count))

    wide : n ≡ 24 * (S - count)
    wide = omega arith

    zeros : cleared ≡ replicate (24 * (S - count)) 0
    zeros = e ∙ ap (λ (m : ℕ). replicate {A = ℕ} m 0)
        (length-take-le n (drop (at + slot_at count) headed) (omega (arith, length-drop (at + slot_at count) headed))
        ∙ wide)

pub close_written : (S j at count : ℕ) (bytes : List ℕ) → at + slot_at S ≤ length bytes → count ≤ S
    → {headed cleared : List ℕ} → headed ≡ edit at (head_bytes j count) bytes
    → cleared
    ≡ replicate (length (take (at + (8 + 24 * S) - (at + (8 + 24 * count))) (drop (at + (8 + 24 * count)) headed)))
    0
    → take (at + (8 + 24 * count)) headed
    ++ (cleared ++ drop (at + (8 + 24 * S) - (at + (8 + 24 * count))) (drop (at + (8 + 24 * count)) headed))
    ≡ edit (at + slot_at count) (replicate (24 * (S - count)) 0) (edit at (head_bytes j count) bytes)
close_written S j at count bytes fits few {headed} {cleared} eh ec = closing S at count headed cleared room few ec
    ∙ ap (edit (at + slot_at count) (replicate {A = ℕ} (24 * (S - count)) 0)) eh
  where
    room : at + slot_at S ≤ length headed
    room = omega (
      arith,
      ap length eh,
      length_edit at (head_bytes j count) bytes (omega (arith, length_head j count)),
    )

-- a bucket without rides
pub closed_empty : (S j : ℕ) (region : List ℕ) → length region ≡ slot_at S
    → edit (0 + slot_at 0) (replicate (24 * (S - 0)) 0) (edit 0 (head_bytes j 0) region) ≡ encode S j []
unfolding slots_bytes
closed_empty S j region long = closed S j 0 [] region tt (omega arith) (omega arith) (part_is (0 + 8) 0 region)
    ∙ edit_all (encode S j []) region (length_encode S j [] tt (omega arith) ∙ sym long)

pub emptied : (S j : ℕ) (region : List ℕ) {exit : List ℕ} → length region ≡ slot_at S
    → exit ≡ edit (0 + slot_at 0) (replicate (24 * (S - 0)) 0) (edit 0 (head_bytes j 0) region) → exit ≡ encode S j []
emptied S j region long e = e ∙ closed_empty S j region long

-- ---- the rides parted so far

pub one_at_most : (b : Bool) (n : ℕ) → n ≡ cond b 1 0 → n ≤ 1
one_at_most true n e = omega arith
one_at_most false n e = omega arith

pub record Parted (own : ℕ → Bool) (entry : List ℕ) (S old new count k stay : ℕ) (now : List ℕ) : Type 0 where
  pub within : k ≤ count
  pub short : stay ≤ k
  pub long : length now ≡ length entry
  pub untouched : (i : ℕ) → Apart (old + 8) (24 * k) i → Apart (new + 8) (24 * k) i → get_or now i 0 ≡ get_or entry i 0
  pub stays : stay ≡ length (kept own (rides_from (part old (slot_at S) entry) 0 k))
  pub left : part (old + 8) (24 * stay) now ≡ slots_bytes (kept own (rides_from (part old (slot_at S) entry) 0 k))
  pub right : part (new + 8) (24 * (k - stay)) now
      ≡ slots_bytes (kept (λ key. not (own key)) (rides_from (part old (slot_at S) entry) 0 k))

pub parted_none : (own : ℕ → Bool) (entry : List ℕ) (S old new count : ℕ) → Parted own entry S old new count 0 0 entry
unfolding rides_from kept slots_bytes
parted_none own entry S old new count = record {
  within = omega arith;
  short = omega arith;
  long = refl;
  untouched = λ i a b. refl;
  stays = refl;
  left = part_is (old + 8) 0 entry;
  right = part_is (new + 8) 0 entry;
}

-- Two regions of a list, the first before the second; the slots in use of the first are marked.
pub record Halves (entry : List ℕ) (S old new count : ℕ) : Type 0 where
  pub bytes : Bytes entry
  pub apart : old + slot_at S ≤ new
  pub fits : new + slot_at S ≤ length entry
  pub few : count ≤ S
  pub used : all_below (slot_used (part old (slot_at S) entry)) count ≡ true

module _ (own : ℕ → Bool) (entry : List ℕ) (S old new count : ℕ) (halves : Halves entry S old new count) where
  source : List ℕ
  source = part old (slot_at S) entry

  long_source : length source ≡ slot_at S
  unfolding source
  long_source = length_part old (slot_at S) entry (omega (arith, halves.apart, halves.fits))

  source_bytes : Bytes source
  unfolding source
  source_bytes = part_bytes old (slot_at S) entry (omega (arith, halves.apart, halves.fits)) halves.bytes

  module _ (k stay : ℕ) (now : List ℕ) (so : Parted own entry S old new count k stay now) (more : k < count) where
    -- the next slot is as it was
    unread : (i : ℕ) → old + slot_at k ≤ i → i < old + slot_at S → get_or now i 0 ≡ get_or entry i 0
    unread i low high = so.untouched i (inr (omega arith)) (inl (omega (arith, halves.apart)))

    pub parted_key : (key : ℕ) → key ≡ le_at 8 now (old + (8 + 24 * k) + 2)
        → key ≡ key_at (part old (slot_at S) entry) k
    parted_key key e = e ∙ le_same 8 now entry (old + slot_at k + 2) (old + (slot_at k + 2))
        (λ i h. unread (old + slot_at k + 2 + i) (omega arith) (omega (arith, halves.few))
        ∙ ap (λ (n : ℕ). get_or entry n 0) (place i))
        ∙ sym (le_part 8 entry old (slot_at S) (slot_at k + 2) (omega (arith, halves.few)))
        ∙ sym (key_is (part old (slot_at S) entry) k)
      where
        place : (i : ℕ) → old + slot_at k + 2 + i ≡ old + (slot_at k + 2) + i
        place i = omega arith

    slot : List ℕ
    slot = part (old + slot_at k) 24 now

    slot_is : slot ≡ slot_bytes (ride_at source k)
    unfolding slot source
    slot_is = part_same (old + slot_at k) 24 now entry so.long
        (omega (arith, halves.apart, halves.fits, halves.few))
        (λ i low high. unread i low (omega (arith, halves.few)))
        ∙ sym
        (part_part old (slot_at S) (slot_at k) 24 entry (omega (arith, halves.few))
        (omega (arith, halves.apart, halves.fits)))
        ∙ slot_again source source_bytes k (omega (arith, long_source, halves.few))
        (all_at (slot_used source) count k halves.used more)

    slot_long : length slot ≡ 24
    slot_long = ap length slot_is
        ∙ length_slot (ride_at source k) (ride_whole source source_bytes k (omega (arith, long_source, halves.few)))

    -- written behind those that move, then behind those that stay
    one : List ℕ
    one = edit (new + slot_at (k - stay)) slot now

    two : List ℕ
    two = edit (old + slot_at stay) slot one

    fits_new : new + slot_at (k - stay) + length slot ≤ length now
    fits_new = omega (arith, slot_long, so.long, halves.fits, halves.few)

    long_one : length one ≡ length now
    unfolding one
    long_one = length_edit (new + slot_at (k - stay)) slot now fits_new

    fits_old : old + slot_at stay + length slot ≤ length one
    fits_old = omega (arith, slot_long, long_one, so.long, so.short, halves.apart, halves.fits, halves.few)

    long_two : length two ≡ length entry
    unfolding two
    long_two = length_edit (old + slot_at stay) slot one fits_old ∙ long_one ∙ so.long

    -- the slot read again is the same
    pub parted_again : part (old + (8 + 24 * k)) 24
        (edit (new + (8 + 24 * (k - stay))) (part (old + (8 + 24 * k)) 24 now) now) ≡ part (old + (8 + 24 * k)) 24 now
    unfolding slot
    parted_again = part_before (new + slot_at (k - stay)) slot now fits_new (old + slot_at k) 24
        (omega (arith, halves.apart, halves.few))

    left_kept : part (old + 8) (24 * stay) two ≡ part (old + 8) (24 * stay) now
    unfolding two one
    left_kept = part_before (old + slot_at stay) slot one fits_old (old + 8) (24 * stay) (omega arith)
        ∙ part_before (new + slot_at (k - stay)) slot now fits_new (old + 8) (24 * stay)
        (omega (arith, so.short, halves.apart, halves.few))

    left_grown : part (old + 8) (24 * (stay + 1)) two ≡ part (old + 8) (24 * stay) now ++ slot
    left_grown = ap (λ (n : ℕ). part (old + 8) n two) longer ∙ part_split (old + 8) (24 * stay) 24 two
        ∙ ap₂ ◌++◌ left_kept at_end
      where
        longer : 24 * (stay + 1) ≡ 24 * stay + 24
        longer = omega arith

        place : old + 8 + 24 * stay ≡ old + slot_at stay
        place = omega arith

        at_end : part (old + 8 + 24 * stay) 24 two ≡ slot
        at_end = ap₂ (λ (p n : ℕ). part p n two) place (sym slot_long) ∙ unfold two
            in (part_edit (old + slot_at stay) slot one fits_old)

    right_behind : (n : ℕ) → n ≤ 24 * (k - stay) + 24 → part (new + 8) n two ≡ part (new + 8) n one
    unfolding two
    right_behind n h = part_after (old + slot_at stay) slot one fits_old (new + 8) n
        (omega (arith, slot_long, so.short, halves.apart, halves.few))
        (omega (arith, long_one, so.long, halves.fits, halves.few))

    right_before : part (new + 8) (24 * (k - stay)) one ≡ part (new + 8) (24 * (k - stay)) now
    unfolding one
    right_before = part_before (new + slot_at (k - stay)) slot now fits_new (new + 8) (24 * (k - stay)) (omega arith)

    right_kept : part (new + 8) (24 * (k - stay)) two ≡ part (new + 8) (24 * (k - stay)) now
    right_kept = right_behind (24 * (k - stay)) (omega arith) ∙ right_before

    right_grown : part (new + 8) (24 * (k - stay) + 24) two ≡ part (new + 8) (24 * (k - stay)) now ++ slot
    right_grown = right_behind (24 * (k - stay) + 24) (omega arith) ∙ part_split (new + 8) (24 * (k - stay)) 24 one
        ∙ ap₂ ◌++◌ right_before at_end
      where
        place : new + 8 + 24 * (k - stay) ≡ new + slot_at (k - stay)
        place = omega arith

        at_end : part (new + 8 + 24 * (k - stay)) 24 one ≡ slot
        at_end = ap₂ (λ (p n : ℕ). part p n one) place (sym slot_long) ∙ unfold one
            in (part_edit (new + slot_at (k - stay)) slot now fits_new)

    untouched_more : (i : ℕ) → Apart (old + 8) (24 * (k + 1)) i → Apart (new + 8) (24 * (k + 1)) i
        → get_or two i 0 ≡ get_or entry i 0
    unfolding two one
    untouched_more i a b = edit_apart (old + slot_at stay) slot one fits_old i (apart_old i a)
        ∙ edit_apart (new + slot_at (k - stay)) slot now fits_new i (apart_new i b)
        ∙ so.untouched i (fewer old i a) (fewer new i b)
      where
        apart_old : (i : ℕ) → Apart (old + 8) (24 * (k + 1)) i → Apart (old + slot_at stay) (length slot) i
        apart_old i = ⊎_elim (λ l. inl (omega arith)) (λ l. inr (omega (arith, slot_long, so.short)))

        apart_new : (i : ℕ) → Apart (new + 8) (24 * (k + 1)) i → Apart (new + slot_at (k - stay)) (length slot) i
        apart_new i = ⊎_elim (λ l. inl (omega arith)) (λ l. inr (omega (arith, slot_long)))

        fewer : (at i : ℕ) → Apart (at + 8) (24 * (k + 1)) i → Apart (at + 8) (24 * k) i
        fewer at i = ⊎_elim (λ l. inl l) (λ l. inr (omega arith))

    next : rides_from source 0 (k + 1) ≡ rides_from source 0 k ++ (ride_at source k ∷ [])
    next = ap (rides_from source 0) (add-one k) ∙ rides_append source 0 k
        ∙ ap (λ (n : ℕ). rides_from source 0 k ++ (ride_at source n ∷ [])) (zero-add k)

    kept_next : (test : ℕ → Bool)
        → kept test (rides_from source 0 (k + 1))
        ≡ kept test (rides_from source 0 k) ++ cond (test (ride_at source k).key) (ride_at source k ∷ []) []
    kept_next test = ap (kept test) next ∙ kept_append test (rides_from source 0 k) (ride_at source k)

    kept_in : (test : ℕ → Bool) → test (ride_at source k).key ≡ true
        → slots_bytes (kept test (rides_from source 0 (k + 1)))
        ≡ slots_bytes (kept test (rides_from source 0 k)) ++ slot
    kept_in test h = ap slots_bytes (kept_next test)
        ∙ rw h (slots_append (kept test (rides_from source 0 k)) (ride_at source k))
        ∙ ap (λ (l : List ℕ). slots_bytes (kept test (rides_from source 0 k)) ++ l) (sym slot_is)

    kept_out : (test : ℕ → Bool) → test (ride_at source k).key ≡ false
        → kept test (rides_from source 0 (k + 1)) ≡ kept test (rides_from source 0 k)
    kept_out test h = kept_next test ∙ rw h (append-nil (kept test (rides_from source 0 k)))

    counted_in : (test : ℕ → Bool) → test (ride_at source k).key ≡ true
        → length (kept test (rides_from source 0 (k + 1))) ≡ length (kept test (rides_from source 0 k)) + 1
    counted_in test h = ap length (kept_next test)
        ∙ rw h (length-append (kept test (rides_from source 0 k)) (ride_at source k ∷ []))

    pub parted_more : (one : ℕ) → one ≡ cond (own (key_at (part old (slot_at S) entry) k)) 1 0
        → Parted own entry S old new count (k + 1) (stay + one)
        (edit (old + (8 + 24 * stay)) (part (old + (8 + 24 * k)) 24 now)
        (edit (new + (8 + 24 * (k - stay))) (part (old + (8 + 24 * k)) 24 now) now))
    unfolding source slot one two ride_at
    parted_more one e = go (own (key_at source k)) refl e
      where
        go : (b : Bool) → own (key_at source k) ≡ b → one ≡ cond b 1 0
            → Parted own entry S old new count (k + 1) (stay + one) two
        go true h e = rw e (record {
          within = omega arith;
          short = omega (arith, so.short);
          long = long_two;
          untouched = untouched_more;
          stays = omega (arith, so.stays, counted_in own h);
          left = left_grown ∙ ap (λ (l : List ℕ). l ++ slot) so.left ∙ sym (kept_in own h);
          right = ap (λ (n : ℕ). part (new + 8) (24 * n) two) fewer ∙ right_kept ∙ so.right
              ∙ ap slots_bytes (sym (kept_out (λ key. not (own key)) (ap not h)));
        })
          where
            fewer : k + 1 - (stay + 1) ≡ k - stay
            fewer = omega arith
        go false h e = rw e (record {
          within = omega arith;
          short = omega (arith, so.short);
          long = long_two;
          untouched = untouched_more;
          stays = omega (arith, so.stays, ap length (kept_out own h));
          left = ap (λ (n : ℕ). part (old + 8) (24 * n) two) same ∙ left_kept ∙ so.left
              ∙ ap slots_bytes (sym (kept_out own h));
          right = ap (λ (n : ℕ). part (new + 8) n two) longer ∙ right_grown ∙ ap (λ (l : List ℕ). l ++ slot) so.right
              ∙ sym (kept_in (λ key. not (own key)) (ap not h));
        })
          where
            same : stay + 0 ≡ stay
            same = omega arith

            longer : 24 * (k + 1 - (stay + 0)) ≡ 24 * (k - stay) + 24
            longer = omega (arith, so.short)

  pub parted_done : (k stay : ℕ) (now : List ℕ) → Parted own entry S old new count k stay now → count ≤ k
      → Parted own entry S old new count count stay now
  parted_done k stay now so end = subst (λ (n : ℕ). Parted own entry S old new count n stay now) all so
    where
      all : k ≡ count
      all = omega (arith, so.within)

  -- both regions closed are the bytes of two buckets
  module _ (j stay : ℕ) (now : List ℕ) (so : Parted own entry S old new count count stay now) where
    rides : List Ride
    rides = rides_from source 0 count

    staying : List Ride
    staying = kept own rides

    moving : List Ride
    moving = kept (λ key. not (own key)) rides

    all_whole : AllWhole rides
    unfolding rides
    all_whole = rides_whole source source_bytes 0 count (omega (arith, long_source, halves.few))

    staying_count : stay ≡ length staying
    unfolding staying rides source
    staying_count = so.stays

    moving_count : count - stay ≡ length moving
    unfolding moving staying rides
    moving_count = omega (arith, staying_count, kept_lengths own rides, length_rides source 0 count)

    old_bytes : List ℕ
    old_bytes = encode S j staying

    new_bytes : List ℕ
    new_bytes = encode S j moving

    long_old : length old_bytes ≡ slot_at S
    unfolding old_bytes staying
    long_old = length_encode S j staying (kept_whole own rides all_whole)
        (omega (arith, staying_count, so.short, halves.few))

    long_new : length new_bytes ≡ slot_at S
    unfolding new_bytes moving
    long_new = length_encode S j moving (kept_whole (λ key. not (own key)) rides all_whole)
        (omega (arith, moving_count, halves.few))

    closed_old : edit (old + slot_at stay) (replicate (24 * (S - stay)) 0) (edit old (head_bytes j stay) now)
        ≡ edit old old_bytes now
    unfolding old_bytes staying rides source
    closed_old = ap (λ (n : ℕ). edit (old + slot_at n) (replicate (24 * (S - n)) 0) (edit old (head_bytes j n) now))
        staying_count
        ∙ closed S j old staying now (kept_whole own rides all_whole)
        (omega (arith, staying_count, so.short, halves.few))
        (omega (arith, so.long, halves.apart, halves.fits))
        (ap (λ (n : ℕ). part (old + 8) (24 * n) now) (sym staying_count) ∙ so.left)

    closed_new : edit (new + slot_at (count - stay)) (replicate (24 * (S - (count - stay))) 0)
        (edit new (head_bytes j (count - stay)) (edit old old_bytes now)) ≡ edit new new_bytes (edit old old_bytes now)
    unfolding new_bytes moving rides source
    closed_new = ap
        (λ (n : ℕ). edit (new + slot_at n) (replicate (24 * (S - n)) 0)
        (edit new (head_bytes j n) (edit old old_bytes now))) moving_count
        ∙ closed S j new moving (edit old old_bytes now) (kept_whole (λ key. not (own key)) rides all_whole)
        (omega (arith, moving_count, halves.few)) (omega (arith, room, so.long, halves.fits))
        (part_after old old_bytes now fits_old (new + 8) (24 * length moving) (omega (arith, long_old, halves.apart))
        (omega (arith, so.long, halves.fits, halves.few, moving_count))
        ∙ ap (λ (n : ℕ). part (new + 8) (24 * n) now) (sym moving_count) ∙ so.right)
      where
        fits_old : old + length old_bytes ≤ length now
        fits_old = omega (arith, long_old, so.long, halves.apart, halves.fits)

        room : length (edit old old_bytes now) ≡ length now
        room = length_edit old old_bytes now fits_old

    overwritten : edit new new_bytes (edit old old_bytes now) ≡ edit new new_bytes (edit old old_bytes entry)
    overwritten = edit_over new new_bytes (edit old old_bytes now) (edit old old_bytes entry) (one ∙ so.long ∙ sym two)
        (omega (arith, long_new, two, halves.fits)) agree
      where
        fits_now : old + length old_bytes ≤ length now
        fits_now = omega (arith, long_old, so.long, halves.apart, halves.fits)

        fits_entry : old + length old_bytes ≤ length entry
        fits_entry = omega (arith, long_old, halves.apart, halves.fits)

        one : length (edit old old_bytes now) ≡ length now
        one = length_edit old old_bytes now fits_now

        two : length (edit old old_bytes entry) ≡ length entry
        two = length_edit old old_bytes entry fits_entry

        behind : (i : ℕ) → Apart new (length new_bytes) i → Apart (new + 8) (24 * count) i
        behind i = ⊎_elim (λ l. inl (omega arith)) (λ l. inr (omega (arith, long_new, halves.few)))

        agree : (i : ℕ) → i < length (edit old old_bytes entry) → Apart new (length new_bytes) i
            → get_or (edit old old_bytes now) i 0 ≡ get_or (edit old old_bytes entry) i 0
        agree i h b = by_cases (dec_lt i old) (λ l. outside (inl l))
            (λ l. by_cases (dec_lt i (old + slot_at S)) (λ m. inside (omega (arith, l)) m)
            (λ m. outside (inr (omega (arith, long_old, m)))))
          where
            outside : Apart old (length old_bytes) i
                → get_or (edit old old_bytes now) i 0 ≡ get_or (edit old old_bytes entry) i 0
            outside a = edit_apart old old_bytes now fits_now i a
                ∙ so.untouched i (⊎_elim (λ l. inl (omega arith)) (λ l. inr (omega (arith, long_old, halves.few))) a)
                (behind i b)
                ∙ sym (edit_apart old old_bytes entry fits_entry i a)

            inside : old ≤ i → i < old + slot_at S
                → get_or (edit old old_bytes now) i 0 ≡ get_or (edit old old_bytes entry) i 0
            inside low high = ap (λ (n : ℕ). get_or (edit old old_bytes now) n 0) place
                ∙ edit_in old old_bytes now fits_now (i - old) (omega (arith, long_old))
                ∙ sym
                (ap (λ (n : ℕ). get_or (edit old old_bytes entry) n 0) place
                ∙ edit_in old old_bytes entry fits_entry (i - old) (omega (arith, long_old)))
              where
                place : i ≡ old + (i - old)
                place = omega arith

    pub divided_written : edit (new + slot_at (count - stay)) (replicate (24 * (S - (count - stay))) 0)
        (edit new (head_bytes j (count - stay))
        (edit (old + slot_at stay) (replicate (24 * (S - stay)) 0) (edit old (head_bytes j stay) now)))
        ≡ edit new (encode S j (kept (λ key. not (own key)) (rides_from (part old (slot_at S) entry) 0 count)))
        (edit old (encode S j (kept own (rides_from (part old (slot_at S) entry) 0 count))) entry)
    unfolding source rides staying moving old_bytes new_bytes
    divided_written = ap
        (λ (l : List ℕ). edit (new + slot_at (count - stay)) (replicate (24 * (S - (count - stay))) 0)
        (edit new (head_bytes j (count - stay)) l)) closed_old ∙ closed_new ∙ overwritten

-- the count read is the first region's
pub divide_count : (entry : List ℕ) (S old n : ℕ) → n ≡ le_at 2 entry (old + 4)
    → n ≡ count_of (part old (slot_at S) entry)
divide_count entry S old n e = e ∙ sym (le_part 2 entry old (slot_at S) 4 (omega arith))

pub divide_rides : (own : ℕ → Bool) (entry : List ℕ) (S j old new n : ℕ) → n ≡ count_of (part old (slot_at S) entry)
    → edit new (encode S j (kept (λ key. not (own key)) (rides_from (part old (slot_at S) entry) 0 n)))
    (edit old (encode S j (kept own (rides_from (part old (slot_at S) entry) 0 n))) entry)
    ≡ halved own S j old new entry
unfolding rides_of
divide_rides own entry S j old new n e = rw e refl

-- ---- the dividing functions by what their calls and tests told

-- one ride more
module _ (N a j : ℕ) (entry : List ℕ) (S old new count : ℕ) (halves : Halves entry S old new count) {k stay : ℕ}
    {now : List ℕ} (so : Parted (keeps N a j) entry S old new count k stay now) (more : k < count) where
  pub stay_fits : S ≤ most_slots → (kept : Bool) {one : ℕ} → one ≡ cond kept 1 0 → Fits w64 (stay + one)
  stay_fits few kept {one} e = record { fits = omega (arith, one_at_most kept one e, so.short, halves.few) }

  pub part_next : {key hashed one : ℕ} {moved exit : List ℕ} → key ≡ le_at 8 now (old + (8 + 24 * k) + 2)
      → hashed ≡ hash N j key
      → moved ≡ edit (new + (8 + 24 * (k - stay))) (part (old + (8 + 24 * k)) 24 now) now
      → exit ≡ edit (old + (8 + 24 * stay)) (part (old + (8 + 24 * k)) 24 moved) moved
      → one ≡ cond (eqb hashed a) 1 0
      → Parted (keeps N a j) entry S old new count (k + 1) (stay + one) exit
  part_next {key} {hashed} {one} ek eh em ex eo = subst
      (λ (bytes : List ℕ). Parted (keeps N a j) entry S old new count (k + 1) (stay + one) bytes)
      (sym (ex ∙ ap (λ (bytes : List ℕ). edit (old + slot_at stay) (part (old + slot_at k) 24 bytes) bytes) em
      ∙ ap (λ (slot : List ℕ). edit (old + slot_at stay) slot
      (edit (new + slot_at (k - stay)) (part (old + slot_at k) 24 now) now))
      (parted_again (keeps N a j) entry S old new count halves k stay now so more)))
      (parted_more (keeps N a j) entry S old new count halves k stay now so more one
      (eo ∙ ap (λ (b : Bool). cond b 1 0) belongs))
    where
      belongs : eqb hashed a ≡ keeps N a j (key_at (part old (slot_at S) entry) k)
      belongs = ap (λ (h : ℕ). eqb h a)
          (eh ∙ ap (hash N j) (parted_key (keeps N a j) entry S old new count halves k stay now so more key ek))
          ∙ sym (keeps_is N a j (key_at (part old (slot_at S) entry) k))

-- the count read, and both regions closed
module _ (entry : List ℕ) (S old new : ℕ)
    (halves : Halves entry S old new (count_of (part old (slot_at S) entry))) {n : ℕ}
    (is : n ≡ le_at 2 entry (old + 4)) where
  pub halves_read : Halves entry S old new n
  halves_read = subst (Halves entry S old new) (sym (divide_count entry S old n is)) halves

  pub some_fit : {m : ℕ} → m ≤ n → m ≤ S
  some_fit fewer = omega (arith, halves_read.few)

  module _ {own : ℕ → Bool} {stay : ℕ} {now : List ℕ} (so : Parted own entry S old new n n stay now) where
    pub old_fits : old + slot_at S ≤ length now
    old_fits = omega (arith, so.long, halves.apart, halves.fits)

    pub new_fits : {size : ℕ} → size ≡ length now → new + slot_at S ≤ size
    new_fits e = omega (arith, so.long, halves.fits)

    pub halved_done : (j : ℕ) {one exit : List ℕ}
        → one ≡ edit (old + slot_at stay) (replicate (24 * (S - stay)) 0) (edit old (head_bytes j stay) now)
        → exit
        ≡ edit (new + slot_at (n - stay)) (replicate (24 * (S - (n - stay))) 0) (edit new (head_bytes j (n - stay)) one)
        → exit ≡ halved own S j old new entry
    halved_done j e1 e2 =
        e2
        ∙ ap (λ (bytes : List ℕ). edit (new + slot_at (n - stay)) (replicate {A = ℕ} (24 * (S - (n - stay))) 0)
        (edit new (head_bytes j (n - stay)) bytes)) e1
        ∙ divided_written own entry S old new n halves_read j stay now so
        ∙ divide_rides own entry S j old new n (divide_count entry S old n is)
