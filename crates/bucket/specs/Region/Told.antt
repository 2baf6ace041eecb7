-- The judging functions by what their calls and tests told: each group follows its function in the source, with a law
-- for each turn of its loop and each way out.
use Rattle.std.specs.Prelude.{ℕ, ◌+◌, ◌*◌, ◌-◌, ◌≤◌, ◌<◌, ◌≡◌, refl, Bool, true, false, cond, not, ◌&&◌, List, eqb}
use Rattle.std.specs.Prelude.{length, get_or, set, take, drop, replicate, Option, Some, None, is_some}
use Rattle.std.specs.Option.{unwrap_or}
use Rattle.std.specs.Bool.{then_some}
use Rattle.std.proofs.Common.{sym, ap, ap₂, subst, ◌∙◌, arith, eq-eqb, ne_eqb, length-drop, Fits}
use Rattle.std.proofs.lemmas.Bool.{not-true, not-false}
use borrow.Author.Rules.{part_to_end}
use Rattle.std.specs.Int.Bits.{bit_or}
use Rattle.std.proofs.lemmas.List.{length-replicate}
use Rattle.std.proofs.Math.Seq.{take-length}
use Rattle.std.proofs.Math.Facts.{Fits-8_64}
use Rattle.std.specs.Int.{w8, w64}
use Rattle.address.specs.Limits.{most_slots}
use Rattle.address.specs.Rules.{keeps}
use Rattle.layout.specs.Bytes.{le_at, le_bytes, all_below, all_zero, first_from, edit, part}
use Rattle.layout.specs.Bytes.Edit.{part_front}
use Rattle.layout.specs.Bytes.Numbers.{le_drop, word_more}
use Rattle.layout.specs.Bytes.Tests.{all_none, zero_done, first_here, first_later, first_none}
use Rattle.bucket.specs.Region.{slot_at, slot_mark, slot_used, key_at, rides_from, keys_of, distinct, head_sound}
use Rattle.bucket.specs.Region.{sound_with, slot_of, slot_bytes}
use Rattle.bucket.specs.Region.Judge.{fitting, fits_more, fits_told, judged_head, judged_few, judged_slots}
use Rattle.bucket.specs.Region.Judge.{judged_rest}
use Rattle.bucket.specs.Region.Keep.{slot_is}
use Rattle.bucket.specs.Region.Single.{fingerprints, fingerprint, latest_of, Chained, SoughtAt, Sought}
use Rattle.bucket.specs.Region.Single.{sought_next}
use Rattle.bucket.specs.Region.Single.{sought_met, sought_stands, sought_fresh, first_found}
use Rattle.bucket.specs.Region.Single.{found_none, found_met, found_place}
use Rattle.bucket.specs.Region.Single.{single_more}
use Rattle.bucket.specs.Region.Single.{single_met, single_done, Chaining, chain_start, chain_met, chain_more}
use Rattle.bucket.specs.Region.Single.{chain_whole, chain_done, place_sought, place_done}
use Rattle.bucket.specs.Region.Single.{slots_formed, slots_judged, slots_unfit, slots_double, slots_single, slots_none}
use Rattle.bucket.specs.Region.Single.{slots_some}
use Rattle.bucket.specs.Region.Write.{put_slot}

-- a byte as a wide number
pub wide_byte : (bytes : List ℕ) (k : ℕ) → ((i : ℕ) → Fits w8 (get_or bytes i 0)) → Fits w64 (get_or bytes k 0)
wide_byte bytes k known = Fits-8_64 (known k)

-- ---- the first slot that holds a key: the first from slot k on is the first of all, since none before k holds it

pub record Finding (region : List ℕ) (count key k : ℕ) : Type 0 where
  pub within : k ≤ count
  pub is : first_from (λ i. eqb (key_at region i) key) (count - k) k
      ≡ first_from (λ i. eqb (key_at region i) key) count 0

pub find_start : (region : List ℕ) (count key : ℕ) → Finding region count key 0
find_start region count key = record {
  within = omega arith;
  is = ap (λ (n : ℕ). first_from (λ i. eqb (key_at region i) key) n 0) whole;
}
  where
    whole : count - 0 ≡ count
    whole = omega arith

module _ (region : List ℕ) (count key k : ℕ) (so : Finding region count key k) where
  pub find_none : count ≤ k → k ≡ first_from (λ i. eqb (key_at region i) key) count 0
  find_none end = sym (first_none (λ i. eqb (key_at region i) key) count k end) ∙ so.is

  module _ (inside : k < count) {held : ℕ} (is : held ≡ key_at region k) where
    pub find_here : held ≡ key → k ≡ first_from (λ i. eqb (key_at region i) key) count 0
    find_here e = sym (first_here (λ i. eqb (key_at region i) key) count k inside (eq-eqb _ _ (sym is ∙ e)))
        ∙ so.is

    pub find_later : (held ≡ key → ⊥) → Finding region count key (k + 1)
    find_later h = record {
      within = omega arith;
      is = sym (first_later (λ i. eqb (key_at region i) key) count k inside (ne_eqb _ _ (λ e. h (is ∙ e)))) ∙ so.is;
    }

-- ---- a key sought along its chain

module _ (region : List ℕ) (key count next : ℕ) (so : Sought region key count next) {slot : ℕ}
    (back : (1 ≤ next) × (slot ≡ next - 1)) {held : ℕ} (is : held ≡ key_at region slot) where
  some : next ≡ 0 → ⊥
  some none = omega (arith, none, back.0)

  read : key_at region (next - 1) ≡ held
  read = sym (is ∙ ap (key_at region) back.1)

  pub seek_met : held ≡ key → SoughtAt region key count (Some slot)
  seek_met e = subst (λ (n : ℕ). SoughtAt region key count (Some n)) (sym back.1)
      (sought_met region key count next so some (read ∙ e))

  module _ (other : held ≡ key → ⊥) (before : List ℕ) (chained : Chained region before count) where
    pub seek_next : Sought region key count (get_or before slot 0)
    seek_next = subst (λ (n : ℕ). Sought region key count (get_or before n 0)) (sym back.1)
        (sought_next region key count next so some before chained (λ e. other (sym read ∙ e))).0

    pub seek_less : get_or before slot 0 < next
    seek_less = subst (λ (n : ℕ). get_or before n 0 < next) (sym back.1)
        (sought_next region key count next so some before chained (λ e. other (sym read ∙ e))).1

-- ---- one slot, with the key that was read of it: it fits or it does not

module _ (N a j : ℕ) (region : List ℕ) (k : ℕ) {held : ℕ} (is : held ≡ key_at region k) {fits : Bool}
    (told : fits ≡ (slot_used region k && keeps N a j held)) where
  pub slot_unfit : not fits ≡ true → (count key : ℕ) → k < count → None ≡ slots_judged (keeps N a j) region count key
  slot_unfit bad count key more = slots_unfit (keeps N a j) region count key k more
      (fits_told (keeps N a j) region k held fits false told is (not-true fits bad))

  pub slot_next : not fits ≡ false → all_below (fitting (keeps N a j) region) k ≡ true
      → all_below (fitting (keeps N a j) region) (k + 1) ≡ true
  slot_next fine so = fits_more (keeps N a j) region k so
      (fits_told (keeps N a j) region k held fits true told is (not-false fits fine))

-- ---- each key compared with all before it

module _ (region : List ℕ) (k : ℕ) (so : distinct (keys_of (rides_from region 0 k)) ≡ true) where
  module _ {held : ℕ} (is : held ≡ key_at region k) {found : Option ℕ} (told : found ≡ first_found region k held)
      {met : Bool} (asked : met ≡ is_some found) where
    own_found : found ≡ first_found region k (key_at region k)
    own_found = told ∙ ap (first_found region k) is

    pub paired_double : met ≡ true → (N a j count key : ℕ) → k < count
        → None ≡ slots_judged (keeps N a j) region count key
    paired_double e N a j count key more = slots_double (keeps N a j) region count key
        (single_met region k so false (found_met region k (key_at region k) own_found (sym asked ∙ e)) refl count more)

    pub paired_next : met ≡ false → distinct (keys_of (rides_from region 0 (k + 1))) ≡ true
    paired_next e = single_more region k so true (found_none region k (key_at region k) own_found (sym asked ∙ e)) refl

  pub paired_done : (N a j count key : ℕ) → k ≤ count → count ≤ k → all_below (fitting (keeps N a j) region) k ≡ true
      → {found : Option ℕ} → found ≡ first_found region count key → {place : ℕ} → place ≡ unwrap_or found count
      → Some place ≡ slots_judged (keeps N a j) region count key
  paired_done N a j count key within end fits told {place} e =
      slots_single (keeps N a j) region count key k place within end fits
      (single_done region count k within end so) (e ∙ found_place region count key told)

-- ---- each slot chained to the latest before it of its key's fingerprint

module _ (region : List ℕ) (count k : ℕ) {latests before : List ℕ} (so : Chaining region count k latests before) where
  pub chain_long : {first : List ℕ} → first ≡ replicate fingerprints 0 → length latests ≡ length first
  chain_long e = so.wide ∙ sym (ap length e ∙ length-replicate {A = ℕ} fingerprints 0)

  -- where a key's chain starts: among the slots so far, and in the end among all
  module _ (key : ℕ) {mark : ℕ} (is : mark ≡ fingerprint key) (small : mark < fingerprints) where
    pub chain_from : get_or latests mark 0 ≡ latest_of region (fingerprint key) k
    chain_from = (chain_start region count k latests before so mark key is small).0

    pub chain_last : count ≤ k → get_or latests mark 0 ≡ latest_of region (fingerprint key) count
    chain_last end = (chain_start region count count latests before (chain_whole region count k latests before so end)
        mark key is small).0

  pub chain_all : count ≤ k → Chained region before count
  chain_all end = (chain_whole region count k latests before so end).chained

  module _ (more : k < count) (few : count ≤ most_slots) {held : ℕ} (is : held ≡ key_at region k) {found : Option ℕ}
      (sought : SoughtAt region held k found) {met : Bool} (asked : met ≡ is_some found) where
    own_sought : SoughtAt region (key_at region k) k found
    own_sought = subst (λ (x : ℕ). SoughtAt region x k found) is sought

    pub chained_double : met ≡ true → (N a j key : ℕ) → None ≡ slots_judged (keeps N a j) region count key
    chained_double e N a j key = slots_double (keeps N a j) region count key
        (chain_met region count k latests before so more few false
        (sought_stands region (key_at region k) k found own_sought (sym asked ∙ e)) refl)

    pub chain_next : met ≡ false → {mark : ℕ} → mark ≡ fingerprint held → mark < fingerprints
        → Chaining region count (k + 1) (set latests mark (k + 1)) (set before k (get_or latests mark 0))
    chain_next none {mark} e small = chain_more region count k latests before so more few true
        (sought_fresh region (key_at region k) k found own_sought (sym asked ∙ none)) refl mark (get_or latests mark 0)
        (e ∙ ap fingerprint is) small refl

  pub chained_done : (N a j : ℕ) → all_below (fitting (keeps N a j) region) k ≡ true → count ≤ k
      → (key : ℕ) {found : Option ℕ} → SoughtAt region key count found → {place : ℕ} → place ≡ unwrap_or found count
      → Some place ≡ slots_judged (keeps N a j) region count key
  chained_done N a j fits end key {found} sought {place} e = slots_single (keeps N a j) region count key k place
      so.within end fits
      (chain_done region count k latests before so end)
      (e ∙ place_done region key count (unwrap_or found count) (place_sought region key count found sought)
      (chain_done region count k latests before so end))

-- ---- the unused slots: what was seen of them so far is zero if every byte of them is

pub record Seen (region : List ℕ) (from slots k seen : ℕ) : Type 0 where
  pub behind : from ≤ k
  pub within : k ≤ slots
  pub is : eqb seen 0 ≡ all_below (λ i. eqb (get_or (drop (slot_at from) region) i 0) 0) (24 * (k - from))

pub seen_none : (region : List ℕ) (from slots : ℕ) → from ≤ slots → Seen region from slots from 0
seen_none region from slots h = record {
  behind = omega arith;
  within = h;
  is = sym (ap (all_below (λ i. eqb (get_or (drop (slot_at from) region) i 0) 0)) none
      ∙ all_none (λ i. eqb (get_or (drop (slot_at from) region) i 0) 0));
}
  where
    none : 24 * (from - from) ≡ 0
    none = omega arith

module _ (region : List ℕ) (from slots k seen : ℕ) (so : Seen region from slots k seen) where
  pub seen_more : k < slots → {one two three : ℕ} → one ≡ le_at 8 region (slot_at k)
      → two ≡ le_at 8 region (slot_at k + 8)
      → three ≡ le_at 8 region (slot_at k + 16)
      → Seen region from slots (k + 1) (bit_or (bit_or (bit_or seen one) two) three)
  seen_more more {one} {two} {three} first second third = record {
    behind = omega arith;
    within = omega arith;
    is =
        word (24 * (k - from) + 8 + 8) (bit_or (bit_or seen one) two) third (omega arith)
        (word (24 * (k - from) + 8) (bit_or seen one) second (omega arith)
        (word (24 * (k - from)) seen first (omega arith) so.is))
        ∙ ap (all_below (λ i. eqb (get_or (drop (slot_at from) region) i 0) 0)) next;
  }
    where
      -- a word of the region, among the bytes behind the used slots
      word : (at before : ℕ) {new place : ℕ} → new ≡ le_at 8 region place → place ≡ slot_at from + at
          → eqb before 0 ≡ all_below (λ i. eqb (get_or (drop (slot_at from) region) i 0) 0) at
          → eqb (bit_or before new) 0 ≡ all_below (λ i. eqb (get_or (drop (slot_at from) region) i 0) 0) (at + 8)
      word at before {new} is here zero = word_more (drop (slot_at from) region) at before new zero
          (is ∙ ap (le_at 8 region) here ∙ sym (le_drop 8 region (slot_at from) at))

      next : 24 * (k - from) + 8 + 8 + 8 ≡ 24 * (k + 1 - from)
      next = omega arith

  pub seen_done : length region ≡ slot_at slots → slots ≤ k → eqb seen 0 ≡ all_zero (drop (slot_at from) region)
  seen_done long end = zero_done (drop (slot_at from) region) (24 * (k - from)) (eqb seen 0)
      (omega (arith, length-drop (slot_at from) region)) (omega (arith, length-drop (slot_at from) region)) so.is

-- and all bytes behind the used slots, cut out of the region
pub rest_cut : (region : List ℕ) (count : ℕ) {rest : Bool}
    → rest ≡ all_zero (take (length region - slot_at count) (drop (slot_at count) region))
    → rest ≡ all_zero (drop (slot_at count) region)
rest_cut region count e = e ∙ ap all_zero (part_to_end region (slot_at count))

-- ---- the whole region: head, slots and unused bytes in turn

module _ (S j : ℕ) (region : List ℕ) {head : Bool} (is : head ≡ head_sound S j region) where
  pub head_unsound : not head ≡ true → (own : ℕ → Bool) (key : ℕ)
      → None ≡ cond (sound_with S j own region) (Some (slot_of region key)) None
  head_unsound bad own key = rw (sym (judged_head S j own region head (le_at 2 region 4) is refl bad))

  module _ (fine : not head ≡ false) {n : ℕ} (en : n ≡ le_at 2 region 4) where
    pub count_few : n ≤ S
    count_few = judged_few S j (λ key. true) region head n is en fine

    pub count_within : length region ≡ slot_at S → slot_at n ≤ length region
    count_within e = omega (arith, count_few)

    pub count_most : S ≤ most_slots → n ≤ most_slots
    count_most h = omega (arith, count_few)

    module _ (own : ℕ → Bool) (key : ℕ) {judged : Option ℕ} (told : judged ≡ slots_judged own region n key) where
      pub slots_unsound : judged ≡ None → {answer : Option ℕ} → answer ≡ None
          → answer ≡ cond (sound_with S j own region) (Some (slot_of region key)) None
      slots_unsound e {answer} none = none
          ∙ rw (sym (judged_slots S j own region head n is en fine (slots_formed own region n) refl
          (ap not (slots_none own region n key (sym told ∙ e)))))

      module _ {place : ℕ} (found : judged ≡ Some place) where
        good : (slots_formed own region n ≡ true) × (place ≡ first_from (λ i. eqb (key_at region i) key) n 0)
        good = slots_some own region n key place (sym told ∙ found)

        pub place_judged : place ≡ slot_of region key
        place_judged = good.1 ∙ ap (λ (m : ℕ). first_from (λ i. eqb (key_at region i) key) m 0) en
            ∙ slot_is region key

      pub rest_judged : {place : ℕ} → judged ≡ Some place → {rest : Bool}
          → rest ≡ all_zero (drop (slot_at n) region) → {answer : Option ℕ} → answer ≡ then_some rest place
          → answer ≡ cond (sound_with S j own region) (Some (slot_of region key)) None
      rest_judged {place} found {rest} clean e = e ∙ some_if rest place
          ∙ ap₂ (λ (b : Bool) (x : ℕ). cond b (Some x) None)
          (judged_rest S j own region head n is en fine (slots_formed own region n) refl (ap not (good found).0) rest
          clean)
          (place_judged found)
        where
          some_if : (b : Bool) (x : ℕ) → then_some b x ≡ cond b (Some x) None
          some_if true x = refl
          some_if false x = refl

-- ---- a ride placed: mark, key, payload and count, one written after the other

pub ride_placed : (count key : ℕ) (payload region : List ℕ) → length payload ≡ 14 → slot_at count + 24 ≤ length region
    → {one two three exit : List ℕ} → one ≡ edit (slot_at count) slot_mark region
    → two ≡ edit (slot_at count + 2) (le_bytes 8 key) one → three ≡ edit (slot_at count + 10) (part 0 14 payload) two
    → exit ≡ edit 4 (le_bytes 2 (count + 1)) three
    → exit ≡ edit 4 (le_bytes 2 (count + 1))
    (edit (slot_at count) (slot_bytes (record { key = key; payload = payload })) region)
ride_placed count key payload region long fits e1 e2 e3 e4 =
    e4
    ∙ ap (edit 4 (le_bytes 2 (count + 1)))
    (e3 ∙ ap₂ (edit (slot_at count + 10)) whole (e2 ∙ ap (edit (slot_at count + 2) (le_bytes 8 key)) e1)
    ∙ put_slot (slot_at count) key payload region long fits)
  where
    whole : part 0 14 payload ≡ payload
    whole = ap (λ (n : ℕ). part 0 n payload) (sym long) ∙ part_front (length payload) payload ∙ take-length payload
