-- What each turn of the judging loops adds: over plain values, so that a function's proof only cites.
use Rattle.std.specs.Prelude.{ℕ, zero, suc, ◌+◌, ◌*◌, ◌-◌, ◌≤◌, ◌<◌, ◌≡◌, Bool, not, ◌&&◌, List, [], ◌∷◌, ◌++◌, leb}
use Rattle.std.specs.Prelude.{get_or, drop}
use Rattle.std.proofs.Math.Path.{refl, ap}
use Rattle.std.proofs.Common.{sym, ap₂, ◌∙◌, ⊎_elim, add-zero, zero-add, add-one, arith, Fits}
use Rattle.std.proofs.Math.Bool.{true, false, and-true}
use borrow.Author.Tests.{eq-eqb, leb-true, not-true, not-false}
use Rattle.std.specs.Int.Bits.{bit_or, bit_xor}
use Rattle.std.proofs.Math.Dec.{eqb}
use Rattle.std.specs.Int.{w8}
use Rattle.address.specs.Compare.{below}
use Rattle.address.specs.Rules.{hash, keeps}
use Rattle.address.specs.Rules.Cases.{keeps_is}
use Rattle.layout.specs.Bytes.{byte_at, le_at, marked, all_below, all_zero, part}
use Rattle.layout.specs.Bytes.Numbers.{le_two, two_same, both_none}
use Rattle.layout.specs.Bytes.Tests.{all_none, all_more, and_left, and_right, and_both, and_none}
use Rattle.bucket.specs.Region.{Ride, bucket_mark, slot_at, count_of, level_of, head_formed, slot_used, key_at, ride_at}
use Rattle.bucket.specs.Region.{rides_from, rides_of, keys_of, every, distinct, head_sound, sound_with}
use Rattle.bucket.specs.Region.Rides.{keys_append, distinct_append}
use Rattle.bucket.specs.Region.Every.{every_append}

pub head_judged : (S j : ℕ) (region : List ℕ) → j < 256 → ((k : ℕ) → Fits w8 (get_or region k 0)) → {mark : Bool}
    {l z n : ℕ} → mark ≡ marked region 0 bucket_mark → l ≡ le_at 2 region 2 → z ≡ le_at 2 region 6
    → n ≡ le_at 2 region 4
    → (mark && eqb (bit_or (bit_xor l j) z) 0 && leb n S) ≡ head_sound S j region
unfolding head_sound head_formed
head_judged S j region small fits {mark} {l} {z} em el ez en = rw
    (em, both_none l j z ∙ ap₂ ◌&&◌ (pair 2 j el small) (pair 6 0 ez (omega arith)), en)
    (go (marked region 0 bucket_mark) (eqb (byte_at region 2) j) (eqb (byte_at region 3) 0) (eqb (byte_at region 6) 0)
    (eqb (byte_at region 7) 0) (leb (count_of region) S))
  where
    pair : (at low : ℕ) {x : ℕ} → x ≡ le_at 2 region at → low < 256
        → eqb x low ≡ (eqb (byte_at region at) low && eqb (byte_at region (at + 1)) 0)
    pair at low {x} e l = ap₂ eqb (e ∙ sym (le_two region at)) number
        ∙ two_same (byte_at region at) (byte_at region (at + 1)) low 0 (fits at).fits l
      where
        number : low ≡ low + 0 * 256
        number = omega arith

    go : (m a b c d e : Bool) → (m && (a && b && (c && d)) && e) ≡ (m && b && c && d && a && e)
    go true true true true true e = refl
    go true true true true false e = refl
    go true true true false d e = refl
    go true true false c d e = refl
    go true false true true true e = refl
    go true false true true false e = refl
    go true false true false d e = refl
    go true false false c d e = refl
    go false a b c d e = refl

pub key_is : (region : List ℕ) (k : ℕ) → key_at region k ≡ le_at 8 region (8 + 24 * k + 2)
unfolding key_at
key_is region k = refl

pub ride_payload : (region : List ℕ) (k : ℕ) → (ride_at region k).payload ≡ part (slot_at k + 10) 14 region
unfolding ride_at
ride_payload region k = refl

used_is : (region : List ℕ) (k : ℕ) → slot_used region k ≡ marked region (8 + 24 * k) (76 ∷ 82 ∷ [])
unfolding slot_used
used_is region k = refl

-- the rides of one slot more, at the end
pub rides_append : (region : List ℕ) (k c : ℕ)
    → rides_from region k (suc c) ≡ rides_from region k c ++ (ride_at region (k + c) ∷ [])
unfolding rides_from
rides_append region k zero = ap (λ (n : ℕ). ride_at region n ∷ []) (sym (add-zero k))
rides_append region k (suc c) = ap (λ (l : List Ride). ride_at region k ∷ l)
    (rides_append region (suc k) c ∙ ap (λ (n : ℕ). rides_from region (suc k) c ++ (ride_at region n ∷ [])) moved)
  where
    moved : suc k + c ≡ k + suc c
    moved = omega arith

pub keys_more : (region : List ℕ) (k : ℕ)
    → keys_of (rides_from region 0 (k + 1)) ≡ keys_of (rides_from region 0 k) ++ (key_at region k ∷ [])
unfolding ride_at
keys_more region k =
    ap (λ (n : ℕ). keys_of (rides_from region 0 n)) (add-one k)
    ∙ ap keys_of (rides_append region 0 k)
    ∙ keys_append (rides_from region 0 k) (ride_at region (0 + k))
    ∙ ap (λ (n : ℕ). keys_of (rides_from region 0 k) ++ (key_at region n ∷ [])) (zero-add k)

-- ---- slots that are marked and whose keys belong

abbrev pub fitting : (ℕ → Bool) → List ℕ → ℕ → Bool
fitting own region k = slot_used region k && own (key_at region k)

module _ (own : ℕ → Bool) (region : List ℕ) where
  pub fits_more : (k : ℕ) → all_below (fitting own region) k ≡ true → fitting own region k ≡ true
      → all_below (fitting own region) (k + 1) ≡ true
  fits_more k so fits = all_more (fitting own region) k
      ∙ and_both (all_below (fitting own region) k) (fitting own region k) so fits

  abbrev each : ℕ → Bool
  each n = all_below (slot_used region) n && every own (keys_of (rides_from region 0 n))

  each_none : each 0 ≡ true
  unfolding rides_from keys_of every
  each_none = rw (all_none (slot_used region))

  each_more : (n : ℕ) → each (n + 1) ≡ (each n && fitting own region n)
  each_more n =
      ap₂ ◌&&◌ (all_more (slot_used region) n)
      (ap (every own) (keys_more region n) ∙ every_append own (keys_of (rides_from region 0 n)) (key_at region n))
      ∙ go (all_below (slot_used region) n) (slot_used region n) (every own (keys_of (rides_from region 0 n)))
      (own (key_at region n))
    where
      go : (a b c d : Bool) → (a && b && (c && d)) ≡ (a && c && (b && d))
      go true true c d = refl
      go true false true d = refl
      go true false false d = refl
      go false b c d = refl

  -- each slot fits if each is marked and each key belongs
  pub fits_all : (n : ℕ) → all_below (fitting own region) n
      ≡ (all_below (slot_used region) n && every own (keys_of (rides_from region 0 n)))
  fits_all zero = all_none (fitting own region) ∙ sym each_none
  fits_all (suc n) =
      ap (all_below (fitting own region)) (sym (add-one n))
      ∙ all_more (fitting own region) n
      ∙ ap (λ (b : Bool). b && fitting own region n) (fits_all n)
      ∙ sym (each_more n)
      ∙ ap each (add-one n)

-- whether a key belongs, by its hash
pub keeps_read : (N a j key : ℕ) {h : ℕ} → h ≡ hash N j key → eqb h a ≡ keeps N a j key
keeps_read N a j key e = ap (λ (x : ℕ). eqb x a) e ∙ sym (keeps_is N a j key)

-- one slot by what was read of it
pub used_read : (region : List ℕ) (k : ℕ) {mark own is : Bool} → mark ≡ marked region (8 + 24 * k) (76 ∷ 82 ∷ [])
    → own ≡ is → (mark && own) ≡ (slot_used region k && is)
used_read region k em eo = ap₂ ◌&&◌ (em ∙ sym (used_is region k)) eo

pub fits_read : (N a j : ℕ) (region : List ℕ) (k : ℕ) (mark : Bool) (key h : ℕ)
    → mark ≡ marked region (8 + 24 * k) (76 ∷ 82 ∷ []) → h ≡ hash N j key
    → (mark && eqb h a) ≡ (slot_used region k && keeps N a j key)
fits_read N a j region k mark key h em eh = used_read region k em (keeps_read N a j key eh)

pub fits_told : (own : ℕ → Bool) (region : List ℕ) (k key : ℕ) (fits b : Bool) → fits ≡ (slot_used region k && own key)
    → key ≡ key_at region k → fits ≡ b → fitting own region k ≡ b
fits_told own region k key fits b e ek eb = sym (e ∙ ap (λ (x : ℕ). slot_used region k && own x) ek) ∙ eb

-- ---- keys compared with one another

-- a key that no slot holds differs from all, and one that a slot holds does not
pub fresh_from : (region : List ℕ) (key k c : ℕ) → ((i : ℕ) → k ≤ i → i < k + c → eqb (key_at region i) key ≡ false)
    → every (λ other. not (eqb other key)) (keys_of (rides_from region k c)) ≡ true
unfolding rides_from keys_of every ride_at
fresh_from region key k zero h = refl
fresh_from region key k (suc c) h = and_both (not (eqb (key_at region k) key)) _
    (ap not (h k (omega arith) (omega arith)))
    (fresh_from region key (suc k) c (λ i low high. h i (omega arith) (omega arith)))

pub stands : (region : List ℕ) (key k c i : ℕ) → k ≤ i → i < k + c → key_at region i ≡ key
    → every (λ other. not (eqb other key)) (keys_of (rides_from region k c)) ≡ false
unfolding rides_from keys_of every ride_at
stands region key k zero i low high e = absurd (omega arith)
stands region key k (suc c) i low high e = ⊎_elim
    (λ l. and_none (not (eqb (key_at region k) key)) _ (stands region key (suc k) c i l (omega arith) e))
    (λ l. rw (eq-eqb (key_at region k) key (ap (key_at region) (equal l) ∙ e)))
    (below k i)
  where
    equal : i ≤ k → k ≡ i
    equal l = omega arith

-- keys that are not distinct stay so as others follow
distinct_longer : (region : List ℕ) (k c : ℕ) → distinct (keys_of (rides_from region 0 k)) ≡ false
    → distinct (keys_of (rides_from region 0 (k + c))) ≡ false
distinct_longer region k zero h = ap (λ (n : ℕ). distinct (keys_of (rides_from region 0 n))) (add-zero k) ∙ h
distinct_longer region k (suc c) h =
    ap (λ (n : ℕ). distinct (keys_of (rides_from region 0 n))) moved
    ∙ ap distinct (keys_more region (k + c))
    ∙ distinct_append (keys_of (rides_from region 0 (k + c))) (key_at region (k + c))
    ∙ rw (distinct_longer region k c h)
  where
    moved : k + suc c ≡ k + c + 1
    moved = omega arith

pub distinct_later : (region : List ℕ) (k count : ℕ) → k ≤ count → distinct (keys_of (rides_from region 0 k)) ≡ false
    → distinct (keys_of (rides_from region 0 count)) ≡ false
distinct_later region k count h e = ap (λ (n : ℕ). distinct (keys_of (rides_from region 0 n))) whole
    ∙ distinct_longer region k (count - k) e
  where
    whole : count ≡ k + (count - k)
    whole = omega arith

-- ---- the whole judgment

module _ (S j : ℕ) (own : ℕ → Bool) (region : List ℕ) where
  pub unsound_head : head_sound S j region ≡ false → sound_with S j own region ≡ false
  unfolding sound_with
  unsound_head h = rw h

  pub head_count : head_sound S j region ≡ true → count_of region ≤ S
  unfolding head_sound
  head_count h = leb-true _ _ (and_right (head_formed region && eqb (level_of region) j) _ h)

  pub unsound_slots : head_sound S j region ≡ true
      → (all_below (slot_used region) (count_of region) && every own (keys_of (rides_of region))
      && distinct (keys_of (rides_of region))) ≡ false → sound_with S j own region ≡ false
  unfolding sound_with
  unsound_slots h l = rw h
      (go (all_below (slot_used region) (count_of region)) (every own (keys_of (rides_of region)))
      (distinct (keys_of (rides_of region))) l
      (all_zero (drop (slot_at (count_of region)) region)))
    where
      go : (used belong single : Bool) → (used && belong && single) ≡ false → (rest : Bool)
          → (used && rest && belong && single) ≡ false
      go true belong single l true = l
      go true belong single l false = refl
      go false belong single l rest = refl

  pub sound_slots : head_sound S j region ≡ true
      → (all_below (slot_used region) (count_of region) && every own (keys_of (rides_of region))
      && distinct (keys_of (rides_of region))) ≡ true
      → sound_with S j own region ≡ all_zero (drop (slot_at (count_of region)) region)
  unfolding sound_with
  sound_slots h l = rw (
    h,
    and_left (all_below (slot_used region) (count_of region)) (every own (keys_of (rides_of region))) both,
    and_right (all_below (slot_used region) (count_of region)) (every own (keys_of (rides_of region))) both,
    and_right (all_below (slot_used region) (count_of region) && every own (keys_of (rides_of region)))
        (distinct (keys_of (rides_of region))) l,
  ) (and-true (all_zero (drop (slot_at (count_of region)) region) && true)
      ∙ and-true (all_zero (drop (slot_at (count_of region)) region)))
    where
      both : (all_below (slot_used region) (count_of region) && every own (keys_of (rides_of region))) ≡ true
      both = and_left (all_below (slot_used region) (count_of region) && every own (keys_of (rides_of region)))
          (distinct (keys_of (rides_of region))) l

-- the judging function's way, test by test
module _ (S j : ℕ) (own : ℕ → Bool) (region : List ℕ) (head : Bool) (n : ℕ) (eh : head ≡ head_sound S j region)
    (en : n ≡ le_at 2 region 4) where
  pub judged_head : not head ≡ true → false ≡ sound_with S j own region
  judged_head h = sym (unsound_head S j own region (sym eh ∙ not-true head h))

  module _ (ok : not head ≡ false) where
    headed : head_sound S j region ≡ true
    headed = sym eh ∙ not-false head ok

    pub judged_few : n ≤ S
    judged_few = omega (arith, head_count S j own region headed)

    module _ (slots : Bool)
        (es : slots
        ≡ (all_below (slot_used region) n && every own (keys_of (rides_from region 0 n))
        && distinct (keys_of (rides_from region 0 n)))) where
      counted : slots
          ≡ (all_below (slot_used region) (count_of region) && every own (keys_of (rides_of region))
          && distinct (keys_of (rides_of region)))
      unfolding rides_of
      counted = es
          ∙ ap (λ (m : ℕ). all_below (slot_used region) m && every own (keys_of (rides_from region 0 m))
          && distinct (keys_of (rides_from region 0 m))) en

      pub judged_slots : not slots ≡ true → false ≡ sound_with S j own region
      judged_slots h = sym (unsound_slots S j own region headed (sym counted ∙ not-true slots h))

      pub judged_rest : not slots ≡ false → (rest : Bool) → rest ≡ all_zero (drop (slot_at n) region)
          → rest ≡ sound_with S j own region
      judged_rest fine rest er = er
          ∙ ap (λ (m : ℕ). all_zero (drop (slot_at m) region)) en
          ∙ sym (sound_slots S j own region headed (sym counted ∙ not-false slots fine))
