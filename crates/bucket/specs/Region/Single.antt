-- No key stands twice, found in one pass: each slot is chained to the latest one before it whose key has the same
-- fingerprint, so an equal key before it is met on its chain.
use Rattle.std.specs.Prelude.{ℕ, zero, suc, ◌+◌, ◌*◌, ◌/◌, ◌%◌, ◌-◌, ◌≤◌, ◌<◌, ◌≡◌, refl, Bool, true, false, cond, not}
use Rattle.std.specs.Prelude.{◌&&◌, List, ◌⊎◌, Option, Some, None, is_some, eqb, ltb, length, get_or, set, replicate}
use Rattle.std.specs.Option.{unwrap_or}
use Rattle.std.specs.List.{position, position_or_len, range_with_len}
use Rattle.std.proofs.lemmas.List.FromFn.{length-range_with_len}
use Rattle.std.proofs.Common.{sym, ap, ap₂, subst, ◌∙◌, true≢false, inl, inr, ⊎_elim, add-one, arith, eq-eqb, ne_eqb}
use Rattle.std.proofs.Common.{eqb-true, length-set, get_or-set_same, get_or-set_other}
use Rattle.std.proofs.lemmas.Bool.{false≢true}
use Rattle.std.proofs.lemmas.Option.{none-some, same_Some, cond_some}
use borrow.Author.Tests.{lt-ltb, le-ltb, ltb-true, ltb-false}
use Rattle.std.proofs.lemmas.List.{length-replicate, get_or-replicate}
use Rattle.address.specs.Limits.{most_slots}
use Rattle.address.specs.Compare.{below, same}
use Rattle.layout.specs.Bytes.{all_below, first_from}
use Rattle.layout.specs.Bytes.Tests.{and_none, and_both, all_fails, first_here, first_later, first_none, first_within}
use Rattle.layout.specs.Bytes.Tests.{first_before, first_passes}
use Rattle.bucket.specs.Region.{slot_used, key_at, rides_from, keys_of, every, distinct}
use Rattle.bucket.specs.Region.Rides.{distinct_append}
use Rattle.bucket.specs.Region.Judge.{keys_more, fresh_from, stands, distinct_later, fitting, fits_all}

-- There are 2^9 fingerprints.
abbrev pub fingerprints : ℕ
fingerprints = 512

-- A key's fingerprint: its ride and its lift added in 32 bits, and of a product of that the upper nine of the lower 32
-- bits.
pub fingerprint : ℕ → ℕ
fingerprint key = (key % 4294967296 + key / 4294967296) % 4294967296 * 1640531527 / 8388608 % fingerprints

pub fingerprint_is : (key : ℕ)
    → (key % 4294967296 + key / 4294967296) % 4294967296 * 1640531527 / 8388608 % fingerprints
    ≡ fingerprint key
unfolding fingerprint
fingerprint_is key = refl

-- One more than the latest of the first k slots whose key has a fingerprint, and 0 if none has.
pub latest_of : List ℕ → ℕ → ℕ → ℕ
latest_of region mark zero = 0
latest_of region mark (suc k) = cond (eqb (fingerprint (key_at region k)) mark) (suc k) (latest_of region mark k)

-- Each of the first k slots has the latest before it of its own fingerprint.
pub record Chained (region before : List ℕ) (k : ℕ) : Type 0 where
  pub long : length before ≡ most_slots
  pub links : (j : ℕ) → j < k → get_or before j 0 ≡ latest_of region (fingerprint (key_at region j)) j

-- the latest slot by its steps
latest_here : (region : List ℕ) (mark k : ℕ) → fingerprint (key_at region k) ≡ mark
    → latest_of region mark (suc k) ≡ suc k
unfolding latest_of
latest_here region mark k e = rw (eq-eqb (fingerprint (key_at region k)) mark e)

latest_there : (region : List ℕ) (mark k : ℕ) → (fingerprint (key_at region k) ≡ mark → ⊥)
    → latest_of region mark (suc k) ≡ latest_of region mark k
unfolding latest_of
latest_there region mark k e = rw (ne_eqb (fingerprint (key_at region k)) mark e)

latest_none : (region : List ℕ) (mark : ℕ) → latest_of region mark 0 ≡ 0
unfolding latest_of
latest_none region mark = refl

-- what the latest slot of a fingerprint is
record Latest (region : List ℕ) (mark k latest : ℕ) : Type 0 where
  within : latest ≤ k
  alike : (m : ℕ) → latest ≡ suc m → fingerprint (key_at region m) ≡ mark
  past : (i : ℕ) → latest ≤ i → i < k → fingerprint (key_at region i) ≡ mark → ⊥

latest : (region : List ℕ) (mark k : ℕ) → Latest region mark k (latest_of region mark k)
latest region mark zero =
    record {
      within = omega (arith, latest_none region mark);
      alike = λ m e. absurd (omega (arith, latest_none region mark));
      past = λ i low high e. omega arith;
    }
latest region mark (suc k) = go (latest region mark k)
  where
    go : Latest region mark k (latest_of region mark k) → Latest region mark (suc k) (latest_of region mark (suc k))
    go so = ⊎_elim here there (same (fingerprint (key_at region k)) mark)
      where
        here : fingerprint (key_at region k) ≡ mark → Latest region mark (suc k) (latest_of region mark (suc k))
        here e = rw (latest_here region mark k e) (record {
          within = omega arith;
          alike = λ m f. ap (λ (n : ℕ). fingerprint (key_at region n)) (equal m f) ∙ e;
          past = λ i low high f. omega arith;
        })
          where
            equal : (m : ℕ) → suc k ≡ suc m → m ≡ k
            equal m f = omega arith

        there : (fingerprint (key_at region k) ≡ mark → ⊥) → Latest region mark (suc k) (latest_of region mark (suc k))
        there e = rw (latest_there region mark k e) (record {
          within = omega (arith, so.within);
          alike = so.alike;
          past = λ i low high f.
              ⊎_elim (λ l. so.past i low l f)
              (λ l. e (ap (λ (n : ℕ). fingerprint (key_at region n)) (equal i high l) ∙ f)) (below i k);
        })
          where
            equal : (i : ℕ) → i < suc k → k ≤ i → k ≡ i
            equal i high l = omega arith

-- A slot that holds a key, of the first ones, and none if none does.
pub record SoughtAt (region : List ℕ) (key count : ℕ) (found : Option ℕ) : Type 0 where
  pub none : is_some found ≡ false → (i : ℕ) → i < count → key_at region i ≡ key → ⊥
  pub here : (slot : ℕ) → found ≡ Some slot → (slot < count) × (key_at region slot ≡ key)

-- ---- a key sought along its chain: the slots from `next` on do not hold it

pub record Sought (region : List ℕ) (key count next : ℕ) : Type 0 where
  pub within : next ≤ count
  pub alike : (m : ℕ) → next ≡ suc m → fingerprint (key_at region m) ≡ fingerprint key
  pub past : (i : ℕ) → next ≤ i → i < count → key_at region i ≡ key → ⊥

pub sought_start : (region : List ℕ) (key count next : ℕ) → next ≡ latest_of region (fingerprint key) count
    → Sought region key count next
sought_start region key count next e = rw e (record {
  within = (latest region (fingerprint key) count).within;
  alike = (latest region (fingerprint key) count).alike;
  past = λ i low high f. (latest region (fingerprint key) count).past i low high (ap fingerprint f);
})

module _ (region : List ℕ) (key count next : ℕ) (so : Sought region key count next) (some : next ≡ 0 → ⊥) where
  back : next ≡ suc (next - 1)
  back = omega arith

  pub sought_next : (before : List ℕ) → Chained region before count → (key_at region (next - 1) ≡ key → ⊥)
      → Sought region key count (get_or before (next - 1) 0) × (get_or before (next - 1) 0 < next)
  sought_next before chained other = rw link (
    record {
      within = omega (arith, l.within, so.within);
      alike = λ m e. l.alike m e ∙ mark;
      past = λ i low high e. ⊎_elim (λ h. l.past i low h (ap fingerprint e ∙ sym mark)) (λ h. at_last i high e h)
          (below i (next - 1));
    },
    omega (arith, l.within, back),
  )
    where
      mark : fingerprint (key_at region (next - 1)) ≡ fingerprint key
      mark = so.alike (next - 1) back

      link : get_or before (next - 1) 0 ≡ latest_of region (fingerprint (key_at region (next - 1))) (next - 1)
      link = chained.links (next - 1) (omega (arith, so.within))

      l : Latest region (fingerprint (key_at region (next - 1))) (next - 1)
          (latest_of region (fingerprint (key_at region (next - 1))) (next - 1))
      l = latest region (fingerprint (key_at region (next - 1))) (next - 1)

      at_last : (i : ℕ) → i < count → key_at region i ≡ key → next - 1 ≤ i → ⊥
      at_last i high e h = ⊎_elim (λ (f : i ≡ next - 1). other (ap (key_at region) (sym f) ∙ e))
          (λ f. so.past i (omega (arith, f, h, back)) high e) (same i (next - 1))

  pub sought_met : key_at region (next - 1) ≡ key → SoughtAt region key count (Some (next - 1))
  sought_met e = record {
    none = λ z. absurd (true≢false z);
    here = λ slot is.
        (omega (arith, same_Some _ _ is, so.within, some), ap (key_at region) (sym (same_Some _ _ is)) ∙ e);
  }

pub sought_done : (region : List ℕ) (key count next : ℕ) → Sought region key count next → next ≡ 0
    → SoughtAt region key count None
sought_done region key count next so none =
    record {
      none = λ z i high e. so.past i (omega arith) high e;
      here = λ slot is. absurd (none-some slot is);
    }

-- so it stands among the first slots, or it is fresh
pub sought_stands : (region : List ℕ) (key count : ℕ) (found : Option ℕ) → SoughtAt region key count found
    → is_some found ≡ true
    → false ≡ every (λ other. not (eqb other key)) (keys_of (rides_from region 0 count))
sought_stands region key count (Some slot) so some = sym
    (stands region key 0 count slot (omega arith) (omega (arith, (so.here slot refl).0)) (so.here slot refl).1)
sought_stands region key count None so some = absurd (false≢true some)

pub sought_fresh : (region : List ℕ) (key count : ℕ) (found : Option ℕ) → SoughtAt region key count found
    → is_some found ≡ false
    → true ≡ every (λ other. not (eqb other key)) (keys_of (rides_from region 0 count))
sought_fresh region key count found so none = sym
    (fresh_from region key 0 count (λ i low high. ne_eqb (key_at region i) key (so.none none i (omega arith))))

-- ---- one key more: fresh or met

-- The first slot that holds a key, of the first ones, and none if none does.
pub first_found : List ℕ → ℕ → ℕ → Option ℕ
first_found region count key =
    let place = first_from (λ i. eqb (key_at region i) key) count 0 in cond (ltb place count) (Some place) None

-- the first of numbers from k on, as a place in their list
position_from : (test : ℕ → Bool) (c k e : ℕ) → e ≡ k + c
    → k + position_or_len test (range_with_len k c) ≡ first_from test (e - k) k
position_from test zero k e is = omega (arith, first_none test e k (omega arith))
position_from test (suc c) k e is = go (test k) refl (position_from test c (k + 1) e (omega arith))
  where
    rest : ℕ
    rest = position_or_len test (range_with_len (k + 1) c)

    go : (b : Bool) → test k ≡ b → k + 1 + rest ≡ first_from test (e - (k + 1)) (k + 1)
        → k + cond (not b) (1 + rest) 0 ≡ first_from test (e - k) k
    go true t so = omega (arith, first_here test e k (omega arith) t)
    go false t so = omega (arith, first_later test e k (omega arith) t, so)

module _ (region : List ℕ) (count key : ℕ) where
  abbrev first : ℕ
  first = first_from (λ i. eqb (key_at region i) key) count 0

  -- the first of all is found, and if there is none nothing is
  found_here : (k : ℕ) → k < count → k ≡ first → Some k ≡ first_found region count key
  unfolding first_found
  found_here k inside e = rw (sym e, lt-ltb k count inside)

  found_nowhere : count ≤ first → None ≡ first_found region count key
  unfolding first_found
  found_nowhere h = rw (le-ltb first count h)

  pub found_position : position (λ k. eqb (key_at region k) key) (range_with_len 0 count)
      ≡ first_found region count key
  unfolding first_found
  found_position = ap₂ (λ (place n : ℕ). cond (ltb place n) (Some place) None)
      (omega (
        arith,
        position_from (λ k. eqb (key_at region k) key) count 0 count (omega arith),
        ap (λ (n : ℕ). first_from (λ k. eqb (key_at region k) key) n 0) whole,
      ))
      (length-range_with_len 0 count)
    where
      whole : count - 0 ≡ count
      whole = omega arith

  module _ {found : Option ℕ} (is : found ≡ first_found region count key) where
    found_told : is_some found ≡ ltb first count
    unfolding first_found
    found_told = ap is_some is ∙ go (ltb first count)
      where
        go : (b : Bool) → is_some (cond b (Some first) None) ≡ b
        go true = refl
        go false = refl

    -- its place, or the count
    pub found_place : unwrap_or found count ≡ first
    found_place = ⊎_elim
        (λ l. ap (λ (o : Option ℕ). unwrap_or o count) (is ∙ sym (found_here first l refl)))
        (λ l. ap (λ (o : Option ℕ). unwrap_or o count) (is ∙ sym (found_nowhere l))
        ∙ omega (arith, l, first_within (λ i. eqb (key_at region i) key) count 0))
        (below first count)

    -- a key that is not found among the first slots differs from all, and one that is found does not
    pub found_none : is_some found ≡ false
        → true ≡ every (λ other. not (eqb other key)) (keys_of (rides_from region 0 count))
    found_none h = let past : count ≤ first = ltb-false first count (sym found_told ∙ h) in sym
        (fresh_from region key 0 count
        (λ i low high. first_before (λ i. eqb (key_at region i) key) count 0 i low (omega (arith, past))))

    pub found_met : is_some found ≡ true
        → false ≡ every (λ other. not (eqb other key)) (keys_of (rides_from region 0 count))
    found_met h = let inside : first < count = ltb-true first count (sym found_told ∙ h) in sym
        (stands region key 0 count first (omega arith) (omega (arith, inside))
        (eqb-true _ key (first_passes (λ i. eqb (key_at region i) key) count 0 (omega (arith, inside)))))

module _ (region : List ℕ) (k : ℕ) (single : distinct (keys_of (rides_from region 0 k)) ≡ true)
    (fresh : Bool)
    (ef : fresh ≡ every (λ other. not (eqb other (key_at region k))) (keys_of (rides_from region 0 k))) where
  next_keys : distinct (keys_of (rides_from region 0 (k + 1))) ≡ fresh
  next_keys = ap distinct (keys_more region k) ∙ distinct_append (keys_of (rides_from region 0 k)) (key_at region k)
      ∙ rw single (sym ef)

  pub single_more : fresh ≡ true → distinct (keys_of (rides_from region 0 (k + 1))) ≡ true
  single_more h = next_keys ∙ h

  pub single_met : fresh ≡ false → (count : ℕ) → k < count → false ≡ distinct (keys_of (rides_from region 0 count))
  single_met h count more = sym (distinct_later region (k + 1) count (omega arith) (next_keys ∙ h))

pub single_none : (region : List ℕ) → distinct (keys_of (rides_from region 0 0)) ≡ true
unfolding keys_of rides_from distinct
single_none region = refl

pub single_done : (region : List ℕ) (count k : ℕ) → k ≤ count → count ≤ k
    → distinct (keys_of (rides_from region 0 k)) ≡ true → true ≡ distinct (keys_of (rides_from region 0 count))
single_done region count k within end single = sym
    (ap (λ (n : ℕ). distinct (keys_of (rides_from region 0 n))) all ∙ single)
  where
    all : count ≡ k
    all = omega arith

-- ---- slot after slot is chained; the keys so far are distinct

pub record Chaining (region : List ℕ) (count k : ℕ) (latests before : List ℕ) : Type 0 where
  pub within : k ≤ count
  pub wide : length latests ≡ fingerprints
  pub marks : (mark : ℕ) → mark < fingerprints → get_or latests mark 0 ≡ latest_of region mark k
  pub chained : Chained region before k
  pub single : distinct (keys_of (rides_from region 0 k)) ≡ true

pub chain_none : (region : List ℕ) (count : ℕ) (latests before : List ℕ) → latests ≡ replicate fingerprints 0
    → length before ≡ most_slots → Chaining region count 0 latests before
chain_none region count latests before e long = record {
  within = omega arith;
  wide = ap length e ∙ length-replicate {A = ℕ} fingerprints 0;
  marks = λ mark h. ap (λ (l : List ℕ). get_or l mark 0) e ∙ get_or-replicate {A = ℕ} fingerprints mark 0 0 h
      ∙ sym (latest_none region mark);
  chained = record { long = long; links = λ j h. absurd (omega arith) };
  single = single_none region;
}

-- where a key's chain starts
pub chain_start : (region : List ℕ) (count k : ℕ) (latests before : List ℕ) → Chaining region count k latests before
    → (mark key : ℕ) → mark ≡ fingerprint key → mark < fingerprints
    → (get_or latests mark 0 ≡ latest_of region (fingerprint key) k) × (get_or latests mark 0 ≤ k)
chain_start region count k latests before so mark key em small = (
  so.marks mark small ∙ ap (λ (m : ℕ). latest_of region m k) em,
  omega
      (arith, so.marks mark small, (latest region mark k).within),
)

module _ (region : List ℕ) (count k : ℕ) (latests before : List ℕ) (so : Chaining region count k latests before)
    (more : k < count) (few : count ≤ most_slots)
    (fresh : Bool)
    (ef : fresh ≡ every (λ other. not (eqb other (key_at region k))) (keys_of (rides_from region 0 k))) where
  pub chain_met : fresh ≡ false → false ≡ distinct (keys_of (rides_from region 0 count))
  chain_met h = single_met region k so.single fresh ef h count more

  pub chain_more : fresh ≡ true → (mark next : ℕ) → mark ≡ fingerprint (key_at region k) → mark < fingerprints
      → next ≡ get_or latests mark 0
      → Chaining region count (k + 1) (set latests mark (k + 1)) (set before k next)
  chain_more h mark next em small en = record {
    within = omega arith;
    wide = length-set latests mark (k + 1) ∙ so.wide;
    marks = marks;
    chained = record { long = length-set before k next ∙ so.chained.long; links = links };
    single = single_more region k so.single fresh ef h;
  }
    where
      marks : (other : ℕ) → other < fingerprints
          → get_or (set latests mark (k + 1)) other 0 ≡ latest_of region other (k + 1)
      marks other l = ⊎_elim
          (λ e. ap (λ (m : ℕ). get_or (set latests mark (k + 1)) m 0) e
          ∙ get_or-set_same latests mark (k + 1) 0 (omega (arith, so.wide)) ∙ add-one k
          ∙ sym (ap (latest_of region other) (add-one k) ∙ latest_here region other k (sym em ∙ sym e)))
          (λ e. get_or-set_other latests mark other (k + 1) 0 e ∙ so.marks other l
          ∙ sym (ap (latest_of region other) (add-one k) ∙ latest_there region other k (λ f. e (sym f ∙ sym em))))
          (same other mark)

      links : (j : ℕ) → j < k + 1 → get_or (set before k next) j 0 ≡ latest_of region (fingerprint (key_at region j)) j
      links j l = ⊎_elim
          (λ h. get_or-set_other before k j next 0 (omega (arith, h)) ∙ so.chained.links j h)
          (λ h. subst (λ (i : ℕ). get_or (set before k next) i 0 ≡ latest_of region (fingerprint (key_at region i)) i)
          (equal h) linked)
          (below j k)
        where
          equal : k ≤ j → k ≡ j
          equal h = omega arith

          linked : get_or (set before k next) k 0 ≡ latest_of region (fingerprint (key_at region k)) k
          linked = get_or-set_same before k next 0 (omega (arith, so.chained.long)) ∙ en ∙ so.marks mark small
              ∙ ap (λ (m : ℕ). latest_of region m k) em

pub chain_whole : (region : List ℕ) (count k : ℕ) (latests before : List ℕ) → Chaining region count k latests before
    → count ≤ k → Chaining region count count latests before
chain_whole region count k latests before so end = subst (λ (n : ℕ). Chaining region count n latests before) all so
  where
    all : k ≡ count
    all = omega (arith, so.within)

pub chain_done : (region : List ℕ) (count k : ℕ) (latests before : List ℕ) → Chaining region count k latests before
    → count ≤ k
    → true ≡ distinct (keys_of (rides_from region 0 count))
chain_done region count k latests before so end = single_done region count k so.within end so.single

-- ---- a key sought: its slot, or the count

pub record Placed (region : List ℕ) (key count place : ℕ) : Type 0 where
  pub at : ((place ≡ count) × ((i : ℕ) → i < count → key_at region i ≡ key → ⊥))
      ⊎ ((place < count) × (key_at region place ≡ key))

-- of distinct keys two slots do not hold the same
apart : (region : List ℕ) (count i j : ℕ) → distinct (keys_of (rides_from region 0 count)) ≡ true → i < j → j < count
    → key_at region i ≡ key_at region j → ⊥
apart region count i j single low high e = true≢false (sym single ∙ distinct_later region (j + 1) count (omega arith)
    (ap distinct (keys_more region j) ∙ distinct_append (keys_of (rides_from region 0 j)) (key_at region j)
    ∙ and_none (distinct (keys_of (rides_from region 0 j))) _
    (stands region (key_at region j) 0 j i (omega arith) (omega arith) e)))

-- the slot that a search along the chains gives
pub place_sought : (region : List ℕ) (key count : ℕ) (found : Option ℕ) → SoughtAt region key count found
    → Placed region key count (unwrap_or found count)
place_sought region key count None so = record { at = inl (refl, so.none refl) }
place_sought region key count (Some slot) so = record { at = inr (so.here slot refl) }

pub place_done : (region : List ℕ) (key count place : ℕ) → Placed region key count place
    → true ≡ distinct (keys_of (rides_from region 0 count))
    → place ≡ first_from (λ i. eqb (key_at region i) key) count 0
place_done region key count place so single = ⊎_elim
    (λ none. none.0
    ∙ sym (last (⊎_elim (λ l. absurd (none.1 first (omega (arith, l)) (met l))) (λ l. l) (below first count))))
    (λ some.
    ⊎_elim
    (λ l. absurd
    (apart region count first place (sym single) l some.0 (met (omega (arith, l, some.0)) ∙ sym some.1)))
    (λ l. meet some.0 some.1 l) (below first place))
    so.at
  where
    first : ℕ
    first = first_from (λ i. eqb (key_at region i) key) count 0

    met : first < count → key_at region first ≡ key
    met l = eqb-true _ key (first_passes (λ i. eqb (key_at region i) key) count 0 (omega arith))

    last : count ≤ first → first ≡ count
    last l = omega (arith, first_within (λ i. eqb (key_at region i) key) count 0)

    meet : place < count → key_at region place ≡ key → place ≤ first → place ≡ first
    meet l e h =
        ⊎_elim
        (λ m. absurd
        (true≢false
        (sym (eq-eqb (key_at region place) key e)
        ∙ first_before (λ i. eqb (key_at region i) key) count 0 place (omega arith) m))) (λ m. omega (arith, m, h))
        (below place first)

-- ---- what a pass over the slots tells: the slot that holds a key, or the count, if each is marked, each key belongs
-- and none stands twice

abbrev pub slots_formed : (ℕ → Bool) → List ℕ → ℕ → Bool
slots_formed own region count = all_below (slot_used region) count && every own (keys_of (rides_from region 0 count))
    && distinct (keys_of (rides_from region 0 count))

pub slots_judged : (ℕ → Bool) → List ℕ → ℕ → ℕ → Option ℕ
slots_judged own region count key = cond (slots_formed own region count)
    (Some (first_from (λ i. eqb (key_at region i) key) count 0)) None

module _ (own : ℕ → Bool) (region : List ℕ) (count key : ℕ) where
  -- a slot that does not fit makes it unsound, and a double key
  pub slots_unfit : (k : ℕ) → k < count → fitting own region k ≡ false → None ≡ slots_judged own region count key
  unfolding slots_judged
  slots_unfit k more unfit = rw (sym (fits_all own region count) ∙ all_fails (fitting own region) count k more unfit)

  pub slots_double : false ≡ distinct (keys_of (rides_from region 0 count)) → None ≡ slots_judged own region count key
  unfolding slots_judged
  slots_double double = rw
      (and_none (all_below (slot_used region) count && every own (keys_of (rides_from region 0 count))) _ (sym double))

  pub slots_single : (k place : ℕ) → k ≤ count → count ≤ k → all_below (fitting own region) k ≡ true
      → true ≡ distinct (keys_of (rides_from region 0 count))
      → place ≡ first_from (λ i. eqb (key_at region i) key) count 0 → Some place ≡ slots_judged own region count key
  unfolding slots_judged
  slots_single k place within end fits single placed = rw (sym placed, both)
    where
      all : count ≡ k
      all = omega arith

      both : slots_formed own region count ≡ true
      both = and_both _ _ (sym (fits_all own region count) ∙ ap (all_below (fitting own region)) all ∙ fits)
          (sym single)

  -- and what the answer tells
  pub slots_none : slots_judged own region count key ≡ None → slots_formed own region count ≡ false
  unfolding slots_judged
  slots_none e = go (slots_formed own region count) _ e
    where
      go : (b : Bool) (place : ℕ) → cond b (Some place) None ≡ None → b ≡ false
      go true place e = absurd (none-some place (sym e))
      go false place e = refl

  pub slots_some : (place : ℕ) → slots_judged own region count key ≡ Some place
      → (slots_formed own region count ≡ true) × (place ≡ first_from (λ i. eqb (key_at region i) key) count 0)
  unfolding slots_judged
  slots_some place e = let (good, is) = cond_some (slots_formed own region count) _ place e in (good, sym is)
