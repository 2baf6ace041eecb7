-- The order of a scan's visits, found by the buckets' numbers alone: a list of all buckets that were sent a message so
-- far, of which the first h have handled theirs. A message's level follows from the bucket's number: the client's from
-- its image, and a bucket's from a + 2^k with a < 2^k.
use Prim.Native.Nat.{ℕ, zero, suc, ◌+◌, ◌-◌, ◌^◌, ◌≤◌, ◌<◌}
use Rattle.std.specs.Prelude.{◌≡◌, ◌⊎◌, length, drop, get_or}
use Rattle.std.proofs.Math.Path.{refl, sym, ap}
use Rattle.std.proofs.Common.{ap₂, ◌∙◌, inl, inr, add-one, length-drop, drop-cons}
use mathlib.Core.List.{List, [], ◌∷◌, ◌++◌, map, append-nil}
use native.Mathlib.Omega.{arith}
use Rattle.std.specs.Int.Count.{count_leading_zeros}
use Rattle.std.proofs.lemmas.Nat.{leading_top}
use Rattle.std.proofs.Math.ListN.{take}
use Rattle.std.proofs.lemmas.List.{length-map, drop-append-le}
use Rattle.std.proofs.Math.Seq.{take-suc, take-append-le, append_snoc}
use Rattle.address.specs.Compare.{below}
use Rattle.address.specs.declared.Image.{Image}
use Rattle.address.specs.Rules.{Formed, NotAhead, span, buckets, level, child, Message, message, numbers}
use Rattle.address.specs.Rules.{sends, answers, handled, visits}
use Rattle.address.specs.Rules.Hash.{span_is, span_suc, span_mono, span_pos}
use Rattle.address.specs.Rules.Cases.{buckets_is, child_is, level_split, level_born, level_rest}
use Rattle.address.specs.Rules.Scan.{AllGood, total, total_nil, child_good, next_good, next_total, waiting_total}

-- numbers in a row by the first of them
pub numbers_cons : (a e : ℕ) → a < e → numbers a (e - a) ≡ a ∷ numbers (a + 1) (e - (a + 1))
unfolding numbers
numbers_cons a e h = ap (numbers a) more ∙ ap (λ (n : ℕ). a ∷ numbers n (e - n)) (sym (add-one a))
  where
    more : e - a ≡ suc (e - suc a)
    more = omega arith

-- and by the last
pub numbers_next : (a c : ℕ) → numbers a (c + 1) ≡ numbers a c ++ (a + c) ∷ []
unfolding numbers
numbers_next a zero = ap (λ (n : ℕ). n ∷ []) (omega arith)
numbers_next a (suc c) = ap (numbers a) more ∙ ap (λ (l : List ℕ). a ∷ l) (numbers_next (suc a) c)
    ∙ ap (λ (n : ℕ). a ∷ (numbers (suc a) c ++ n ∷ [])) last
  where
    more : suc c + 1 ≡ suc (c + 1)
    more = omega arith

    last : suc a + c ≡ a + suc c
    last = omega arith

pub numbers_none : (a c : ℕ) → c ≡ 0 → numbers a c ≡ []
unfolding numbers
numbers_none a c e = rw e

-- The c children of bucket a from level m on.
pub born : ℕ → ℕ → ℕ → ℕ → List ℕ
born N a m zero = []
born N a m (suc c) = child N a m ∷ born N a (suc m) c

pub born_cons : (N a m j : ℕ) → m < j → born N a m (j - m) ≡ child N a m ∷ born N a (m + 1) (j - (m + 1))
unfolding born
born_cons N a m j h = ap (born N a m) more ∙ ap (λ (n : ℕ). child N a m ∷ born N a n (j - n)) (sym (add-one m))
  where
    more : j - m ≡ suc (j - suc m)
    more = omega arith

pub born_next : (N a m c : ℕ) → born N a m (c + 1) ≡ born N a m c ++ child N a (m + c) ∷ []
unfolding born
born_next N a m zero = ap (λ (k : ℕ). child N a k ∷ []) (omega arith)
born_next N a m (suc c) = ap (born N a m) more ∙ ap (λ (l : List ℕ). child N a m ∷ l) (born_next N a (suc m) c)
    ∙ ap (λ (k : ℕ). child N a m ∷ (born N a (suc m) c ++ child N a k ∷ [])) last
  where
    more : suc c + 1 ≡ suc (c + 1)
    more = omega arith

    last : suc m + c ≡ m + suc c
    last = omega arith

pub born_none : (N a m c : ℕ) → c ≡ 0 → born N a m c ≡ []
unfolding born
born_none N a m c e = rw e

pub born_length : (N a m c : ℕ) → length (born N a m c) ≡ c
unfolding born
born_length N a m zero = refl
born_length N a m (suc c) = ap suc (born_length N a (suc m) c)

-- The message level m of bucket a by its number: the level in the image, or 2^(m-1) ≤ a < 2^m where the client does not
-- believe in a.
pub record Told (N : ℕ) (image : Image) (a m : ℕ) : Type 0 where
  pub believed : a < buckets N image → m ≡ level N image a
  pub under : buckets N image ≤ a → a < span N m
  pub above : buckets N image ≤ a → span N m ≤ a + a

told_believed : (N : ℕ) (image : Image) (a m : ℕ) → a < buckets N image → m ≡ level N image a → Told N image a m
told_believed N image a m h e =
    record { believed = λ b. e; under = λ b. absurd (omega arith); above = λ b. absurd (omega arith) }

-- of any other bucket it is as many binary digits as its number has
pub told_digits : (image : Image) (a : ℕ) → buckets 1 image ≤ a → a < 2 ^ 32
    → (count_leading_zeros 32 a ≤ 32) × Told 1 image a (32 - count_leading_zeros 32 a)
told_digits image a h small =
    let some : 0 < a = omega (arith, buckets_is 1 image, span_pos 1 (omega arith) image.level) in
    let (k, sum, above, under) = leading_top 32 a some small in
    let place : span 1 (32 - count_leading_zeros 32 a) ≡ span 1 (suc k) = ap (span 1) (omega arith) in (
      omega arith,
      record {
        believed = λ b. absurd (omega arith);
        under = λ b. omega (arith, place, span_is 1 (suc k));
        above = λ b. omega (arith, place, span_suc 1 k, span_is 1 k);
      },
    )

-- no second level fits
module _ (N : ℕ) (image : Image) (a : ℕ) where
  not_higher : (l m : ℕ) → Told N image a l → Told N image a m → m ≤ l
  not_higher l m tl tm = go (below l m) (below a (buckets N image))
    where
      go : (l < m) ⊎ (m ≤ l) → (a < buckets N image) ⊎ (buckets N image ≤ a) → m ≤ l
      go (inl h) (inl b) = absurd (omega (arith, tl.believed b, tm.believed b))
      go (inl h) (inr b) = absurd (omega (arith, tl.under b, tm.above b, span_suc N l, span_mono N h))
      go (inr h) _ = h

  told_single : (l m : ℕ) → Told N image a l → Told N image a m → l ≡ m
  told_single l m tl tm = omega (arith, not_higher l m tl tm, not_higher m l tm tl)

abbrev pub AllTold : ℕ → Image → List Message → Type 0
AllTold N image [] = Unit {0}
AllTold N image (m ∷ queue) = Told N image m.to m.level × AllTold N image queue

told_append : (N : ℕ) (image : Image) (p q : List Message) → AllTold N image p → AllTold N image q
    → AllTold N image (p ++ q)
told_append N image [] q tp tq = tq
told_append N image (m ∷ p) q tp tq = (tp.0, told_append N image p q tp.1 tq)

module _ (N : ℕ) (image : Image) (image_formed : Formed N image) where
  -- the client does not believe in a child of a level that it did not tell
  pub child_later : (a m k : ℕ) → Told N image a m → m ≤ k → buckets N image ≤ child N a k
  child_later a m k t up = go (below a (buckets N image)) (below a image.pointer) (below a (span N image.level))
    where
      spans : {j : ℕ} → level N image a ≡ j → a < buckets N image → span N j ≤ span N k
      spans e b = span_mono N (omega (arith, t.believed b))

      go : (a < buckets N image) ⊎ (buckets N image ≤ a) → (a < image.pointer) ⊎ (image.pointer ≤ a)
          → (a < span N image.level) ⊎ (span N image.level ≤ a) → buckets N image ≤ child N a k
      go (inl b) (inl h) _ = omega
          (arith, child_is N a k, buckets_is N image, span_suc N image.level, spans (level_split N image a h) b)
      go (inl b) (inr h) (inl l) = omega (arith, child_is N a k, buckets_is N image, spans (level_rest N image a h l) b)
      go (inl b) (inr h) (inr l) = omega
          (arith, child_is N a k, buckets_is N image, span_suc N image.level, spans (level_born N image a l) b)
      go (inr b) _ _ = omega (arith, child_is N a k)

  sends_told : (a r l m c : ℕ) → Told N image a l → l ≤ m → a < span N m → AllTold N image (sends N a r m c)
  unfolding sends
  sends_told a r l m zero t up low = tt
  sends_told a r l m (suc c) t up low = (
    record {
      believed = λ b. absurd (omega (arith, child_later a l m t up));
      under = λ b. omega (arith, child_is N a m, span_suc N m);
      above = λ b. omega (arith, child_is N a m, span_suc N m);
    },
    sends_told a r l (suc m) c t (omega arith) (omega (arith, span_suc N m)),
  )

  pub sent_told : (a c : ℕ) → a + c ≤ buckets N image
      → AllTold N image (map (λ b. message b (level N image b) 0) (numbers a c))
  unfolding numbers
  sent_told a zero h = tt
  sent_told a (suc c) h =
      (told_believed N image a (level N image a) (omega arith) refl, sent_told (suc a) c (omega arith))

-- messages by the buckets that they are for
abbrev pub receivers : List Message → List ℕ
receivers queue = map (λ m. m.to) queue

receivers_append : (p q : List Message) → receivers (p ++ q) ≡ receivers p ++ receivers q
receivers_append [] q = refl
receivers_append (m ∷ p) q = ap (λ (l : List ℕ). m.to ∷ l) (receivers_append p q)

sends_born : (N a r m c : ℕ) → receivers (sends N a r m c) ≡ born N a m c
unfolding sends born
sends_born N a r m zero = refl
sends_born N a r m (suc c) = ap (λ (l : List ℕ). child N a m ∷ l) (sends_born N a r (suc m) c)

pub sent_numbers : (N : ℕ) (image : Image) (a c : ℕ)
    → receivers (map (λ b. message b (level N image b) 0) (numbers a c)) ≡ numbers a c
unfolding numbers
sent_numbers N image a zero = refl
sent_numbers N image a (suc c) = ap (λ (l : List ℕ). a ∷ l) (sent_numbers N image (suc a) c)

-- A scan under way: of the buckets that were sent a message, in this order, the first h have handled it, and the rest
-- wait.
pub record Waits (N : ℕ) (file image : Image) (h : ℕ) (sent : List ℕ) (waiting : List Message) : Type 0 where
  pub good : AllGood N file image.level waiting
  pub told : AllTold N image waiting
  pub weighs : h + total N waiting (buckets N file) ≡ buckets N file
  pub rest : drop h sent ≡ receivers waiting
  pub whole : visits N file image ≡ take h sent ++ receivers (handled N file (buckets N file - h) waiting)

pub record Scanning (N : ℕ) (file image : Image) (h : ℕ) (sent : List ℕ) : Type 0 where
  pub waiting : List Message
  pub waits : Waits N file image h sent waiting

-- What the next bucket a, with message level l, tells: its children exist, and the scan goes on with them.
pub record Answered (N : ℕ) (file image : Image) (h : ℕ) (sent : List ℕ) (a l : ℕ) : Type 0 where
  pub children : (k : ℕ) → l ≤ k → k < level N file a → child N a k < buckets N file
  pub next : Scanning N file image (suc h) (sent ++ born N a l (level N file a - l))

module _ (N : ℕ) (positive : 0 < N) (file : Image) (formed : Formed N file)
    (image : Image) (image_formed : Formed N image) (behind : NotAhead N file image) where
  module _ (h : ℕ) (sent : List ℕ) (so : Scanning N file image h sent) where
    -- no more are sent to than there are
    pub scanning_few : length sent ≤ buckets N file
    scanning_few = omega (
      arith,
      so.waits.weighs,
      waiting_total N positive file formed image.level so.waiting so.waits.good,
      length-drop h sent,
      ap length so.waits.rest,
      length-map so.waiting (λ m. m.to),
    )

    -- once all have handled theirs, the list is the visits
    pub scanning_done : h ≡ buckets N file → take h sent ≡ visits N file image
    unfolding handled
    scanning_done e =
        let none : buckets N file - h ≡ 0 = omega arith in
        sym (so.waits.whole ∙ ap (λ (n : ℕ). take h sent ++ receivers (handled N file n so.waiting)) none
        ∙ append-nil (take h sent))

    module _ (more : h < buckets N file) where
      none_waits : Waits N file image h sent [] → ⊥
      none_waits w = omega (arith, w.weighs, total_nil N (buckets N file))

      -- until then there is a next
      pub scanning_waits : h < length sent
      scanning_waits = go so.waiting so.waits
        where
          go : (waiting : List Message) → Waits N file image h sent waiting → h < length sent
          go [] w = absurd (none_waits w)
          go (m ∷ queue) w = omega (arith, length-drop h sent, ap length w.rest)

      module _ (m : Message) (queue : List Message) (w : Waits N file image h sent (m ∷ queue)) where
        front : get_or sent h 0 ∷ drop (suc h) sent ≡ m.to ∷ receivers queue
        front = sym (drop-cons sent h 0 scanning_waits) ∙ w.rest

        here : get_or sent h 0 ≡ m.to
        here = cc front

        next_rest : (r l c : ℕ) → drop (suc h) (sent ++ born N m.to l c) ≡ receivers (queue ++ sends N m.to r l c)
        next_rest r l c =
            let after : drop (suc h) sent ≡ receivers queue = cc front in
            drop-append-le (suc h) sent (born N m.to l c) scanning_waits
            ∙ ap₂ (λ (p q : List ℕ). p ++ q) after (sym (sends_born N m.to r l c))
            ∙ sym (receivers_append queue (sends N m.to r l c))

        next_whole : (new : List ℕ)
            → visits N file image
            ≡ take (suc h) (sent ++ new)
            ++ receivers (handled N file (buckets N file - suc h) (queue ++ answers N file m))
        unfolding handled
        next_whole new =
            let later : List ℕ = receivers (handled N file (buckets N file - suc h) (queue ++ answers N file m)) in
            let left : buckets N file - h ≡ suc (buckets N file - suc h) = omega arith in
            let past : take (suc h) (sent ++ new) ≡ take h sent ++ (m.to ∷ []) =
            take-append-le (suc h) sent new scanning_waits ∙ take-suc sent h 0 scanning_waits
            ∙ ap (λ (a : ℕ). take h sent ++ (a ∷ [])) here in
            w.whole ∙ ap (λ (n : ℕ). take h sent ++ receivers (handled N file n (m ∷ queue))) left
            ∙ sym (append_snoc (take h sent) m.to later) ∙ ap (λ (l : List ℕ). l ++ later) (sym past)

        answered : Answered N file image h sent m.to m.level
        unfolding answers
        answered = record {
          children = λ k low high. (child_good N positive file formed 0 m.to 0 k w.good.0.exists high
              (omega (arith, w.good.0.low, span_mono N low)) (omega arith)).exists;
          next = record {
            waiting = queue ++ answers N file m;
            waits = record {
              good = next_good N positive file formed image.level m queue w.good;
              told = told_append N image queue (answers N file m) w.told.1
                  (sends_told N image image_formed m.to m.round m.level m.level
                  (level N file m.to - m.level) w.told.0 (omega arith) w.good.0.low);
              weighs = omega (arith, w.weighs, next_total N positive file formed image.level m queue w.good.0);
              rest = next_rest m.round m.level (level N file m.to - m.level);
              whole = next_whole (born N m.to m.level (level N file m.to - m.level));
            };
          };
        }

      -- its message level is at most its own
      pub scanning_told : (a l : ℕ) → a ≡ get_or sent h 0 → Told N image a l → l ≤ level N file a
      scanning_told a l ea t = go so.waiting so.waits
        where
          go : (waiting : List Message) → Waits N file image h sent waiting → l ≤ level N file a
          go [] w = absurd (none_waits w)
          go (m ∷ queue) w =
              let at : a ≡ m.to = ea ∙ here m queue w in
              let by : l ≡ m.level = told_single N image a l m.level t (rw at w.told.0) in
              rw (at, by) w.good.0.up

      pub scanning_next : (a l : ℕ) → a ≡ get_or sent h 0 → Told N image a l → Answered N file image h sent a l
      scanning_next a l ea t = go so.waiting so.waits
        where
          go : (waiting : List Message) → Waits N file image h sent waiting → Answered N file image h sent a l
          go [] w = absurd (none_waits w)
          go (m ∷ queue) w =
              let at : a ≡ m.to = ea ∙ here m queue w in
              let by : l ≡ m.level = told_single N image a l m.level t (rw at w.told.0) in
              rw (at, by) (answered m queue w)
