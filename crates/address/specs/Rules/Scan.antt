-- A waiting message (a, m) weighs 1 at each bucket x with h_m(x) = a. Handling it takes off just the weight at a, since
-- h_{k}(x) = a splits into h_{k+1}(x) = a and h_{k+1}(x) = a + 2^k, level by level. What a client that is not ahead
-- sends weighs 1 at every bucket. A scan's visits and its last round: proofs/Rules/Scan.antt.
use Prim.Native.Nat.{ℕ, zero, suc, ◌+◌, ◌-◌, ◌≤◌, ◌<◌}
use Rattle.std.specs.Prelude.{◌≡◌, Bool, cond, ◌↔◌, eqb, length}
use Rattle.std.proofs.Math.Path.{refl, sym, ap}
use Rattle.std.proofs.Common.{◌∙◌, eq-eqb, ne_eqb}
use mathlib.Core.List.{List, [], ◌∷◌, ◌++◌, map}
use Rattle.std.proofs.Math.Logic.{⊎_elim}
use native.Mathlib.Omega.{arith}
use Rattle.address.specs.Compare.{below, same}
use Rattle.address.specs.declared.Image.{Image}
use Rattle.address.specs.Rules.{Formed, NotAhead, span, buckets, hash, address, level, child, Message, message}
use Rattle.address.specs.Rules.{numbers, opening, sends, answers, handled, messages, visits, greatest, last_round}
use Rattle.address.specs.Rules.{highest}
use Rattle.address.specs.Rules.Hash.{span_suc, span_mono, hash_lt, hash_suc}
use Rattle.address.specs.Rules.Cases.{buckets_is, level_born, level_rest, level_low, level_high}
use Rattle.address.specs.Rules.Address.{address_own, address_number, level_spans}
use Rattle.address.specs.Rules.Route.{level_behind}

-- 1 for true, 0 for false.
pub bit : Bool → ℕ
bit b = cond b 1 0

-- How often x stands in a list.
pub times : ℕ → List ℕ → ℕ
times x [] = 0
times x (y ∷ rest) = bit (eqb x y) + times x rest

-- times by its steps
pub times_none : (x : ℕ) → times x [] ≡ 0
unfolding times
times_none x = refl

pub times_here : (x y : ℕ) (rest : List ℕ) → x ≡ y → times x (y ∷ rest) ≡ suc (times x rest)
unfolding times bit
times_here x y rest e = rw (eq-eqb x y e) (omega arith)

pub times_there : (x y : ℕ) (rest : List ℕ) → (x ≡ y → ⊥) → times x (y ∷ rest) ≡ times x rest
unfolding times bit
times_there x y rest e = rw (ne_eqb x y e) (omega arith)

bit_yes : (x y : ℕ) → x ≡ y → bit (eqb x y) ≡ 1
unfolding bit
bit_yes x y e = rw (eq-eqb x y e)

bit_no : (x y : ℕ) → (x ≡ y → ⊥) → bit (eqb x y) ≡ 0
unfolding bit
bit_no x y e = rw (ne_eqb x y e)

bit_iff : (x y u v : ℕ) → x ≡ y ↔ u ≡ v → bit (eqb x y) ≡ bit (eqb u v)
bit_iff x y u v both = ⊎_elim
    (λ e. bit_yes x y e ∙ sym (bit_yes u v (both.0 e)))
    (λ e. bit_no x y e ∙ sym (bit_no u v (λ h. e (both.1 h))))
    (same x y)

-- How many waiting messages lead to bucket x.
pub weight : ℕ → ℕ → List Message → ℕ
weight N x [] = 0
weight N x (m ∷ queue) = bit (eqb (hash N m.level x) m.to) + weight N x queue

weight_append : (N x : ℕ) (p q : List Message) → weight N x (p ++ q) ≡ weight N x p + weight N x q
unfolding weight
weight_append N x [] q = omega arith
weight_append N x (m ∷ p) q = omega (arith, weight_append N x p q)

-- The weight at the first n buckets together.
pub total : ℕ → List Message → ℕ → ℕ
total N queue zero = 0
total N queue (suc n) = total N queue n + weight N n queue

pub total_nil : (N n : ℕ) → total N [] n ≡ 0
unfolding total weight
total_nil N zero = refl
total_nil N (suc n) = omega (arith, total_nil N n)

total_append : (N : ℕ) (p q : List Message) (n : ℕ) → total N (p ++ q) n ≡ total N p n + total N q n
unfolding total
total_append N p q zero = refl
total_append N p q (suc n) = omega (arith, total_append N p q n, weight_append N n p q)

pub total_ones : (N : ℕ) (queue : List Message) → ((x : ℕ) → weight N x queue ≡ 1) → (n : ℕ) → total N queue n ≡ n
unfolding total
total_ones N queue one zero = refl
total_ones N queue one (suc n) = omega (arith, total_ones N queue one n, one n)

-- A message for a bucket that exists, at a level up to the bucket's own, a round for each level above `base` at the
-- most.
pub record Good (N : ℕ) (file : Image) (base : ℕ) (m : Message) : Type 0 where
  pub exists : m.to < buckets N file
  pub up : m.level ≤ level N file m.to
  pub low : m.to < span N m.level
  pub soon : m.round + base ≤ m.level

abbrev pub AllGood : ℕ → Image → ℕ → List Message → Type 0
AllGood N file base [] = Unit {0}
AllGood N file base (m ∷ queue) = Good N file base m × AllGood N file base queue

good_append : (N : ℕ) (file : Image) (base : ℕ) (p q : List Message) → AllGood N file base p → AllGood N file base q
    → AllGood N file base (p ++ q)
good_append N file base [] q gp gq = gq
good_append N file base (m ∷ p) q gp gq = (gp.0, good_append N file base p q gp.1 gq)

module _ (N : ℕ) (positive : 0 < N) (file : Image) (formed : Formed N file) where
  doubling : (m a x : ℕ) → a < span N m
      → bit (eqb (hash N m x) a) ≡ bit (eqb (hash N (suc m) x) a) + bit (eqb (hash N (suc m) x) (a + span N m))
  doubling m a x low = ⊎_elim
      (λ h. omega (
        arith,
        bit_no (hash N (suc m) x) (a + span N m) (omega (arith, h, hash_lt N positive m x)),
        ap (λ (z : ℕ). bit (eqb z a)) h,
      ))
      (λ h. omega (
        arith,
        bit_no (hash N (suc m) x) a (omega (arith, h)),
        bit_iff (hash N m x) a (hash N (suc m) x) (a + span N m) (omega (arith, h)),
      ))
      (hash_suc N positive m x)

  -- a bucket's children exist, at no lower level than they are told
  pub child_good : (base a r m : ℕ) → a < buckets N file → suc m ≤ level N file a → a < span N m → r + base ≤ m
      → Good N file base (message (child N a m) (suc m) (suc r))
  unfolding child
  child_good base a r m exists up low soon = ⊎_elim lower upper (below m file.level)
    where
      lower : m < file.level → Good N file base (message (child N a m) (suc m) (suc r))
      lower h = record {
        exists = omega (arith, span_suc N m, span_mono N h, buckets_is N file);
        up = omega (arith, level_low N file (a + span N m));
        low = omega (arith, span_suc N m);
        soon = omega arith;
      }

      upper : file.level ≤ m → Good N file base (message (child N a m) (suc m) (suc r))
      upper h = ⊎_elim (split (omega (arith, level_high N file a)))
          (λ l. absurd (omega (arith, level_rest N file a l (omega (arith, ap (span N) (now h))))))
          (below a file.pointer)
        where
          now : file.level ≤ m → m ≡ file.level
          now l = omega (arith, level_high N file a)

          split : m ≡ file.level → a < file.pointer → Good N file base (message (child N a m) (suc m) (suc r))
          split e l = record {
            exists = omega (arith, ap (span N) e, buckets_is N file);
            up = omega (arith, level_born N file (a + span N m) (omega (arith, ap (span N) e)));
            low = omega (arith, span_suc N m);
            soon = omega arith;
          }

  sends_good : (base a r m c : ℕ) → a < buckets N file → level N file a ≡ m + c → a < span N m → r + base ≤ m
      → AllGood N file base (sends N a r m c)
  unfolding sends
  sends_good base a r m zero exists e low soon = tt
  sends_good base a r m (suc c) exists e low soon = (
    child_good base a r m exists (omega arith) low soon,
    sends_good base a r (suc m) c exists (omega arith) (omega (arith, span_suc N m)) (omega arith),
  )

  sends_weight : (a r m c x : ℕ) → a < buckets N file → x < buckets N file → level N file a ≡ m + c → a < span N m
      → bit (eqb (hash N m x) a) ≡ bit (eqb x a) + weight N x (sends N a r m c)
  unfolding sends weight child
  sends_weight a r m zero x exists there e low =
      bit_iff (hash N m x) a x a (λ h. sym number ∙ own.1 (at_level ∙ h), λ h. sym at_level ∙ own.0 (number ∙ h))
      ∙ omega arith
    where
      number : address N file x ≡ x
      number = address_number N positive file formed x there

      own : address N file x ≡ a ↔ hash N (level N file a) x ≡ a
      own = address_own N positive file formed a x exists

      at_level : hash N (level N file a) x ≡ hash N m x
      at_level = ap (λ (k : ℕ). hash N k x) (omega arith)
  sends_weight a r m (suc c) x exists there e low = omega (
    arith,
    doubling m a x low,
    sends_weight a r (suc m) c x exists there (omega arith) (omega (arith, span_suc N m)),
  )

  module _ (base : ℕ) where
    answers_good : (m : Message) → Good N file base m → AllGood N file base (answers N file m)
    unfolding answers
    answers_good m g = sends_good base m.to m.round m.level (level N file m.to - m.level) g.exists
        (omega (arith, g.up)) g.low g.soon

    pub next_good : (m : Message) (queue : List Message) → AllGood N file base (m ∷ queue)
        → AllGood N file base (queue ++ answers N file m)
    next_good m queue g = good_append N file base queue (answers N file m) g.1 (answers_good m g.0)

    -- handling a message takes off the weight at its bucket
    next_weight : (m : Message) (queue : List Message) → Good N file base m → (x : ℕ) → x < buckets N file
        → weight N x (m ∷ queue) ≡ bit (eqb x m.to) + weight N x (queue ++ answers N file m)
    unfolding weight answers
    next_weight m queue g x there = omega (
      arith,
      weight_append N x queue (answers N file m),
      sends_weight m.to m.round m.level (level N file m.to - m.level) x g.exists there
          (omega (arith, g.up)) g.low,
    )

    total_before : (m : Message) (queue : List Message) → Good N file base m → (n : ℕ) → n ≤ m.to
        → total N (m ∷ queue) n ≡ total N (queue ++ answers N file m) n
    unfolding total
    total_before m queue g zero h = refl
    total_before m queue g (suc n) h = omega (
      arith,
      total_before m queue g n (omega arith),
      next_weight m queue g n (omega (arith, g.exists)),
      bit_no n m.to (omega arith),
    )

    total_past : (m : Message) (queue : List Message) → Good N file base m → (n : ℕ) → m.to < n → n ≤ buckets N file
        → total N (m ∷ queue) n ≡ suc (total N (queue ++ answers N file m) n)
    unfolding total
    total_past m queue g zero h l = absurd (omega arith)
    total_past m queue g (suc n) h l = ⊎_elim
        (λ p. omega
        (arith, total_past m queue g n p (omega arith), next_weight m queue g n l, bit_no n m.to (omega arith)))
        (λ p. omega (arith, total_before m queue g n p, next_weight m queue g n l, bit_yes n m.to (omega arith)))
        (below m.to n)

    pub next_total : (m : Message) (queue : List Message) → Good N file base m
        → total N (m ∷ queue) (buckets N file) ≡ suc (total N (queue ++ answers N file m) (buckets N file))
    next_total m queue g = total_past m queue g (buckets N file) g.exists (omega arith)

    -- each waiting message weighs 1 or more
    pub waiting_total : (queue : List Message) → AllGood N file base queue
        → length queue ≤ total N queue (buckets N file)
    waiting_total [] g = omega arith
    waiting_total (m ∷ queue) g = omega (
      arith,
      waiting_total queue g.1,
      next_total m queue g.0,
      total_append N queue (answers N file m) (buckets N file),
    )

    -- with room for the whole weight, each bucket is visited as often as it weighs
    pub handled_times : (most : ℕ) (queue : List Message) → AllGood N file base queue
        → total N queue (buckets N file) ≤ most
        → (x : ℕ) → x < buckets N file → times x (map (λ m. m.to) (handled N file most queue)) ≡ weight N x queue
    unfolding handled times weight
    handled_times zero [] g room x there = refl
    handled_times zero (m ∷ queue) g room x there = absurd (omega (arith, next_total m queue g.0))
    handled_times (suc most) [] g room x there = refl
    handled_times (suc most) (m ∷ queue) g room x there = omega (
      arith,
      next_weight m queue g.0 x there,
      handled_times most (queue ++ answers N file m) (next_good m queue g) (omega (arith, next_total m queue g.0)) x
          there,
    )

    pub handled_length : (most : ℕ) (queue : List Message) → AllGood N file base queue
        → total N queue (buckets N file) ≤ most
        → length (handled N file most queue) ≡ total N queue (buckets N file)
    unfolding handled
    handled_length zero [] g room = sym (total_nil N (buckets N file))
    handled_length zero (m ∷ queue) g room = absurd (omega (arith, next_total m queue g.0))
    handled_length (suc most) [] g room = sym (total_nil N (buckets N file))
    handled_length (suc most) (m ∷ queue) g room = omega (
      arith,
      next_total m queue g.0,
      handled_length most (queue ++ answers N file m) (next_good m queue g) (omega (arith, next_total m queue g.0)),
    )

    -- and no more room than that is ever used
    pub handled_enough : (most other : ℕ) (queue : List Message) → AllGood N file base queue
        → total N queue (buckets N file) ≤ most → total N queue (buckets N file) ≤ other
        → handled N file most queue ≡ handled N file other queue
    unfolding handled
    handled_enough zero zero [] g room space = refl
    handled_enough zero zero (m ∷ queue) g room space = refl
    handled_enough zero (suc other) [] g room space = refl
    handled_enough zero (suc other) (m ∷ queue) g room space = absurd (omega (arith, next_total m queue g.0))
    handled_enough (suc most) zero [] g room space = refl
    handled_enough (suc most) zero (m ∷ queue) g room space = absurd (omega (arith, next_total m queue g.0))
    handled_enough (suc most) (suc other) [] g room space = refl
    handled_enough (suc most) (suc other) (m ∷ queue) g room space = ap (λ (rest : List Message). m ∷ rest)
        (handled_enough most other (queue ++ answers N file m) (next_good m queue g)
        (omega (arith, next_total m queue g.0)) (omega (arith, next_total m queue g.0)))

    -- whatever is handled is good
    pub handled_good : (most : ℕ) (queue : List Message) → AllGood N file base queue
        → AllGood N file base (handled N file most queue)
    unfolding handled
    handled_good zero queue g = tt
    handled_good (suc most) [] g = tt
    handled_good (suc most) (m ∷ queue) g = (g.0, handled_good most (queue ++ answers N file m) (next_good m queue g))

-- a number past a list of smaller ones stands nowhere in it
pub times_good : (N : ℕ) (file : Image) (base : ℕ) (queue : List Message) → AllGood N file base queue → (x : ℕ)
    → buckets N file ≤ x
    → times x (map (λ m. m.to) queue) ≡ 0
unfolding times
times_good N file base [] g x past = refl
times_good N file base (m ∷ queue) g x past = omega (
  arith,
  times_good N file base queue g.1 x past,
  bit_no x m.to (omega (arith, g.0.exists)),
)

-- the greatest of a list
greatest_at : (f : ℕ → ℕ) (a c x : ℕ) → a ≤ x → x < a + c → f x ≤ greatest (map f (numbers a c))
unfolding greatest numbers
greatest_at f a zero x low high = absurd (omega arith)
greatest_at f a (suc c) x low high = ⊎_elim
    (λ l. omega (arith, greatest_at f (suc a) c x l (omega arith)))
    (λ l. omega (arith, ap f (met l)))
    (below a x)
  where
    met : x ≤ a → x ≡ a
    met l = omega arith

-- the highest level is a bucket's level or more
pub highest_level : (N : ℕ) (file : Image) (a : ℕ) → a < buckets N file → level N file a ≤ highest N file
unfolding highest
highest_level N file a exists = greatest_at (level N file) 0 (buckets N file) a (omega arith) (omega arith)

pub rounds_good : (N : ℕ) (file : Image) (base : ℕ) (queue : List Message) → AllGood N file base queue
    → greatest (map (λ m. m.round) queue) ≤ highest N file - base
unfolding greatest
rounds_good N file base [] g = omega arith
rounds_good N file base (m ∷ queue) g = omega (
  arith,
  rounds_good N file base queue g.1,
  g.0.soon,
  g.0.up,
  highest_level N file m.to g.0.exists,
)

-- what a scan handles, visits and lasts, as defined
pub messages_is : (N : ℕ) (file image : Image)
    → messages N file image ≡ handled N file (buckets N file) (opening N image)
unfolding messages
messages_is N file image = refl

pub visits_is : (N : ℕ) (file image : Image) → visits N file image ≡ map (λ m. m.to) (messages N file image)
unfolding visits
visits_is N file image = refl

pub last_round_is : (N : ℕ) (file image : Image)
    → last_round N file image ≡ greatest (map (λ m. m.round) (messages N file image))
unfolding last_round
last_round_is N file image = refl

module _ (N : ℕ) (positive : 0 < N) (file : Image) (formed : Formed N file)
    (image : Image) (image_formed : Formed N image) (behind : NotAhead N file image) where
  pub sent_good : (a c : ℕ) → a + c ≤ buckets N image
      → AllGood N file image.level (map (λ b. message b (level N image b) 0) (numbers a c))
  unfolding numbers
  sent_good a zero h = tt
  sent_good a (suc c) h = (
    record {
      exists = omega arith;
      up = level_behind N positive file formed image image_formed behind a;
      low = level_spans N positive image image_formed a (omega arith);
      soon = omega (arith, level_low N image a);
    },
    sent_good (suc a) c (omega arith),
  )

  -- the opening weighs 1 at every bucket: the one that the client takes for its address
  sent_past : (x a c : ℕ) → address N image x < a → a + c ≤ buckets N image
      → weight N x (map (λ b. message b (level N image b) 0) (numbers a c)) ≡ 0
  unfolding weight numbers
  sent_past x a zero past h = refl
  sent_past x a (suc c) past h = omega (
    arith,
    sent_past x (suc a) c (omega arith) (omega arith),
    bit_no (hash N (level N image a) x) a
        (λ e. omega (arith, (address_own N positive image image_formed a x (omega arith)).1 e)),
  )

  pub sent_weight : (x a c : ℕ) → a ≤ address N image x → address N image x < a + c → a + c ≤ buckets N image
      → weight N x (map (λ b. message b (level N image b) 0) (numbers a c)) ≡ 1
  unfolding weight numbers
  sent_weight x a zero low high h = absurd (omega arith)
  sent_weight x a (suc c) low high h = ⊎_elim
      (λ e. omega (
        arith,
        sent_past x (suc a) c (omega arith) (omega arith),
        bit_yes (hash N (level N image a) x) a ((address_own N positive image image_formed a x (omega arith)).0 e),
      ))
      (λ e. omega (
        arith,
        sent_weight x (suc a) c (omega (arith, e)) (omega arith) (omega arith),
        bit_no (hash N (level N image a) x) a
            (λ l. e ((address_own N positive image image_formed a x (omega arith)).1 l)),
      ))
      (same (address N image x) a)
