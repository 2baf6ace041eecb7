-- The order of two buckets that `earlier` tells from their numbers alone, and lists in that order: numbers believed in,
-- and the children of a bucket behind all that were sent a message before. That a scan's visits are in it:
-- proofs/Rules/Earlier.antt.
use Prim.Native.Nat.{ℕ, zero, suc, ◌+◌, ◌-◌, ◌≤◌, ◌<◌}
use Rattle.std.specs.Prelude.{◌≡◌, Bool, ◌||◌, List, [], ◌∷◌, ◌++◌, ◌⊎◌, length, get_or}
use Rattle.std.proofs.Math.Path.{refl}
use Rattle.std.proofs.Common.{sym, ap, ap₂, subst, ◌∙◌, append-nil, inl, inr, add-one, arith}
use Rattle.std.proofs.Math.Bool.{true, false}
use Rattle.std.proofs.Math.Logic.{⊎_elim}
use borrow.Author.Tests.{ltb-true, lt-ltb, le-ltb, eq-eqb, ne_eqb}
use Rattle.std.proofs.Math.Dec.{ltb, eqb}
use Rattle.std.proofs.Math.Seq.{append_snoc}
use Rattle.address.specs.Compare.{below, same}
use Rattle.address.specs.declared.Image.{Image}
use Rattle.address.specs.Rules.{span, buckets, child, numbers}
use Rattle.address.specs.Rules.{parent, apart, earlier_within, earlier}
use Rattle.address.specs.Rules.Hash.{span_is, span_suc, span_mono, span_pos, span_above}
use Rattle.address.specs.Rules.Cases.{buckets_is, child_is}
use Rattle.address.specs.Rules.Parent.{parent_of}
use Rattle.address.specs.Rules.Scan.{times, times_none, times_here, times_there}
use Rattle.address.specs.Rules.Order.{born, born_cons, born_none}

-- ---- which of two buckets is first, by its cases

-- a number stands between two spans
pub between_spans : (N x : ℕ) → 0 < N → N ≤ x → (k : ℕ) × (span N k ≤ x) × (x < span N (suc k))
between_spans N x positive some = go x 0 (omega (arith, span_is N 0))
    (omega (arith, span_above N positive x, same_span))
  where
    same_span : span N (x + 0) ≡ span N x
    same_span = ap (span N) (omega arith)

    go : (most k : ℕ) → span N k ≤ x → x < span N (most + k) → (k : ℕ) × (span N k ≤ x) × (x < span N (suc k))
    go zero k low high = let e : span N (0 + k) ≡ span N k = ap (span N) (omega arith) in absurd (omega arith)
    go (suc most) k low high =
        let e : span N (suc most + k) ≡ span N (most + suc k) = ap (span N) (omega arith) in
        ⊎_elim (λ l. (k, low, l)) (λ l. go most (suc k) l (omega arith)) (below x (span N (suc k)))

-- a client believes in the first buckets
pub first_believed : (N : ℕ) (image : Image) → N ≤ buckets N image
first_believed N image =
    let low : 0 ≤ image.level = omega arith in
    omega (arith, buckets_is N image, span_is N 0, span_mono N low)

module _ (N : ℕ) (positive : 0 < N) where
  -- a parent's number is lower
  pub parent_lower : (x : ℕ) → N ≤ x → parent N x < x
  parent_lower x some =
      let (k, low, high) = between_spans N x positive some in
      omega (arith, parent_of N positive x k low high, span_pos N positive k)

  -- a child's parent is the bucket of whose split it was born
  pub parent_child : (a k : ℕ) → a < span N k → parent N (child N a k) ≡ a
  parent_child a k low =
      parent_of N positive (child N a k) k (omega (arith, child_is N a k)) (omega (arith, child_is N a k, span_suc N k))
      ∙ omega (arith, child_is N a k)

module _ (N : ℕ) (positive : 0 < N) (believed : ℕ) (first : N ≤ believed) where
  -- two buckets are apart
  abbrev Apart : ℕ → ℕ → Type 0
  Apart x y = (x < believed) ⊎ ((y < believed) ⊎ (parent N x ≡ parent N y))

  -- or they are not
  abbrev Together : ℕ → ℕ → Type 0
  Together x y = (believed ≤ x) × (believed ≤ y) × (parent N x ≡ parent N y → ⊥)

  apart_or : (x y : ℕ) → Apart x y ⊎ Together x y
  apart_or x y = go (below x believed) (below y believed) (same (parent N x) (parent N y))
    where
      go : (x < believed) ⊎ (believed ≤ x) → (y < believed) ⊎ (believed ≤ y)
          → (parent N x ≡ parent N y) ⊎ (parent N x ≡ parent N y → ⊥) → Apart x y ⊎ Together x y
      go (inl l) _ _ = inl (inl l)
      go (inr l) (inl m) _ = inl (inr (inl m))
      go (inr l) (inr m) (inl e) = inl (inr (inr e))
      go (inr l) (inr m) (inr e) = inr (l, m, e)

  apart_yes : (x y : ℕ) → Apart x y → apart N believed x y ≡ true
  unfolding apart
  apart_yes x y (inl l) = rw (lt-ltb x believed l)
  apart_yes x y (inr (inl l)) = go (ltb x believed)
    where
      go : (b : Bool) → (b || ltb y believed || eqb (parent N x) (parent N y)) ≡ true
      go true = refl
      go false = rw (lt-ltb y believed l)
  apart_yes x y (inr (inr e)) = rw (eq-eqb _ _ e) (go (ltb x believed) (ltb y believed))
    where
      go : (a b : Bool) → (a || b || true) ≡ true
      go true b = refl
      go false true = refl
      go false false = refl

  apart_no : (x y : ℕ) → Together x y → apart N believed x y ≡ false
  unfolding apart
  apart_no x y t = rw (le-ltb x believed t.0, le-ltb y believed t.1, ne_eqb _ _ t.2)

  under : (x y : ℕ) → Together x y → parent N x < x
  under x y t = parent_lower N positive x (omega (arith, t.0))

  -- more steps tell nothing else
  enough : (m n x y : ℕ) → x ≤ m → x ≤ n → earlier_within N believed m x y ≡ earlier_within N believed n x y
  unfolding earlier_within
  enough zero zero x y hm hn = refl
  enough zero (suc n) x y hm hn = rw (apart_yes x y (inl (omega arith)))
  enough (suc m) zero x y hm hn = rw (apart_yes x y (inl (omega arith)))
  enough (suc m) (suc n) x y hm hn = ⊎_elim
      (λ a. rw (apart_yes x y a))
      (λ t. rw (apart_no x y t)
      (enough m n (parent N x) (parent N y) (omega (arith, under x y t)) (omega (arith, under x y t))))
      (apart_or x y)

  -- where they are apart, the lower number is first
  pub earlier_number : (x y : ℕ) → (x < believed) ⊎ ((y < believed) ⊎ (parent N x ≡ parent N y))
      → earlier N believed x y ≡ ltb x y
  unfolding earlier earlier_within
  earlier_number zero y a = refl
  earlier_number (suc x) y a = rw (apart_yes (suc x) y a)

  -- otherwise the one whose parent is
  pub earlier_parents : (x y : ℕ) → believed ≤ x → believed ≤ y → (parent N x ≡ parent N y → ⊥)
      → earlier N believed x y ≡ earlier N believed (parent N x) (parent N y)
  unfolding earlier earlier_within
  earlier_parents zero y hx hy e = absurd (omega arith)
  earlier_parents (suc x) y hx hy e = rw (apart_no (suc x) y (hx, hy, e))
      (enough x (parent N (suc x)) (parent N (suc x)) (parent N y)
      (omega (arith, parent_lower N positive (suc x) (omega arith))) (omega arith))

  -- no bucket is before itself
  pub earlier_self : (x : ℕ) → earlier N believed x x ≡ false
  earlier_self x = earlier_number x x (inr (inr refl)) ∙ le-ltb x x (omega arith)

  -- of two buckets one at the most is before the other
  turned : (x y : ℕ) → Apart x y → Apart y x
  turned x y (inl l) = inr (inl l)
  turned x y (inr (inl l)) = inl l
  turned x y (inr (inr e)) = inr (inr (sym e))

  apart_refutes : (x y : ℕ) → earlier N believed x y ≡ true → Apart x y → earlier N believed y x ≡ false
  apart_refutes x y e a = earlier_number y x (turned x y a)
      ∙ le-ltb y x (omega (arith, ltb-true x y (sym (earlier_number x y a) ∙ e)))

  refutes_within : (most x y : ℕ) → x ≤ most → earlier N believed x y ≡ true → earlier N believed y x ≡ false
  refutes_within zero x y h e = apart_refutes x y e (inl (omega arith))
  refutes_within (suc most) x y h e = ⊎_elim (apart_refutes x y e)
      (λ t. earlier_parents y x t.1 t.0 (λ p. t.2 (sym p))
      ∙ refutes_within most (parent N x) (parent N y) (omega (arith, under x y t))
      (sym (earlier_parents x y t.0 t.1 t.2) ∙ e))
      (apart_or x y)

  pub earlier_refutes : (x y : ℕ) → earlier N believed x y ≡ true → earlier N believed y x ≡ false
  earlier_refutes x y e = refutes_within x x y (omega arith) e

-- ---- a property of each element of a list

abbrev pub AllOf : (ℕ → Type 0) → List ℕ → Type 0
AllOf P [] = Unit {0}
AllOf P (x ∷ xs) = P x × AllOf P xs

pub each_append : (P : ℕ → Type 0) (xs ys : List ℕ) → AllOf P xs → AllOf P ys → AllOf P (xs ++ ys)
each_append P [] ys ex ey = ey
each_append P (x ∷ xs) ys ex ey = (ex.0, each_append P xs ys ex.1 ey)

pub each_map : (P Q : ℕ → Type 0) → ((x : ℕ) → P x → Q x) → (xs : List ℕ) → AllOf P xs → AllOf Q xs
each_map P Q f [] e = tt
each_map P Q f (x ∷ xs) e = (f x e.0, each_map P Q f xs e.1)

-- of the element at a place
pub each_at : (P : ℕ → Type 0) (xs : List ℕ) (k : ℕ) → AllOf P xs → k < length xs → P (get_or xs k 0)
each_at P [] k e h = absurd (omega arith)
each_at P (x ∷ xs) zero e h = e.0
each_at P (x ∷ xs) (suc k) e h = each_at P xs k e.1 (omega arith)

-- of a number that stands in the list
pub each_of : (P : ℕ → Type 0) (xs : List ℕ) (x : ℕ) → AllOf P xs → 0 < times x xs → P x
each_of P [] x e h = absurd (omega (arith, times_none x))
each_of P (y ∷ xs) x e h = ⊎_elim (λ s. subst P (sym s) e.0)
    (λ s. each_of P xs x e.1 (omega (arith, times_there x y xs s)))
    (same x y)

-- and of all, if of every number that stands there
pub each_all : (P : ℕ → Type 0) (xs : List ℕ) → ((x : ℕ) → 0 < times x xs → P x) → AllOf P xs
each_all P [] f = tt
each_all P (x ∷ xs) f = (
  f x (omega (arith, times_here x x xs refl)),
  each_all P xs
      (λ y h. f y
      (⊎_elim (λ s. omega (arith, times_here y x xs s)) (λ s. omega (arith, times_there y x xs s)) (same y x))),
)

-- as many numbers in a row as were asked for
pub numbers_length : (a c : ℕ) → length (numbers a c) ≡ c
unfolding numbers
numbers_length a zero = refl
numbers_length a (suc c) = ap suc (numbers_length (suc a) c)

-- a property of each number in a row
pub numbers_each : (P : ℕ → Type 0) (a c : ℕ) → ((x : ℕ) → a ≤ x → x < a + c → P x) → AllOf P (numbers a c)
unfolding numbers
numbers_each P a zero f = tt
numbers_each P a (suc c) f =
    (f a (omega arith) (omega arith), numbers_each P (suc a) c (λ x low high. f x (omega arith) (omega arith)))

-- ---- the visits are in this order

-- Each bucket of a list is before all that follow it.
abbrev pub Ordered : ℕ → ℕ → List ℕ → Type 0
Ordered N believed [] = Unit {0}
Ordered N believed (x ∷ xs) = AllOf (λ y. earlier N believed x y ≡ true) xs × Ordered N believed xs

-- by places
pub ordered_at : (N believed : ℕ) (xs : List ℕ) (p q : ℕ) → Ordered N believed xs → p < q → q < length xs
    → earlier N believed (get_or xs p 0) (get_or xs q 0) ≡ true
ordered_at N believed [] p q o h l = absurd (omega arith)
ordered_at N believed (x ∷ xs) zero zero o h l = absurd (omega arith)
ordered_at N believed (x ∷ xs) zero (suc q) o h l =
    each_at (λ y. earlier N believed x y ≡ true) xs q o.0 (omega arith)
ordered_at N believed (x ∷ xs) (suc p) zero o h l = absurd (omega arith)
ordered_at N believed (x ∷ xs) (suc p) (suc q) o h l = ordered_at N believed xs p q o.1 (omega arith) (omega arith)

-- one more at the end
ordered_more : (N believed : ℕ) (xs : List ℕ) (y : ℕ) → Ordered N believed xs
    → AllOf (λ x. earlier N believed x y ≡ true) xs → Ordered N believed (xs ++ (y ∷ []))
ordered_more N believed [] y o e = (tt, tt)
ordered_more N believed (x ∷ xs) y o e = (
  each_append (λ z. earlier N believed x z ≡ true) xs (y ∷ []) o.0 (e.0, tt),
  ordered_more N believed xs y o.1 e.1,
)

module _ (N : ℕ) (positive : 0 < N) (believed : ℕ) (first : N ≤ believed) where
  -- numbers that are believed in are in order
  pub numbers_ordered : (a c : ℕ) → a + c ≤ believed → Ordered N believed (numbers a c)
  unfolding numbers
  numbers_ordered a zero h = tt
  numbers_ordered a (suc c) h = (
    numbers_each (λ y. earlier N believed a y ≡ true) (suc a) c
        (λ y low high. earlier_number N positive believed first a y (inl (omega arith)) ∙ lt-ltb a y low),
    numbers_ordered (suc a) c (omega arith),
  )

  -- What is known of a bucket x that was sent a message before y is, a child of bucket a.
  abbrev pub Sooner : ℕ → ℕ → ℕ → Type 0
  Sooner a y x = (x < believed) ⊎ ((earlier N believed (parent N x) a ≡ true) ⊎ ((parent N x ≡ a) × (x < y)))

  sooner_earlier : (a y x : ℕ) → believed ≤ y → parent N y ≡ a → Sooner a y x → earlier N believed x y ≡ true
  sooner_earlier a y x past born (inl l) =
      earlier_number N positive believed first x y (inl l) ∙ lt-ltb x y (omega arith)
  sooner_earlier a y x past born (inr (inl e)) = ⊎_elim
      (λ l. earlier_number N positive believed first x y (inl l) ∙ lt-ltb x y (omega arith))
      (λ l. earlier_parents N positive believed first x y l past other ∙ rw born e)
      (below x believed)
    where
      other : parent N x ≡ parent N y → ⊥
      other s =
          let z : true ≡ false =
          sym e ∙ ap (λ (p : ℕ). earlier N believed p a) (s ∙ born) ∙ earlier_self N positive believed first a in
          let z : ◌≡◌ {A = ℕ} 0 1 = cc in omega arith
  sooner_earlier a y x past born (inr (inr e)) =
      earlier_number N positive believed first x y (inr (inr (e.0 ∙ sym born))) ∙ lt-ltb x y e.1

  born_suc : (a m c : ℕ) → born N a m (suc c) ≡ child N a m ∷ born N a (suc m) c
  born_suc a m c =
      let all : suc c ≡ m + suc c - m = omega arith in
      let rest : m + suc c - (m + 1) ≡ c = omega arith in
      ap (born N a m) all ∙ born_cons N a m (m + suc c) (omega arith)
      ∙ ap₂ (λ (k n : ℕ). child N a m ∷ born N a k n) (add-one m) rest

  -- the children of a bucket follow all that were sent a message before them
  pub born_ordered : (a c m : ℕ) (xs : List ℕ) → a < span N m → ((k : ℕ) → m ≤ k → believed ≤ child N a k)
      → Ordered N believed xs → AllOf (Sooner a (child N a m)) xs → Ordered N believed (xs ++ born N a m c)
  born_ordered a zero m xs low past o s = rw (born_none N a m 0 refl, append-nil xs) o
  born_ordered a (suc c) m xs low past o s =
      subst (Ordered N believed)
      (append_snoc xs y (born N a (suc m) c) ∙ ap (λ (l : List ℕ). xs ++ l) (sym (born_suc a m c)))
      (born_ordered a c (suc m) (xs ++ (y ∷ [])) (omega (arith, span_suc N m)) (λ k h. past k (omega arith))
      (ordered_more N believed xs y o
      (each_map (Sooner a y) (λ x. earlier N believed x y ≡ true)
      (λ x. sooner_earlier a y x (past m (omega arith)) own) xs s))
      (each_append (Sooner a (child N a (suc m))) xs (y ∷ [])
      (each_map (Sooner a y) (Sooner a (child N a (suc m))) later xs s) (inr (inr (own, higher)), tt)))
    where
      y : ℕ
      y = child N a m

      own : parent N y ≡ a
      own = parent_child N positive a m low

      higher : y < child N a (suc m)
      higher = omega (arith, child_is N a m, child_is N a (suc m), span_suc N m, span_pos N positive m)

      later : (x : ℕ) → Sooner a y x → Sooner a (child N a (suc m)) x
      later x (inl l) = inl l
      later x (inr (inl e)) = inr (inl e)
      later x (inr (inr e)) = inr (inr (e.0, omega (arith, e.1, higher)))

  -- and bucket a is their parent
  pub born_parent : (a m c : ℕ) → a < span N m → AllOf (λ x. parent N x ≡ a) (born N a m c)
  born_parent a m zero low = rw (born_none N a m 0 refl) tt
  born_parent a m (suc c) low = rw (born_suc a m c)
      (parent_child N positive a m low, born_parent a (suc m) c (omega (arith, span_suc N m)))
