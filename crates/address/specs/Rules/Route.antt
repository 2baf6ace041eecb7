-- A key sent by a client that is not ahead starts at a bucket that exists and reaches its own bucket in at most two
-- forwards, each to a higher-numbered bucket. The client's bucket a is h_m(C) for some m up to its level j. Where a
-- does not keep the key, y = h_{j-1}(C) is a or more: if it is a, the next bucket is a + 2^(j-1), which keeps the key;
-- if it is more, the next bucket is y, where the key is kept or is in the first case.
use Prim.Native.Nat.{ℕ, zero, suc, ◌+◌, ◌-◌, ◌≤◌, ◌<◌}
use Rattle.std.specs.Prelude.{◌≡◌, refl, ◌↔◌, ◌⊎◌, length}
use Rattle.std.proofs.Math.Path.{sym, ap}
use Rattle.std.proofs.Common.{◌∙◌, inl, inr, ⊎_elim, arith}
use mathlib.Core.List.{List, [], ◌∷◌}
use Rattle.address.specs.Compare.{below, same}
use Rattle.address.specs.declared.Image.{Image}
use Rattle.address.specs.Rules.{Formed, NotAhead, span, buckets, hash, address, level, onward, forwards}
use Rattle.address.specs.Rules.{following, route_from, route}
use Rattle.address.specs.Rules.Hash.{span_suc, span_pos, span_mono, hash_le, hash_lt, hash_hash, hash_suc}
use Rattle.address.specs.Rules.Cases.{buckets_is, level_split, level_born, level_rest, level_low, level_high}
use Rattle.address.specs.Rules.Cases.{onward_near, onward_past, onward_level, fate_keep, fate_send}
use Rattle.address.specs.Rules.Address.{address_exists, address_own}

-- The last bucket of a route that starts at a.
pub last : ℕ → List ℕ → ℕ
last a [] = a
last a (b ∷ rest) = last b rest

-- Each bucket of a route that starts at a is higher than the one before.
abbrev pub Above : ℕ → List ℕ → Type 0
Above a [] = Unit {0}
Above a (b ∷ rest) = (a < b) × Above b rest

-- Each bucket of a route exists.
abbrev pub Below : ℕ → List ℕ → Type 0
Below most [] = Unit {0}
Below most (a ∷ rest) = (a < most) × Below most rest

-- From bucket a the key is kept after h forwards, each to a higher bucket that exists.
pub data Reaches (N : ℕ) (file : Image) (C : ℕ) : ℕ → ℕ → Type 0 where
  kept : {a : ℕ} → a < buckets N file → hash N (level N file a) C ≡ a → Reaches N file C a 0
  sent : {a b h : ℕ} → a < buckets N file → (hash N (level N file a) C ≡ a → ⊥) → onward N a (level N file a) C ≡ b
      → a < b
      → Reaches N file C b h → Reaches N file C a (suc h)

-- What a route of h forwards owes: it starts at its first bucket, ends at the key's own bucket, each forward goes to a
-- higher bucket, and all of them exist.
pub record Delivered (N : ℕ) (file : Image) (C first h : ℕ) (way : List ℕ) : Type 0 where
  pub rest : List ℕ
  pub is : way ≡ first ∷ rest
  pub long : length rest ≡ h
  pub ends : last first rest ≡ address N file C
  pub rises : Above first rest
  pub exist : Below (buckets N file) (first ∷ rest)

-- A route by its steps.
pub route_is : (N : ℕ) (file image : Image) (C : ℕ)
    → route N file image C ≡ route_from N file C (buckets N file) (address N image C)
unfolding route
route_is N file image C = refl

pub forwards_is : (way : List ℕ) → forwards way ≡ length way - 1
unfolding forwards
forwards_is way = refl

pub last_one : (a : ℕ) → last a [] ≡ a
unfolding last
last_one a = refl

pub last_next : (a b : ℕ) (rest : List ℕ) → last a (b ∷ rest) ≡ last b rest
unfolding last
last_next a b rest = refl

module _ (N : ℕ) (file : Image) (C most a : ℕ) where
  pub route_kept : hash N (level N file a) C ≡ a → route_from N file C (suc most) a ≡ a ∷ []
  unfolding route_from following
  route_kept h = rw (fate_keep N a (level N file a) C h)

  pub route_sent : (hash N (level N file a) C ≡ a → ⊥)
      → route_from N file C (suc most) a ≡ a ∷ route_from N file C most (onward N a (level N file a) C)
  unfolding route_from following
  route_sent h = rw (fate_send N a (level N file a) C h)

module _ (N : ℕ) (positive : 0 < N) (file : Image) (formed : Formed N file) where
  -- the levels that a client believes in are no higher than the true ones
  module _ (image : Image) (image_formed : Formed N image) (behind : NotAhead N file image) where
    pub level_client : image.level ≤ file.level
    level_client = ⊎_elim (λ h. omega arith)
        (λ h. absurd (omega (arith, span_mono N h, span_suc N file.level, buckets_is N file, buckets_is N image)))
        (below image.level (suc file.level))

    pub level_behind : (a : ℕ) → level N image a ≤ level N file a
    level_behind a = ⊎_elim
        (λ h. omega (arith, level_high N image a, level_low N file a))
        (λ h. go (omega (arith, level_client)) (below a image.pointer) (below a (span N image.level)))
        (below image.level file.level)
      where
        go : image.level ≡ file.level → (a < image.pointer) ⊎ (image.pointer ≤ a)
            → (a < span N image.level) ⊎ (span N image.level ≤ a) → level N image a ≤ level N file a
        go e (inl l) m = omega (
          arith,
          level_high N image a,
          level_split N file a
              (omega (arith, ap (span N) e, buckets_is N file, buckets_is N image)),
        )
        go e (inr l) (inl m) = omega (arith, level_rest N image a l m, level_low N file a)
        go e (inr l) (inr m) = omega (arith, level_high N image a, level_born N file a (omega (arith, ap (span N) e)))

  -- a bucket of level k+1 below 2^k is split in this round, or not yet and k+1 is the file's level
  pub place : (a k : ℕ) → level N file a ≡ suc k → a < span N k
      → ((a < file.pointer) × (k ≡ file.level)) ⊎ ((file.pointer ≤ a) × (suc k ≡ file.level))
  place a k e low = go (below a file.pointer) (below a (span N file.level))
    where
      go : (a < file.pointer) ⊎ (file.pointer ≤ a) → (a < span N file.level) ⊎ (span N file.level ≤ a)
          → ((a < file.pointer) × (k ≡ file.level)) ⊎ ((file.pointer ≤ a) × (suc k ≡ file.level))
      go (inl l) m = inl (l, omega (arith, level_split N file a l))
      go (inr l) (inl m) = inr (l, omega (arith, level_rest N file a l m))
      go (inr l) (inr m) = absurd (omega (arith, ap (span N) (turned (level_born N file a m))))
        where
          turned : level N file a ≡ suc file.level → k ≡ file.level
          turned h = omega arith

  module _ (C a k : ℕ) (exists : a < buckets N file) (e : level N file a ≡ suc k)
      (leaves : hash N (suc k) C ≡ a → ⊥) where
    upper : hash N (level N file a) C ≡ hash N (suc k) C
    upper = ap (λ (z : ℕ). hash N z C) e

    lower : hash N (level N file a - 1) C ≡ hash N k C
    lower = ap (λ (z : ℕ). hash N z C) (omega arith)

    stays : hash N (level N file a) C ≡ a → ⊥
    stays h = leaves (sym upper ∙ h)

    -- where h_{j-1}(C) = a, the key goes to a + 2^(j-1), which keeps it
    last_hop : hash N k C ≡ a → Reaches N file C a 1
    last_hop y = sent exists stays (onward_past N a (level N file a) C (omega (arith, lower)) ∙ upper)
        (omega (arith, far, span_pos N positive k))
        (kept reached.0 (ap (λ (z : ℕ). hash N z C) reached.1))
      where
        far : hash N (suc k) C ≡ a + span N k
        far = ⊎_elim (λ h. absurd (leaves (h ∙ y))) (λ h. omega (arith, h)) (hash_suc N positive k C)

        reached : (hash N (suc k) C < buckets N file) × (level N file (hash N (suc k) C) ≡ suc k)
        reached = ⊎_elim
            (λ l. (
              omega (arith, far, l, ap (span N) l.1, buckets_is N file),
              level_born N file (hash N (suc k) C) (omega (arith, far, ap (span N) l.1)) ∙ ap suc (sym l.1),
            ))
            (λ l. (
              omega (arith, hash_lt N positive (suc k) C, ap (span N) l.1, buckets_is N file),
              level_rest N file (hash N (suc k) C) (omega (arith, far, l))
                  (omega (arith, hash_lt N positive (suc k) C, ap (span N) l.1)) ∙ sym l.1,
            ))
            (place a k e (omega (arith, hash_lt N positive k C)))

  -- a bucket a with h_m(C) = a, for a level m up to its own, that does not keep C: m is below its level, and a below
  -- the span under that
  module _ (C a m : ℕ) (up : m ≤ level N file a) (own : hash N m C ≡ a)
      (leaves : hash N (level N file a) C ≡ a → ⊥) where
    pub left_level : m < level N file a
    left_level = ⊎_elim (λ h. h) (λ h. absurd (leaves (ap (λ (z : ℕ). hash N z C) (same_level h) ∙ own)))
        (below m (level N file a))
      where
        same_level : level N file a ≤ m → level N file a ≡ m
        same_level h = omega arith

    pub left_low : a < span N (level N file a - 1)
    left_low = omega (arith, hash_lt N positive m C, span_mono N below_level)
      where
        below_level : m ≤ level N file a - 1
        below_level = omega (arith, left_level)

    left_under : a ≤ hash N (level N file a - 1) C
    left_under = omega (arith, hash_le N m (hash N (level N file a - 1) C), hash_hash N positive below_level C)
      where
        below_level : m ≤ level N file a - 1
        below_level = omega (arith, left_level)

  -- from bucket b = h_k(C) of level k or k+1 at most one forward is left
  second : (C b k : ℕ) → b < buckets N file → hash N k C ≡ b → (level N file b ≡ k) ⊎ (level N file b ≡ suc k)
      → (h : ℕ) × (h ≤ 1) × Reaches N file C b h
  second C b k exists own (inl e) = (0, omega arith, kept exists (ap (λ (z : ℕ). hash N z C) e ∙ own))
  second C b k exists own (inr e) = ⊎_elim
      (λ h. (0, omega arith, kept exists (ap (λ (z : ℕ). hash N z C) e ∙ h)))
      (λ h. (1, omega arith, last_hop C b k exists e h own))
      (same (hash N (suc k) C) b)

  module _ (C a k : ℕ) (exists : a < buckets N file) (e : level N file a ≡ suc k)
      (leaves : hash N (suc k) C ≡ a → ⊥) where
    -- where h_{j-1}(C) is more than a, the key goes there
    near_hop : a < hash N k C → onward N a (level N file a) C ≡ hash N k C
    near_hop y = ⊎_elim
        (λ h. onward_level N a (level N file a) C
        (omega (arith, upper C a k exists e leaves, lower C a k exists e leaves)) ∙ upper C a k exists e leaves ∙ h)
        (λ h. onward_near N a (level N file a) C (omega (arith, lower C a k exists e leaves))
        (omega (arith, upper C a k exists e leaves, lower C a k exists e leaves, h, span_pos N positive k))
        ∙ lower C a k exists e leaves)
        (hash_suc N positive k C)

    after_near : a < span N k → a < hash N k C → (h : ℕ) × (h ≤ 1) × Reaches N file C (hash N k C) h
    after_near low y = ⊎_elim
        (λ l. second C (hash N k C) k (omega (arith, hash_lt N positive k C, ap (span N) l.1, buckets_is N file))
        refl
        (⊎_elim
        (λ m. inr (level_split N file (hash N k C) m ∙ ap suc (sym l.1)))
        (λ m. inl
        (level_rest N file (hash N k C) m (omega (arith, hash_lt N positive k C, ap (span N) l.1)) ∙ sym l.1))
        (below (hash N k C) file.pointer)))
        (λ l. second C (hash N k C) k
        (omega (arith, hash_lt N positive k C, span_suc N k, ap (span N) l.1, buckets_is N file)) refl
        (inr (level_rest N file (hash N k C) (omega (arith, l.0))
        (omega (arith, hash_lt N positive k C, span_suc N k, ap (span N) l.1)) ∙ sym l.1)))
        (place a k e low)

    two_hops : a < span N k → a ≤ hash N k C → (h : ℕ) × (h ≤ 2) × Reaches N file C a h
    two_hops low under = ⊎_elim
        (λ y. (1, omega arith, last_hop C a k exists e leaves y))
        (λ y. near (omega (arith, y)))
        (same (hash N k C) a)
      where
        near : a < hash N k C → (h : ℕ) × (h ≤ 2) × Reaches N file C a h
        near y =
            let (h, short, rest) = after_near low y in
            (suc h, omega (arith, short), sent exists (stays C a k exists e leaves) (near_hop y) y rest)

  -- from bucket a = h_m(C), for a level m up to its own, at most two
  pub reaches_from : (C a m : ℕ) → a < buckets N file → m ≤ level N file a → hash N m C ≡ a
      → (h : ℕ) × (h ≤ 2) × Reaches N file C a h
  reaches_from C a m exists up own = ⊎_elim
      (λ e. (0, omega arith, kept exists e))
      (λ leaves. two_hops C a (level N file a - 1) exists (above leaves)
      (λ h. leaves (ap (λ (z : ℕ). hash N z C) (above leaves) ∙ h))
      (left_low C a m up own leaves) (left_under C a m up own leaves))
      (same (hash N (level N file a) C) a)
    where
      above : (hash N (level N file a) C ≡ a → ⊥) → level N file a ≡ suc (level N file a - 1)
      above leaves = omega (arith, left_level C a m up own leaves)

  -- each forward goes up, so there is room for all of them below the number of buckets
  pub reaches_room : {C a h : ℕ} → Reaches N file C a h → a + h < buckets N file
  reaches_room (kept exists e) = omega arith
  reaches_room (sent exists leaves next up rest) = omega (arith, reaches_room rest)

  -- so the route from there has h forwards, and ends at the key's own bucket
  pub reaches_route : {C a h : ℕ} → Reaches N file C a h → (most : ℕ) → h < most
      → Delivered N file C a h (route_from N file C most a)
  unfolding last
  reaches_route r zero small = absurd (omega arith)
  reaches_route {C} {a} (kept exists e) (suc most) small = record {
    rest = [];
    is = route_kept N file C most a e;
    long = refl;
    ends = sym ((address_own N positive file formed a C exists).1 e);
    rises = tt;
    exist = (exists, tt);
  }
  reaches_route {C} {a} (sent {b = b} exists leaves next up r) (suc most) small =
      let p = reaches_route r most (omega arith) in
      record {
        rest = b ∷ p.rest;
        is = route_sent N file C most a leaves ∙ ap (λ (l : List ℕ). a ∷ l) (ap (route_from N file C most) next ∙ p.is);
        long = ap suc p.long;
        ends = p.ends;
        rises = (up, p.rises);
        exist = (exists, p.exist);
      }

  module _ (image : Image) (image_formed : Formed N image) (behind : NotAhead N file image) (C : ℕ) where
    -- a client that is not ahead has a first bucket that exists
    pub first_exists : address N image C < buckets N file
    first_exists = omega (arith, address_exists N positive image image_formed C)

    -- which is h_m(C) for the level m that the client believes it has
    pub first_own : hash N (level N image (address N image C)) C ≡ address N image C
    first_own = (address_own N positive image image_formed (address N image C) C
        (address_exists N positive image image_formed C)).0 refl

    pub first_level : level N image (address N image C) ≤ level N file (address N image C)
    first_level = level_behind image image_formed behind (address N image C)

    pub reaches : (h : ℕ) × (h ≤ 2) × Reaches N file C (address N image C) h
    reaches = reaches_from C (address N image C) (level N image (address N image C)) first_exists first_level first_own

    -- so a key reaches its own bucket in at most two forwards, each to a higher-numbered bucket
    pub delivered : (h : ℕ) × (h ≤ 2) × Delivered N file C (address N image C) h (route N file image C)
    unfolding route
    delivered =
        let (h, short, r) = reaches in
        (h, short, reaches_route r (buckets N file) (omega (arith, reaches_room r)))

    pub forwards_short : forwards (route N file image C) ≤ 2
    unfolding forwards
    forwards_short =
        let (h, short, d) = delivered in
        rw d.is (omega (arith, d.long))

    -- a first bucket that keeps the key is the whole route
    pub route_right : hash N (level N file (address N image C)) C ≡ address N image C
        → route N file image C ≡ address N image C ∷ []
    unfolding route
    route_right e = ap (λ (most : ℕ). route_from N file C most (address N image C)) some
        ∙ route_kept N file C (buckets N file - 1) (address N image C) e
      where
        some : buckets N file ≡ suc (buckets N file - 1)
        some = omega (arith, first_exists)

    -- the first bucket is wrong exactly if it does not keep the key
    pub first_right : address N image C ≡ address N file C
        ↔ hash N (level N file (address N image C)) C ≡ address N image C
    first_right = (λ e. own.0 (sym e), λ e. sym (own.1 e))
      where
        own : address N file C ≡ address N image C ↔ hash N (level N file (address N image C)) C ≡ address N image C
        own = address_own N positive file formed (address N image C) C first_exists
