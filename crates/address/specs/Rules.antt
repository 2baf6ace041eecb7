-- The rules of LH*, sentence by sentence as document 01 has them, over the number of first buckets N, which is 1 in
-- every file. Numbers only. The definitions are shut, but for two that proofs/Rules opens: whoever needs them works
-- from the laws of the modules below and of proofs/Rules.
pub mod Address
pub mod Cases
pub mod Earlier
pub mod First
pub mod Grow
pub mod Hash
pub mod Order
pub mod Parent
pub mod Route
pub mod Scan
pub mod Sums
pub mod Table
use Rattle.std.specs.Prelude.{ℕ, zero, suc, ◌+◌, ◌*◌, ◌-◌, ◌^◌, ◌%◌, ◌≤◌, ◌<◌, max, Bool, true, cond, ◌&&◌, ◌||◌, leb}
use Rattle.std.specs.Prelude.{ltb, eqb, length}
use mathlib.Core.List.{List, [], ◌∷◌, ◌++◌, map, foldr}
use Rattle.address.specs.Limits.{no_bucket}
use Rattle.address.specs.declared.Image.{Image}
use Rattle.address.specs.declared.Fate.{Fate}
use Rattle.address.specs.declared.Fate.TheVariants.{Keep, SendOn, Unsound}

-- The pair (i, n) of a level and a pointer: the file's own state, or the image of it that a client has.
abbrev pub «at» : ℕ → ℕ → Image
«at» i n = record { level = i; pointer = n }

-- 2^k, and N * 2^k where a file starts with N buckets.
pub span : ℕ → ℕ → ℕ
span N k = N * 2 ^ k

-- The file has 2^i + n buckets; a client believes in 2^i' + n'.
pub buckets : ℕ → Image → ℕ
buckets N s = span N s.level + s.pointer

-- n < 2^i, of a file and of an image.
abbrev pub Formed : ℕ → Image → Type 0
Formed N s = s.pointer < span N s.level

-- A client is not ahead if it believes in no more buckets than the file has.
abbrev pub NotAhead : ℕ → Image → Image → Type 0
NotAhead N file image = buckets N image ≤ buckets N file

-- h_k(C) is C mod 2^k.
pub hash : ℕ → ℕ → ℕ → ℕ
hash N k C = C % span N k

-- Address of C in (i, n): h_i(C), or h_{i+1}(C) if h_i(C) < n. A client does the same with (i', n').
pub address : ℕ → Image → ℕ → ℕ
address N s C = cond (ltb (hash N s.level C) s.pointer) (hash N (suc s.level) C) (hash N s.level C)

-- The level of bucket a in (i, n): i+1 where a < n or a ≥ 2^i, and i otherwise.
pub level : ℕ → Image → ℕ → ℕ
level N s a = cond (ltb a s.pointer || leb (span N s.level) a) (suc s.level) s.level

-- At a bucket a of level j: if h_j(C) = a, the key stays.
pub keeps : ℕ → ℕ → ℕ → ℕ → Bool
keeps N a j C = eqb (hash N j C) a

-- Where bucket a of level j sends a key that it does not keep: with x = h_j(C) and y = h_{j-1}(C), to y if a < y < x,
-- otherwise to x.
pub onward : ℕ → ℕ → ℕ → ℕ → ℕ
onward N a j C = cond (ltb a (hash N (j - 1) C) && ltb (hash N (j - 1) C) (hash N j C)) (hash N (j - 1) C) (hash N j C)

-- The three fates of a key at bucket a of level j: kept there, sent on to a numbered bucket, or stopped because that
-- bucket is unsound.
pub fate : ℕ → Bool → ℕ → ℕ → ℕ → Fate
fate N sound a j C = cond sound (cond (keeps N a j C) Keep (SendOn (onward N a j C))) Unsound

-- (k, p), but (k+1, 0) where p has reached 2^k.
pub wrapped : ℕ → ℕ → ℕ → Image
wrapped N k p = cond (ltb p (span N k)) («at» k p) («at» (suc k) 0)

-- Adjustment, only if the first bucket a, of level j, did not keep the key and j > i': i' becomes j-1 and n' becomes
-- a+1, wrapped.
pub adjusted : ℕ → Image → ℕ → ℕ → Bool → Image
adjusted N image a j kept = cond kept image (cond (ltb image.level j) (wrapped N (j - 1) (suc a)) image)

-- The image after a key was sent: it uses the first bucket's address and level.
unfoldable pub image_after : ℕ → Image → Image → ℕ → Image
image_after N file image C =
    adjusted N image (address N image C) (level N file (address N image C))
    (keeps N (address N image C) (level N file (address N image C)) C)

-- The bucket born of bucket a as its level went from k to k+1.
pub child : ℕ → ℕ → ℕ → ℕ
child N a k = a + span N k

-- Split: the bucket that it divides is bucket n;
abbrev pub splitting : Image → ℕ
splitting s = s.pointer

-- records of bucket n whose h_{i+1} is not n go to new bucket n + 2^i;
pub newborn : ℕ → Image → ℕ
newborn N s = child N (splitting s) s.level

-- n grows by 1, and at 2^i it becomes 0 and i grows by 1.
pub grown : ℕ → Image → Image
grown N s = wrapped N s.level (suc s.pointer)

-- The buckets that follow the one where a key met its fate.
pub following : Fate → (ℕ → List ℕ) → List ℕ
following Keep walk = []
following (SendOn b) walk = walk b
following Unsound walk = []

-- The buckets that a key meets from bucket a on, bucket after bucket until one keeps it; `most` only bounds the
-- recursion.
pub route_from : ℕ → Image → ℕ → ℕ → ℕ → List ℕ
route_from N file C zero a = []
route_from N file C (suc most) a = a ∷ following (fate N true a (level N file a) C) (route_from N file C most)

-- The route of a key in a file: from the client's first bucket, with as much room as the file has buckets.
pub route : ℕ → Image → Image → ℕ → List ℕ
route N file image C = route_from N file C (buckets N file) (address N image C)

-- Forwards are the route's buckets less one, or 0 without a route.
pub forwards : List ℕ → ℕ
forwards way = length way - 1

-- A message of a scan: the bucket that it is for, its message level, and its round.
pub record Message : Type 0 where
  pub to : ℕ
  pub level : ℕ
  pub round : ℕ

abbrev pub message : ℕ → ℕ → ℕ → Message
message a m r = record { to = a; level = m; round = r }

-- c numbers from a on.
pub numbers : ℕ → ℕ → List ℕ
numbers a zero = []
numbers a (suc c) = a ∷ numbers (suc a) c

-- The client sends to each bucket a it believes in, in number order, with message level i'+1 if a < n' or a ≥ 2^i',
-- otherwise i'; round 0.
unfoldable pub opening : ℕ → Image → List Message
opening N image = map (λ a. message a (level N image a) 0) (numbers 0 (buckets N image))

-- Bucket a sends, for each of the c levels k above m in order, to a + 2^(k-1) with message level k, one round after its
-- cause.
pub sends : ℕ → ℕ → ℕ → ℕ → ℕ → List Message
sends N a r m zero = []
sends N a r m (suc c) = message (child N a m) (suc m) (suc r) ∷ sends N a r (suc m) c

-- A bucket of level j that gets message level m sends for each k from m+1 to j.
pub answers : ℕ → Image → Message → List Message
answers N file m = sends N m.to m.round m.level (level N file m.to - m.level)

-- Messages are handled first come, first served; `most` only bounds the recursion.
pub handled : ℕ → Image → ℕ → List Message → List Message
handled N file zero queue = []
handled N file (suc most) [] = []
handled N file (suc most) (m ∷ queue) = m ∷ handled N file most (queue ++ answers N file m)

-- The messages of a scan in the order in which they are handled, with as much room as the file has buckets; its visits;
-- its last round.
pub messages : ℕ → Image → Image → List Message
messages N file image = handled N file (buckets N file) (opening N image)

pub visits : ℕ → Image → Image → List ℕ
visits N file image = map (λ m. m.to) (messages N file image)

pub greatest : List ℕ → ℕ
greatest = foldr max 0

pub last_round : ℕ → Image → Image → ℕ
last_round N file image = greatest (map (λ m. m.round) (messages N file image))

-- The highest level of a bucket of the file.
pub highest : ℕ → Image → ℕ
highest N file = greatest (map (level N file) (numbers 0 (buckets N file)))

-- The greatest 2^k (N * 2^k) not above b, from the k-th on; `most` only bounds the recursion.
pub top_span : ℕ → ℕ → ℕ → ℕ → ℕ
top_span N b k zero = span N k
top_span N b k (suc most) = cond (leb (span N (suc k)) b) (top_span N b (suc k) most) (span N k)

-- Parent: bucket b above 0 was born of b less the greatest power of two not above b. Bucket 0 (each of the first N) has
-- none.
pub parent : ℕ → ℕ → ℕ
parent N b = cond (ltb b N) no_bucket (b - top_span N b 0 b)

-- Which of two buckets a scan visits first needs no queue. A client believes in so many buckets. Two buckets are apart
-- where one of them is believed in or both have one parent;
pub apart : ℕ → ℕ → ℕ → ℕ → Bool
apart N believed x y = ltb x believed || ltb y believed || eqb (parent N x) (parent N y)

-- there the lower number is first, and otherwise the one whose parent is; `most` only bounds the recursion.
pub earlier_within : ℕ → ℕ → ℕ → ℕ → ℕ → Bool
earlier_within N believed zero x y = ltb x y
earlier_within N believed (suc most) x y =
    cond (apart N believed x y) (ltb x y) (earlier_within N believed most (parent N x) (parent N y))

-- Bucket x is visited before bucket y. A parent's number is lower than its child's, so x steps are enough.
pub earlier : ℕ → ℕ → ℕ → ℕ → Bool
earlier N believed x y = earlier_within N believed x x y
