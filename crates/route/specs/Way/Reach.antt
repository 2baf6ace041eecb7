-- A key on its way to its own bucket: the refusals by then, and at that bucket the route noted, the key's slot and the
-- image after the call, by the first bucket and whether that kept the key.
use Rattle.std.specs.Prelude.{ℕ, suc, ◌+◌, ◌*◌, ◌≤◌, ◌<◌, ◌≡◌, refl, Bool, true, false, cond, not, eqb, length, get_or}
use Rattle.std.proofs.Common.{sym, ap₂, ◌∙◌, ⊎_elim, arith, Fits}
use Rattle.std.proofs.Math.Path.{ap}
use mathlib.Core.List.{List, [], ◌∷◌, ◌++◌, append_assoc}
use borrow.Author.Tests.{eq-eqb, ne_eqb, not-false}
use Rattle.std.specs.Int.{w8}
use Rattle.address.specs.Compare.{same}
use Rattle.address.specs.Limits.{first_buckets, most_level, most_buckets}
use Rattle.address.specs.declared.Image.{Image}
use Rattle.address.specs.Rules.{Formed, NotAhead, hash, address, level, keeps, adjusted, image_after, route}
use Rattle.address.specs.Rules.Cases.{buckets_is, keeps_yes, keeps_no, adjusted_kept}
use Rattle.address.specs.Rules.Route.{Delivered, last, last_one, delivered, route_right, first_exists, first_right}
use Rattle.address.proofs.Rules.Adjust.{image_after_is}
use Rattle.address.proofs.Rules.Adjust.{after_formed, after_behind}
use Rattle.layout.specs.Replies.{Numbers, Refusal, refuse, reply, reply_none, reply_is, reply_append, reply_among}
use Rattle.layout.specs.Replies.{reply_else, numbers_append}
use Rattle.bucket.specs.Region.{slot_of, every}
use Rattle.client.specs.Table.{image_of, record_sound, with_image}
use Rattle.client.specs.Table.Keeping.{written_again}
use Rattle.layout.specs.Replies.Passing.{passes_split, passes_on, passes_back, refused_on}
use Rattle.file.specs.File.{most_of, state_of, buckets_of, region_of, bucket_sound_in}
use Rattle.file.specs.File.Judge.{Known, state_small, buckets_of_lem}
use Rattle.file.specs.declared.Header.{Header}
use Rattle.route.specs.declared.walk.Walk.{Walk}
use Rattle.route.specs.Way.{early, on_way, met_on, cut, way_of, own_of, noted, first_met, adjusted_by}
use Rattle.route.specs.Way.Noted.{noted_start, noted_none}
use Rattle.route.specs.Way.Open.{Opening, early_numbers, early_numbered}
use Rattle.route.specs.Way.Route.{Ended, Walked, way_route}

-- ---- the refusals

module _ (file table : List ℕ) (client key : ℕ) where
  -- their numbers are 2 to 7
  way_numbers : (P : ℕ → Type 0) → P 2 → P 3 → P 4 → P 5 → P 6 → P 7 → Numbers P (on_way file table client key)
  unfolding on_way
  way_numbers P two three four five six seven = numbers_append P (early file table client) _
      (early_numbers file table client P two three four five six) (seven, tt)

  way_numbered : Numbers (λ n. n ≡ 0 → ⊥) (on_way file table client key)
  way_numbered = way_numbers (λ n. n ≡ 0 → ⊥) (λ e. omega (arith, e)) (λ e. omega (arith, e)) (λ e. omega (arith, e))
      (λ e. omega (arith, e)) (λ e. omega (arith, e)) (λ e. omega (arith, e))

  -- what comes behind them counts where none holds
  pub way_before : (rest : List Refusal)
      → reply (early file table client
      ++ (refuse 7 (not (every (bucket_sound_in file) (way_of file (image_of table client) key))) ∷ rest)) 0
      ≡ cond (eqb (reply (on_way file table client key) 0) 0) (reply rest 0) (reply (on_way file table client key) 0)
  unfolding on_way
  way_before rest = ap (λ (l : List Refusal). reply l 0) (sym (append_assoc (early file table client) (_ ∷ []) rest))
      ∙ reply_append (on_way file table client key) rest 0
      ∙ reply_else (on_way file table client key) way_numbered (reply rest 0)

  pub way_range : (reply (on_way file table client key) 0 ≡ 0 → ⊥)
      → (2 ≤ reply (on_way file table client key) 0) × (reply (on_way file table client key) 0 ≤ 7)
  way_range some = reply_among (λ n. (n ≡ 0 → ⊥) → (2 ≤ n) × (n ≤ 7)) (on_way file table client key)
      (way_numbers (λ n. (n ≡ 0 → ⊥) → (2 ≤ n) × (n ≤ 7)) (λ e. (omega arith, omega arith))
      (λ e. (omega arith, omega arith)) (λ e. (omega arith, omega arith)) (λ e. (omega arith, omega arith))
      (λ e. (omega arith, omega arith)) (λ e. (omega arith, omega arith))) 0 (λ e. absurd (e refl)) some

  -- the reply: an early one, or else 7
  way_reply : reply (on_way file table client key) 0
      ≡ reply (early file table client)
      (cond (not (every (bucket_sound_in file) (way_of file (image_of table client) key))) 7 0)
  unfolding on_way
  way_reply = reply_append (early file table client) _ 0
      ∙ ap (reply (early file table client)) (reply_is 7 _ _ 0
      ∙ ap (cond (not (every (bucket_sound_in file) (way_of file (image_of table client) key))) 7) (reply_none 0))

  -- a call that is not refused on its way has passed the early refusals, and its route is sound
  pub way_passes : reply (on_way file table client key) 0 ≡ 0
      → (reply (early file table client) 0 ≡ 0)
      × (every (bucket_sound_in file) (way_of file (image_of table client) key) ≡ true)
  unfolding on_way
  way_passes none =
      let (first, seven) = passes_split (early file table client) _
      (passes_back (on_way file table client key) way_numbered none) in
      (passes_on (early file table client) first 0, not-false _ seven.0)

  pub way_passed : reply (early file table client) 0 ≡ 0
      → every (bucket_sound_in file) (way_of file (image_of table client) key) ≡ true
      → reply (on_way file table client key) 0 ≡ 0
  way_passed none sound = way_reply
      ∙ passes_on (early file table client)
      (passes_back (early file table client) (early_numbered file table client) none) _
      ∙ ap (λ (b : Bool). cond (not b) 7 0) sound

  -- with an early refusal no bucket is met; else the route is, up to an unsound bucket
  pub met_none : (reply (early file table client) 0 ≡ 0 → ⊥) → met_on file table client key ≡ []
  unfolding met_on
  met_none some = rw (ne_eqb (reply (early file table client) 0) 0 some)

  pub met_route : reply (early file table client) 0 ≡ 0
      → met_on file table client key ≡ cut (bucket_sound_in file) (way_of file (image_of table client) key)
  unfolding met_on
  met_route none = rw (eq-eqb (reply (early file table client) 0) 0 none)

-- ---- the walk to the key's own bucket

some_first : 0 < first_buckets
some_first = omega arith

-- a list of no length ends where it starts
last_none : (a : ℕ) (rest : List ℕ) → length rest ≡ 0 → last a rest ≡ a
last_none a [] e = last_one a
last_none a (b ∷ rest) e = absurd (omega arith)

-- the image after a call is small
after_small : (file : List ℕ) {header : Header} → Known file header → (image : Image) → Formed first_buckets image
    → NotAhead first_buckets (state_of file) image → (key : ℕ)
    → ((image_after first_buckets (state_of file) image key).level ≤ most_level)
    × ((image_after first_buckets (state_of file) image key).pointer ≤ most_buckets)
after_small file seen image formed behind key = state_small (image_after first_buckets (state_of file) image key)
    (most_of file) seen.ranges.figured.few_buckets
    (after_formed first_buckets some_first (state_of file) seen.ranges.formed image formed behind key)
    (omega (
      arith,
      after_behind first_buckets some_first (state_of file) seen.ranges.formed image formed behind key,
      seen.ranges.few,
      buckets_of_lem file,
      buckets_is first_buckets (state_of file),
    ))

module _ (file : List ℕ) (header : Header) (seen : Known file header) (image : Image)
    (formed : Formed first_buckets image) (behind : NotAhead first_buckets (state_of file) image)
    (key : ℕ) (walk : Walk) (told : length (noted walk) ≡ walk.count) (a place : ℕ)
    (ended : Ended file key (way_of file image key) walk a place) where
  way_is_route : noted walk ≡ route first_buckets (state_of file) image key
  way_is_route = ended.whole ∙ way_route file image key

  -- the route's buckets, by their count
  counted : (h : ℕ)
      × (Delivered first_buckets (state_of file) key (address first_buckets image key) h
      (route first_buckets (state_of file) image key)) × (walk.count ≡ suc h)
  counted =
      let (h, short, d) = delivered first_buckets some_first (state_of file) seen.ranges.formed image formed behind
      key in
      (h, d, sym told ∙ ap length (way_is_route ∙ d.is) ∙ ap suc d.long)

  walk_first : first_met walk ≡ address first_buckets image key
  walk_first =
      let (h, d, count) = counted in
      sym (noted_start walk ended.some) ∙ ap (λ (l : List ℕ). get_or l 0 0) (way_is_route ∙ d.is)

  -- the first bucket kept the key exactly if the route has one bucket
  walk_kept_first : eqb walk.count 1
      ≡ keeps first_buckets (address first_buckets image key)
      (level first_buckets (state_of file) (address first_buckets image key)) key
  walk_kept_first = ⊎_elim
      (λ e. eq-eqb walk.count 1
      (sym told
      ∙ ap length
      (way_is_route ∙ route_right first_buckets some_first (state_of file) seen.ranges.formed image formed behind
      key e))
      ∙ sym
      (keeps_yes first_buckets (address first_buckets image key)
      (level first_buckets (state_of file) (address first_buckets image key)) key e))
      (λ e. ne_eqb walk.count 1 (λ one. e (right one))
      ∙ sym
      (keeps_no first_buckets (address first_buckets image key)
      (level first_buckets (state_of file) (address first_buckets image key)) key e))
      (same (hash first_buckets (level first_buckets (state_of file) (address first_buckets image key)) key)
      (address first_buckets image key))
    where
      right : walk.count ≡ 1 → hash first_buckets
          (level first_buckets (state_of file) (address first_buckets image key))
          key ≡ address first_buckets image key
      right one =
          let (h, d, count) = counted in
          (first_right first_buckets some_first (state_of file) seen.ranges.formed image formed behind key).0
          (sym (last_none (address first_buckets image key) d.rest (omega (arith, d.long))) ∙ d.ends)

  -- so the adjusted image is the image after the call
  after_is : (l : ℕ) → l ≡ level first_buckets header.state (first_met walk)
      → adjusted first_buckets image (first_met walk) l (eqb walk.count 1)
      ≡ image_after first_buckets (state_of file) image key
  after_is l el =
      (λ i. adjusted first_buckets image (walk_first i)
      ((el ∙ ap₂ (λ (s : Image) (x : ℕ). level first_buckets s x) seen.state walk_first) i) (walk_kept_first i))
      ∙ sym (image_after_is first_buckets (state_of file) image key)

  first_small : first_met walk ≤ most_buckets
  first_small = omega (
    arith,
    walk_first,
    first_exists first_buckets some_first (state_of file) seen.ranges.formed image formed behind key,
    seen.ranges.few,
    seen.ranges.figured.few_buckets,
    buckets_of_lem file,
    buckets_is first_buckets (state_of file),
  )

-- ---- a call on its way, as far as it is known

-- its reply and the buckets met are those of a refusal, or none is due
pub record OnWay (file table : List ℕ) (client key : ℕ) (walk : Walk) (r : ℕ) : Type 0 where
  pub few : walk.count ≤ 3
  pub is : r ≡ reply (on_way file table client key) 0
  pub met : noted walk ≡ met_on file table client key

-- at the key's own bucket: it exists and is sound, the route noted is the client's, the key's slot is known, and the
-- image to be written is small
pub record AtOwn (file table : List ℕ) (client key : ℕ) (header : Header) (image : Image) (walk : Walk) (a place : ℕ)
    : Type 0 where
  pub known : Known file header
  pub there : 8 * client + 8 ≤ length table
  pub recorded : record_sound table client ≡ true
  pub is : image ≡ image_of table client
  pub exists : a < buckets_of file
  pub good : bucket_sound_in file a ≡ true
  pub few : walk.count ≤ 3
  pub way : noted walk ≡ way_of file (image_of table client) key
  pub own : a ≡ own_of file key
  pub slot : place ≡ slot_of (region_of file a) key
  pub first : first_met walk ≤ most_buckets
  pub low : (adjusted_by header.state image walk).level < 256
  pub near : (adjusted_by header.state image walk).pointer < 65536
  pub after : adjusted_by header.state image walk
      ≡ image_after first_buckets (state_of file) (image_of table client) key

-- refused before any route
pub way_refused : {file table : List ℕ} {client r : ℕ} → r ≡ reply (early file table client) 0 → {key : ℕ} {walk : Walk}
    → (r ≡ 0 → ⊥) → walk.count ≡ 0 → OnWay file table client key walk r
way_refused {file} {table} {client} {r} er {key} {walk} some none = record {
  few = omega arith;
  is = sym (way_reply file table client key
      ∙ refused_on (early file table client) (early_numbered file table client) r (sym er) some _);
  met = noted_none walk none ∙ sym (met_none file table client key (λ e. some (er ∙ e)));
}

-- or walked, to an unsound bucket or to the key's own
module _ {file table : List ℕ} {client : ℕ} {header : Header} {image : Image}
    (o : Opening file table client header image)
    {key : ℕ} {walk : Walk} {a place s : ℕ} (walked : Walked file key (way_of file image key) walk a place s) where
  pub way_walked : OnWay file table client key walk s
  way_walked = record {
    few = walked.few;
    is = walked.is ∙ sym (way_reply file table client key
        ∙ passes_on (early file table client)
        (passes_back (early file table client) (early_numbered file table client) o.passed) _
        ∙ ap (λ (i : Image). cond (not (every (bucket_sound_in file) (way_of file i key))) 7 0) (sym o.is));
    met = walked.met ∙ ap (λ (i : Image). cut (bucket_sound_in file) (way_of file i key)) o.is
        ∙ sym (met_route file table client key o.passed);
  }

  pub way_own : s ≡ 0 → AtOwn file table client key header image walk a place
  way_own kept = record {
    known = o.known;
    there = o.there;
    recorded = o.recorded;
    is = o.is;
    exists = ended.there;
    good = ended.good;
    few = walked.few;
    way = ended.whole ∙ ap (λ (i : Image). way_of file i key) o.is;
    own = ended.own;
    slot = ended.slot;
    first = first_small file header o.known image o.formed o.behind key walk walked.told a place ended;
    low = omega (arith, ap (λ (i : Image). i.level) after, small);
    near = omega (arith, ap (λ (i : Image). i.pointer) after, small);
    after = after ∙ ap (λ (i : Image). image_after first_buckets (state_of file) i key) o.is;
  }
    where
      ended : Ended file key (way_of file image key) walk a place
      ended = walked.ended kept

      after : adjusted_by header.state image walk ≡ image_after first_buckets (state_of file) image key
      after = after_is file header o.known image o.formed o.behind key walk walked.told a place ended
          (level first_buckets header.state (first_met walk)) refl

      small : ((image_after first_buckets (state_of file) image key).level ≤ most_level)
          × ((image_after first_buckets (state_of file) image key).pointer ≤ most_buckets)
      small = after_small file o.known image o.formed o.behind key

-- ---- the image that is written

-- none where the first bucket kept the key: the record has it
pub kept_written : (table : List ℕ) (client : ℕ) (state image : Image) (walk : Walk) → 8 * client + 8 ≤ length table
    → record_sound table client ≡ true → image ≡ image_of table client → ((k : ℕ) → Fits w8 (get_or table k 0))
    → eqb walk.count 1 ≡ true → table ≡ with_image table client (adjusted_by state image walk)
kept_written table client state image walk fits sound e bytes kept = sym
    (ap (with_image table client)
    (ap (adjusted first_buckets image (first_met walk) (level first_buckets state (first_met walk))) kept
    ∙ adjusted_kept first_buckets image (first_met walk) (level first_buckets state (first_met walk)) ∙ e)
    ∙ written_again table client sound (λ k. (bytes k).fits) fits)

module _ (state image : Image) (walk : Walk) (sent : eqb walk.count 1 ≡ false) {l : ℕ}
    (el : l ≡ level first_buckets state (first_met walk)) {next : Image}
    (en : next ≡ adjusted first_buckets image (first_met walk) l false) where
  next_is : next ≡ adjusted_by state image walk
  next_is = en ∙ ap₂ (λ (x : ℕ) (b : Bool). adjusted first_buckets image (first_met walk) x b) el
      (sym sent)

  pub next_low : (adjusted_by state image walk).level < 256 → next.level < 256
  next_low h = omega (arith, ap (λ (i : Image). i.level) next_is, h)

  pub next_near : (adjusted_by state image walk).pointer < 65536 → next.pointer < 65536
  next_near h = omega (arith, ap (λ (i : Image). i.pointer) next_is, h)

  pub next_written : (table : List ℕ) (client : ℕ) {after : List ℕ} → after ≡ with_image table client next
      → after ≡ with_image table client (adjusted_by state image walk)
  next_written table client e = e ∙ ap (with_image table client) next_is
