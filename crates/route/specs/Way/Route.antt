-- A route walked bucket by bucket: what is noted so far and what is still to come are the whole route, cut after its
-- first unsound bucket.
use Rattle.std.specs.Prelude.{ℕ, suc, ◌+◌, ◌-◌, ◌≤◌, ◌<◌, ◌≡◌, refl, Bool, true, false, cond, not}
use Rattle.std.specs.Prelude.{Option, Some, None, is_some, length}
use Rattle.std.proofs.lemmas.List.{length_push}
use Rattle.std.proofs.lemmas.Option.{cond_some}
use Rattle.std.proofs.Common.{sym, ap₂, subst, ◌∙◌, ⊎_elim, arith}
use Rattle.std.proofs.Math.Path.{ap}
use mathlib.Core.List.{List, [], ◌∷◌, ◌++◌, append_assoc}
use Rattle.address.specs.Limits.{first_buckets, most_level}
use Rattle.address.specs.Room.{Room, ImageRoom}
use Rattle.address.specs.declared.Image.{Image}
use Rattle.address.specs.Rules.{Formed, NotAhead, buckets, hash, address, level, onward, fate, route, route_from}
use Rattle.address.specs.Compare.{same}
use Rattle.address.specs.Rules.Cases.{buckets_is, level_high, fate_kept, fate_sent, fate_stopped}
use Rattle.address.specs.declared.Fate.{Fate}
use Rattle.address.specs.declared.Fate.TheVariants.{Keep, SendOn, Unsound}
use Rattle.address.specs.Rules.Address.{address_own}
use Rattle.address.specs.Rules.Route.{Reaches, kept, sent, reaches, reaches_room, route_is, route_kept, route_sent}
use Rattle.bucket.specs.Region.{slot_of, every}
use Rattle.file.specs.File.Region.{some_told}
use Rattle.bucket.specs.Region.Every.{every_none, every_first, every_rest, every_next, every_fails, every_past}
use Rattle.file.specs.File.{state_of, buckets_of, region_of, bucket_sound_in}
use Rattle.file.specs.File.Judge.{Known, buckets_of_lem}
use Rattle.file.specs.declared.Header.{Header}
use Rattle.route.specs.declared.walk.Walk.{Walk}
use Rattle.route.specs.Way.{cut, way_of, own_of, noted}
use Rattle.route.specs.Way.Noted.{noted_none}
use Rattle.route.specs.Way.Own.{own_is}

-- a file has a first bucket
some_first : 0 < first_buckets
some_first = omega arith

-- a cut passes over buckets that pass, and stops at one that fails
pub cut_past : (test : ℕ → Bool) (xs ys : List ℕ) → every test xs ≡ true → cut test (xs ++ ys) ≡ xs ++ cut test ys
unfolding cut
cut_past test [] ys h = refl
cut_past test (a ∷ xs) ys h = rw (every_first test a xs h)
    (ap (λ (l : List ℕ). a ∷ l) (cut_past test xs ys (every_rest test a xs h)))

pub cut_none : (test : ℕ → Bool) (way : List ℕ) → every test way ≡ true → cut test way ≡ way
unfolding cut
cut_none test [] h = refl
cut_none test (a ∷ way) h = rw (every_first test a way h)
    (ap (λ (l : List ℕ). a ∷ l) (cut_none test way (every_rest test a way h)))

pub cut_fails : (test : ℕ → Bool) (a : ℕ) (ys : List ℕ) → test a ≡ false → cut test (a ∷ ys) ≡ a ∷ []
unfolding cut
cut_fails test a ys h = rw h

pub cut_one : (test : ℕ → Bool) (a : ℕ) → cut test (a ∷ []) ≡ a ∷ []
unfolding cut
cut_one test a = go (test a)
  where
    go : (b : Bool) → a ∷ cond b [] [] ≡ a ∷ []
    go true = refl
    go false = refl

-- ---- a walk on its way to bucket a

pub way_route : (file : List ℕ) (image : Image) (key : ℕ)
    → way_of file image key ≡ route first_buckets (state_of file) image key
unfolding way_of
way_route file image key = refl

-- the route from a first bucket
pub way_from : List ℕ → ℕ → ℕ → List ℕ
way_from file key start = route_from first_buckets (state_of file) key (buckets first_buckets (state_of file)) start

pub way_is : (file : List ℕ) (image : Image) (key start : ℕ) → start ≡ address first_buckets image key
    → way_from file key start ≡ way_of file image key
unfolding way_from
way_is file image key start e = ap
    (route_from first_buckets (state_of file) key (buckets first_buckets (state_of file))) e
    ∙ sym (way_route file image key ∙ route_is first_buckets (state_of file) image key)

pub record Walking (file : List ℕ) (key : ℕ) (way : List ℕ) (walk : Walk) (a : ℕ) : Type 0 where
  pub left : ℕ
  pub most : ℕ
  pub reached : Reaches first_buckets (state_of file) key a left
  pub room : left < most
  pub few : walk.count + left ≤ 2
  pub told : length (noted walk) ≡ walk.count
  pub whole : way ≡ noted walk ++ route_from first_buckets (state_of file) key most a
  pub fine : every (bucket_sound_in file) (noted walk) ≡ true

-- what is known of a walk that reached the key's own bucket
pub record Ended (file : List ℕ) (key : ℕ) (way : List ℕ) (walk : Walk) (a place : ℕ) : Type 0 where
  pub some : 1 ≤ walk.count
  pub there : a < buckets_of file
  pub good : bucket_sound_in file a ≡ true
  pub own : a ≡ own_of file key
  pub whole : noted walk ≡ way
  pub slot : place ≡ slot_of (region_of file a) key

-- what a walk that ended tells: the route up to its first unsound bucket, and 7 if there is one
pub record Walked (file : List ℕ) (key : ℕ) (way : List ℕ) (walk : Walk) (a place r : ℕ) : Type 0 where
  pub few : walk.count ≤ 3
  pub told : length (noted walk) ≡ walk.count
  pub is : r ≡ cond (not (every (bucket_sound_in file) way)) 7 0
  pub met : noted walk ≡ cut (bucket_sound_in file) way
  pub ended : r ≡ 0 → Ended file key way walk a place

module _ (file : List ℕ) (key : ℕ) (formed : Formed first_buckets (state_of file)) where
  -- a walk starts at the client's first bucket
  walking_start : (image : Image) (walk : Walk) → walk.count ≡ 0 → Formed first_buckets image
      → NotAhead first_buckets (state_of file) image
      → (start : ℕ) → start ≡ address first_buckets image key → Walking file key (way_from file key start) walk start
  unfolding way_from
  walking_start image walk none image_formed behind start es =
      let (h, short, r) = reaches first_buckets some_first (state_of file) formed image image_formed behind key in
      record {
        left = h;
        most = buckets first_buckets (state_of file);
        reached = rw es r;
        room = omega (arith, reaches_room first_buckets some_first (state_of file) formed r);
        few = omega arith;
        told = ap length (noted_none walk none) ∙ sym none;
        whole = ap
            (λ (l : List ℕ). l ++ route_from first_buckets (state_of file) key (buckets first_buckets (state_of file))
            start)
            (sym (noted_none walk none));
        fine = ap (every (bucket_sound_in file)) (noted_none walk none) ∙ every_none (bucket_sound_in file);
      }

  -- the bucket that a walk is at exists
  walking_exists : (way : List ℕ) (walk : Walk) (a : ℕ) → Walking file key way walk a → a < buckets_of file
  walking_exists way walk a so = omega (
    arith,
    reaches_room first_buckets some_first (state_of file) formed so.reached,
    buckets_of_lem file,
    buckets_is first_buckets (state_of file),
  )

  module _ (way : List ℕ) (walk next : Walk) (a : ℕ) (so : Walking file key way walk a)
      (noting : noted next ≡ noted walk ++ (a ∷ [])) (counted : next.count ≡ walk.count + 1) where
    -- the count stays that of what is noted
    told : length (noted next) ≡ next.count
    told = ap length noting ∙ length_push (noted walk) a ∙ ap (λ (n : ℕ). n + 1) so.told ∙ sym counted

    again : so.most ≡ suc (so.most - 1)
    again = omega (arith, so.room)

    -- the rest of the route starts with it
    first : (rest : List ℕ) × (route_from first_buckets (state_of file) key so.most a ≡ a ∷ rest)
    first = ⊎_elim
        (λ e. (
          [],
          ap (λ (n : ℕ). route_from first_buckets (state_of file) key n a) again
              ∙ route_kept first_buckets (state_of file) key (so.most - 1) a e,
        ))
        (λ e. (
          route_from first_buckets (state_of file) key (so.most - 1)
              (onward first_buckets a (level first_buckets (state_of file) a) key),
          ap (λ (n : ℕ). route_from first_buckets (state_of file) key n a) again
              ∙ route_sent first_buckets (state_of file) key (so.most - 1) a e,
        ))
        (same (hash first_buckets (level first_buckets (state_of file) a) key) a)

    walk_stopped : bucket_sound_in file a ≡ false → {place : ℕ} → Walked file key way next a place 7
    walk_stopped bad =
        let (rest, e) = first in
        let is : way ≡ noted walk ++ (a ∷ rest) = so.whole ∙ ap (λ (l : List ℕ). noted walk ++ l) e in
        record {
          few = omega (arith, so.few);
          told = told;
          is = ap (λ (b : Bool). cond (not b) 7 0)
              (sym (ap (every (bucket_sound_in file)) is
              ∙ every_past (bucket_sound_in file) (noted walk) (a ∷ rest) so.fine
              ∙ every_fails (bucket_sound_in file) a rest bad));
          met = noting
              ∙ sym
              (ap (cut (bucket_sound_in file)) is ∙ cut_past (bucket_sound_in file) (noted walk) (a ∷ rest) so.fine
              ∙ ap (λ (l : List ℕ). noted walk ++ l) (cut_fails (bucket_sound_in file) a rest bad));
          ended = λ e. absurd (omega (arith, e));
        }

    walk_kept : bucket_sound_in file a ≡ true → hash first_buckets (level first_buckets (state_of file) a) key ≡ a
        → {place : ℕ} → place ≡ slot_of (region_of file a) key → Walked file key way next a place 0
    walk_kept good keeps ep =
        let is : way ≡ noted walk ++ (a ∷ []) =
        so.whole ∙ ap (λ (n : ℕ). noted walk ++ route_from first_buckets (state_of file) key n a) again
        ∙ ap (λ (l : List ℕ). noted walk ++ l) (route_kept first_buckets (state_of file) key (so.most - 1) a keeps) in
        record {
          few = omega (arith, so.few);
          told = told;
          is = ap (λ (b : Bool). cond (not b) 7 0)
              (sym (ap (every (bucket_sound_in file)) is
              ∙ every_past (bucket_sound_in file) (noted walk) (a ∷ []) so.fine
              ∙ every_next (bucket_sound_in file) a [] good ∙ every_none (bucket_sound_in file)));
          met = noting
              ∙ sym (ap (cut (bucket_sound_in file)) is ∙ cut_past (bucket_sound_in file) (noted walk) (a ∷ []) so.fine
              ∙ ap (λ (l : List ℕ). noted walk ++ l) (cut_one (bucket_sound_in file) a));
          ended = λ h.
              record {
                some = omega arith;
                there = walking_exists way walk a so;
                good = good;
                own = sym (own_is file key a ((address_own first_buckets some_first (state_of file) formed a key
                    (omega (
                      arith,
                      walking_exists way walk a so,
                      buckets_of_lem file,
                      buckets_is first_buckets
                          (state_of file),
                    ))).1 keeps));
                whole = noting ∙ sym is;
                slot = ep;
              };
        }

    walk_sent : (b : ℕ) → bucket_sound_in file a ≡ true
        → (hash first_buckets (level first_buckets (state_of file) a) key ≡ a → ⊥)
        → onward first_buckets a (level first_buckets (state_of file) a) key ≡ b
        → Walking file key way next b × (next.count ≤ 2)
    walk_sent b good leaves e = go so.left so.reached so.room so.few
      where
        go : (h : ℕ) → Reaches first_buckets (state_of file) key a h → h < so.most → walk.count + h ≤ 2
            → Walking file key way next b × (next.count ≤ 2)
        go h (kept exists keeps) room few = absurd (leaves keeps)
        go h (sent {b = c} {h = k} exists away to up rest) room few = (
          record {
            left = k;
            most = so.most - 1;
            reached = rw (sym e ∙ to) rest;
            room = omega arith;
            few = omega arith;
            told = told;
            whole = so.whole ∙ ap (λ (n : ℕ). noted walk ++ route_from first_buckets (state_of file) key n a) again
                ∙ ap (λ (l : List ℕ). noted walk ++ l)
                (route_sent first_buckets (state_of file) key (so.most - 1) a leaves)
                ∙ sym
                (append_assoc (noted walk) (a ∷ [])
                (route_from first_buckets (state_of file) key (so.most - 1)
                (onward first_buckets a (level first_buckets (state_of file) a) key)))
                ∙ ap₂ (λ (l : List ℕ) (x : ℕ). l ++ route_from first_buckets (state_of file) key (so.most - 1) x)
                (sym noting) e;
            fine = ap (every (bucket_sound_in file)) noting
                ∙ every_past (bucket_sound_in file) (noted walk) (a ∷ []) so.fine
                ∙ every_next (bucket_sound_in file) a [] good ∙ every_none (bucket_sound_in file);
          },
          omega arith,
        )

-- the code asks room for its figures
pub behind_room : {file : List ℕ} {header : Header} {image : Image} → Known file header → image.level ≤ most_level
    → NotAhead first_buckets (state_of file) image → ImageRoom first_buckets image
behind_room {file} {header} {image} seen low behind = record {
  levels = record { some = omega arith; few = omega arith; low = omega arith };
  near = omega (
    arith,
    buckets_is first_buckets image,
    buckets_is first_buckets (state_of file),
    buckets_of_lem file,
    seen.ranges.few,
    seen.ranges.figured.few_buckets,
  );
}

pub level_room : (state : Image) (a : ℕ) → ImageRoom first_buckets state → {l : ℕ} → l ≡ level first_buckets state a
    → Room first_buckets l
level_room state a room el = record {
  some = omega arith;
  few = omega arith;
  low = omega (arith, level_high first_buckets state a, room.levels.low);
}

-- the walking function's way: its start, and what it does by the fate that the key meets at a bucket
module _ {file : List ℕ} {header : Header} (seen : Known file header) where
  pub walk_starts : (image : Image) → Formed first_buckets image → NotAhead first_buckets (state_of file) image
      → {walk : Walk} → walk.count ≡ 0 → {key start : ℕ} → start ≡ address first_buckets image key
      → Walking file key (way_from file key start) walk start
  walk_starts image formed behind {walk} none {key} {start} es =
      walking_start file key seen.ranges.formed image walk none formed behind start es

  pub walk_there : {way : List ℕ} {key : ℕ} {walk : Walk} {a : ℕ} → Walking file key way walk a → a < buckets_of file
  walk_there {way} {key} {walk} {a} so = walking_exists file key seen.ranges.formed way walk a so

  module _ {way : List ℕ} {key : ℕ} {walk : Walk} {a : ℕ} (so : Walking file key way walk a) (next : Walk)
      (noting : noted next ≡ noted walk ++ (a ∷ [])) (counted : next.count ≡ walk.count + 1) where
    module _ {judged : Option ℕ}
        (is : judged ≡ cond (bucket_sound_in file a) (Some (slot_of (region_of file a) key)) None) {sound : Bool}
        (asked : sound ≡ is_some judged) {l : ℕ} (el : l ≡ level first_buckets header.state a) {f : Fate}
        (ef : f ≡ fate first_buckets sound a l key) where
      es : sound ≡ bucket_sound_in file a
      es = some_told (bucket_sound_in file a) (slot_of (region_of file a) key) is asked

      at_level : level first_buckets (state_of file) a ≡ l
      at_level = sym (el ∙ ap (λ (s : Image). level first_buckets s a) seen.state)

      pub walk_keeps : {place : ℕ} → judged ≡ Some place → f ≡ Keep → Walked file key way next a place 0
      walk_keeps {place} found e =
          let (good, keeps) = fate_kept first_buckets a l key sound (sym ef ∙ e) in
          walk_kept file key seen.ranges.formed way walk next a so noting counted (sym es ∙ good)
          (ap (λ (k : ℕ). hash first_buckets k key) at_level ∙ keeps)
          (sym (cond_some (bucket_sound_in file a) _ place (sym is ∙ found)).1)

      pub walk_stops : {place : ℕ} → f ≡ Unsound → Walked file key way next a place 7
      walk_stops e = walk_stopped file key seen.ranges.formed way walk next a so noting counted
          (sym es ∙ fate_stopped first_buckets a l key sound (sym ef ∙ e))

      pub walk_lost : {place : ℕ} → judged ≡ None → Walked file key way next a place 7
      walk_lost none = walk_stopped file key seen.ranges.formed way walk next a so noting counted
          (sym es ∙ asked ∙ ap is_some none)

      sends : {b : ℕ} → f ≡ SendOn b → Walking file key way next b × (next.count ≤ 2)
      sends {b} e =
          let (good, leaves, to) = fate_sent first_buckets a l key sound b (sym ef ∙ e) in
          walk_sent file key seen.ranges.formed way walk next a so noting counted b (sym es ∙ good)
          (λ h. leaves (ap (λ (k : ℕ). hash first_buckets k key) (sym at_level) ∙ h))
          (ap (λ (k : ℕ). onward first_buckets a k key) at_level ∙ to)

      pub walk_sends : {b : ℕ} → f ≡ SendOn b → Walking file key way next b
      walk_sends e = (sends e).0

      pub walk_short : {b : ℕ} → f ≡ SendOn b → next.count ≤ 2
      walk_short e = (sends e).1

-- the route from the client's first bucket is the client's
pub walked_way : {file : List ℕ} {key start : ℕ} {walk : Walk} {a place r : ℕ} (image : Image)
    → start ≡ address first_buckets image key → Walked file key (way_from file key start) walk a place r
    → Walked file key (way_of file image key) walk a place r
walked_way {file} {key} {start} {walk} {a} {place} {r} image es =
    subst (λ (way : List ℕ). Walked file key way walk a place r) (way_is file image key start es)

-- a walk that stopped says nothing of a bucket and a place
pub stopped_any : {file : List ℕ} {key : ℕ} {way : List ℕ} {walk : Walk} {a place : ℕ}
    → Walked file key way walk a place 7 → {b k : ℕ} → Walked file key way walk b k 7
stopped_any w = record { few = w.few; told = w.told; is = w.is; met = w.met; ended = λ e. absurd (omega (arith, e)) }
