-- A sound region is the encoding of its level and its rides, and nothing else is; an encoding is sound exactly if its
-- keys belong and are distinct. The one way each part of the bytes is read off, the other way it is written again.
use Prim.Native.Nat.{ℕ, zero, suc, ◌+◌, ◌*◌, ◌-◌, ◌≤◌, ◌<◌}
use Rattle.std.specs.Prelude.{◌≡◌, refl, Bool, ◌&&◌, ◌↔◌, leb, eqb, get_or, take, replicate}
use Rattle.std.proofs.Math.Path.{sym, ap, ap₂}
use Rattle.std.proofs.Common.{◌∙◌, add-zero, zero-add, add_assoc, eqb-true, eq-eqb, ne_eqb, leb-true, le-leb}
use Rattle.std.proofs.Common.{take-append-drop}
use Rattle.std.proofs.Math.Bool.{true}
use mathlib.Core.List.{List, [], ◌∷◌, ◌++◌, append_assoc}
use Rattle.std.proofs.Math.Logic.{by_cases}
use Rattle.std.proofs.Math.Decide.{ℕ_discrete}
use native.Mathlib.Omega.{arith}
use Rattle.std.proofs.Math.ListN.{length, drop, length-drop}
use Rattle.address.specs.declared.Image.{Image}
use Rattle.address.specs.Rules.{Formed, buckets, hash, address, level, keeps}
use Rattle.address.specs.Rules.Cases.{keeps_yes, keeps_no}
use Rattle.address.specs.Rules.Address.{address_own}
use Rattle.layout.specs.Bytes.{Bytes, marked, all_below, all_zero, part}
use Rattle.layout.specs.Bytes.Tests.{and_left, and_right, all_at, all_of, zero_replicate, replicate_zero}
use Rattle.layout.specs.Bytes.Edit.{part_split, part_two, part_front, drop_split, length_part, part_bytes}
use Rattle.layout.specs.Bytes.Numbers.{le_again, le_lt}
use Rattle.bucket.specs.Region.{Ride, Whole, bucket_mark, slot_mark, slot_at, count_of, level_of, head_formed}
use Rattle.bucket.specs.Region.{slot_used}
use Rattle.bucket.specs.Region.{key_at, ride_at, rides_from, rides_of, keys_of, every, distinct, head_sound, sound_with}
use Rattle.bucket.specs.Region.{bucket_sound, head_bytes, slot_bytes, slots_bytes, lay_out, encode}
use Rattle.bucket.specs.Region.Rides.{AllWhole}
use Rattle.bucket.specs.Region.Every.{every_same}
use Rattle.bucket.specs.Region.Encode.{rides_back, used_back, slots_here, rest_zero, count_back, level_back}
use Rattle.bucket.specs.Region.Encode.{head_back}

-- ---- an encoding, read

module _ (S j : ℕ) (rides : List Ride) (whole : AllWhole rides) (room : length rides ≤ S) (small : S < 65536) where
  pub count_encode : count_of (encode S j rides) ≡ length rides
  unfolding encode
  count_encode = count_back S j (length rides) rides whole (omega arith)

  pub rides_encode : rides_of (encode S j rides) ≡ rides
  unfolding rides_of encode
  rides_encode = ap (rides_from (lay_out S j (length rides) rides) 0) count_encode
      ∙ rides_back rides whole (lay_out S j (length rides) rides) 0 (replicate (24 * (S - length rides)) 0)
      (slots_here S j (length rides) rides whole)

  pub encode_sound : (own : ℕ → Bool)
      → sound_with S j own (encode S j rides) ≡ (every own (keys_of rides) && distinct (keys_of rides))
  unfolding sound_with head_sound encode
  encode_sound own = rw (formed, at_level, few, used, rest, rides_encode)
    where
      formed : head_formed (encode S j rides) ≡ true
      formed = (head_back S j (length rides) rides whole)

      at_level : eqb (level_of (encode S j rides)) j ≡ true
      at_level = eq-eqb _ _ ((level_back S j (length rides) rides whole))

      few : leb (count_of (encode S j rides)) S ≡ true
      few = le-leb (count_of (encode S j rides)) S (omega (arith, count_encode))

      used : all_below (slot_used (encode S j rides)) (count_of (encode S j rides)) ≡ true
      used = all_of (slot_used (encode S j rides)) (count_of (encode S j rides))
          (λ k h. each k (omega (arith, count_encode)))
        where
          each : (k : ℕ) → k < length rides → slot_used (encode S j rides) k ≡ true
          each k h = ap (slot_used (encode S j rides)) (sym (zero-add k))
              ∙ (used_back rides whole (lay_out S j (length rides) rides) 0 (replicate (24 * (S - length rides)) 0)
              (slots_here S j (length rides) rides whole) k h)

      rest : all_zero (drop (slot_at (count_of (encode S j rides))) (encode S j rides)) ≡ true
      rest = ap all_zero
          (ap (λ (n : ℕ). drop (slot_at n) (encode S j rides)) count_encode
          ∙ (rest_zero S j (length rides) rides whole))
          ∙ replicate_zero (24 * (S - length rides))

-- ---- a sound region, written again

-- what a sound region shows, part by part
pub record Parts (S j : ℕ) (own : ℕ → Bool) (region : List ℕ) : Type 0 where
  pub formed : head_formed region ≡ true
  pub at_level : level_of region ≡ j
  pub few : count_of region ≤ S
  pub used : all_below (slot_used region) (count_of region) ≡ true
  pub rest : all_zero (drop (slot_at (count_of region)) region) ≡ true
  pub belong : every own (keys_of (rides_of region)) ≡ true
  pub single : distinct (keys_of (rides_of region)) ≡ true

pub parts : (S j : ℕ) (own : ℕ → Bool) (region : List ℕ) → sound_with S j own region ≡ true → Parts S j own region
unfolding sound_with head_sound
parts S j own region h =
    let h4 = and_left _ _ h in
    let h3 = and_left _ _ h4 in
    let h2 = and_left _ _ h3 in
    let h1 = and_left _ _ h2 in
    let h0 = and_left _ _ h1 in
    record {
      formed = and_left _ _ h0;
      at_level = eqb-true _ _ (and_right (head_formed region) _ h0);
      few = leb-true _ _ (and_right (head_formed region && eqb (level_of region) j) _ h1);
      used = and_right (head_sound S j region) _ h2;
      rest = and_right (head_sound S j region && all_below (slot_used region) (count_of region)) _ h3;
      belong = and_right
          (head_sound S j region && all_below (slot_used region) (count_of region)
          && all_zero (drop (slot_at (count_of region)) region)) _ h4;
      single = and_right
          (head_sound S j region && all_below (slot_used region) (count_of region)
          && all_zero (drop (slot_at (count_of region)) region)
          && every own (keys_of (rides_of region))) _ h;
    }

mark_first : (region : List ℕ) (k : ℕ) → slot_used region k ≡ true → get_or region (slot_at k) 0 ≡ 76
unfolding slot_used
mark_first region k h = eqb-true _ _ (and_left _ _ h)

mark_second : (region : List ℕ) (k : ℕ) → slot_used region k ≡ true → get_or region (slot_at k + 1) 0 ≡ 82
unfolding slot_used
mark_second region k h = eqb-true _ _ (and_right (eqb (get_or region (slot_at k) 0) 76) _ h)

pub length_rides : (region : List ℕ) (k c : ℕ) → length (rides_from region k c) ≡ c
unfolding rides_from
length_rides region k zero = refl
length_rides region k (suc c) = ap suc (length_rides region (suc k) c)

-- a slot holds a whole ride, and a slot in use is that ride's bytes
module _ (region : List ℕ) (bytes : Bytes region) where
  pub ride_whole : (k : ℕ) → slot_at k + 24 ≤ length region → Whole (ride_at region k)
  unfolding ride_at key_at
  ride_whole k fits = record {
    small = le_lt 8 region (slot_at k + 2) bytes;
    long = length_part (slot_at k + 10) 14 region (omega arith);
    bytes = part_bytes (slot_at k + 10) 14 region (omega arith) bytes;
  }

  pub rides_whole : (k c : ℕ) → slot_at (k + c) ≤ length region → AllWhole (rides_from region k c)
  unfolding rides_from
  rides_whole k zero fits = tt
  rides_whole k (suc c) fits = (ride_whole k (omega arith), rides_whole (suc k) c (omega arith))

  pub slot_again : (k : ℕ) → slot_at k + 24 ≤ length region → slot_used region k ≡ true
      → part (slot_at k) 24 region ≡ slot_bytes (ride_at region k)
  unfolding slot_bytes ride_at key_at
  slot_again k fits used =
      part_split (slot_at k) 2 22 region
      ∙ ap₂ ◌++◌ mark
      (part_split (slot_at k + 2) 8 14 region
      ∙ ap₂ ◌++◌ (sym (le_again 8 region (slot_at k + 2) bytes (omega arith)))
      (ap (λ (n : ℕ). part n 14 region) (add_assoc (slot_at k) 2 8)))
    where
      mark : part (slot_at k) 2 region ≡ slot_mark
      mark = part_two (slot_at k) region (omega arith)
          ∙ ap₂ (λ (x y : ℕ). x ∷ y ∷ []) (mark_first region k used) (mark_second region k used)

-- the bytes of a well formed head
record HeadParts (region : List ℕ) : Type 0 where
  first : get_or region 0 0 ≡ 76
  second : get_or region 1 0 ≡ 66
  third : get_or region 3 0 ≡ 0
  sixth : get_or region 6 0 ≡ 0
  seventh : get_or region 7 0 ≡ 0

head_parts : (region : List ℕ) → head_formed region ≡ true → HeadParts region
unfolding head_formed
head_parts region h =
    let h3 = and_left _ _ h in
    let h2 = and_left _ _ h3 in
    let h1 = and_left _ _ h2 in
    record {
      first = eqb-true _ _ (and_left _ _ h1);
      second = eqb-true _ _ (and_right (eqb (get_or region 0 0) 76) _ h1);
      third = eqb-true _ _ (and_right (marked region 0 bucket_mark) _ h2);
      sixth = eqb-true _ _ (and_right (marked region 0 bucket_mark && eqb (get_or region 3 0) 0) _ h3);
      seventh = eqb-true _ _
          (and_right (marked region 0 bucket_mark && eqb (get_or region 3 0) 0 && eqb (get_or region 6 0) 0) _ h);
    }

module _ (S j : ℕ) (own : ℕ → Bool) (region : List ℕ) (bytes : Bytes region) (long : length region ≡ slot_at S)
    (sound : Parts S j own region) where
  slots_again : (k c : ℕ) → k + c ≤ count_of region
      → drop (slot_at k) region ≡ slots_bytes (rides_from region k c) ++ drop (slot_at (k + c)) region
  unfolding rides_from slots_bytes
  slots_again k zero h = ap (λ (n : ℕ). drop (slot_at n) region) (sym (add-zero k))
  slots_again k (suc c) h =
      drop_split (slot_at k) 24 region
      ∙ ap₂ ◌++◌
      (slot_again region bytes k (omega (arith, sound.few))
      (all_at (slot_used region) (count_of region) k sound.used (omega arith)))
      (ap (λ (n : ℕ). drop n region) next ∙ slots_again (suc k) c (omega arith)
      ∙ ap (λ (n : ℕ). slots_bytes (rides_from region (suc k) c) ++ drop (slot_at n) region) moved)
      ∙ sym
      (append_assoc (slot_bytes (ride_at region k)) (slots_bytes (rides_from region (suc k) c))
      (drop (slot_at (k + suc c)) region))
    where
      next : slot_at k + 24 ≡ slot_at (suc k)
      next = omega arith

      moved : suc k + c ≡ k + suc c
      moved = omega arith

  head_again : take 8 region ≡ head_bytes j (count_of region)
  unfolding head_bytes
  head_again =
      sym (part_front 8 region)
      ∙ part_split 0 2 6 region
      ∙ ap₂ ◌++◌ (part_two 0 region (omega arith) ∙ ap₂ (λ (x y : ℕ). x ∷ y ∷ []) head.first head.second)
      (part_split 2 2 4 region
      ∙ ap₂ ◌++◌ (part_two 2 region (omega arith) ∙ ap₂ (λ (x y : ℕ). x ∷ y ∷ []) sound.at_level head.third)
      (part_split 4 2 2 region
      ∙ ap₂ ◌++◌ (sym (le_again 2 region 4 bytes (omega arith)))
      (part_two 6 region (omega arith) ∙ ap₂ (λ (x y : ℕ). x ∷ y ∷ []) head.sixth head.seventh)))
    where
      head : HeadParts region
      head = head_parts region sound.formed

  pub sound_count : length (rides_of region) ≡ count_of region
  unfolding rides_of
  sound_count = length_rides region 0 (count_of region)

  pub sound_whole : AllWhole (rides_of region)
  unfolding rides_of
  sound_whole = rides_whole region bytes 0 (count_of region) (omega (arith, sound.few))

  pub sound_encode : region ≡ encode S j (rides_of region)
  unfolding encode lay_out rides_of
  sound_encode =
      sym (take-append-drop 8 region)
      ∙ ap₂ ◌++◌ (head_again ∙ ap (head_bytes j) (sym sound_count))
      (slots_again 0 (count_of region) (omega arith) ∙ ap (λ (l : List ℕ). slots_bytes (rides_of region) ++ l) tail)
    where
      left : length (drop (slot_at (count_of region)) region) ≡ 24 * (S - length (rides_of region))
      left = omega (arith, length-drop (slot_at (count_of region)) region, sound_count, sound.few)

      tail : drop (slot_at (0 + count_of region)) region ≡ replicate (24 * (S - length (rides_of region))) 0
      tail = ap (λ (n : ℕ). drop (slot_at n) region) (zero-add (count_of region))
          ∙ zero_replicate (drop (slot_at (count_of region)) region) sound.rest
          ∙ ap (λ (n : ℕ). replicate n 0) left

-- ---- bucket a of a file is judged by its own number and level alone

pub bucket_judged : (N : ℕ) → 0 < N → (s : Image) → Formed N s → (S a : ℕ) → a < buckets N s → (region : List ℕ)
    → bucket_sound N s S a region ≡ sound_with S (level N s a) (keeps N a (level N s a)) region
unfolding bucket_sound sound_with
bucket_judged N positive s formed S a exists region =
    ap (λ (b : Bool). head_sound S (level N s a) region && all_below (slot_used region) (count_of region)
    && all_zero (drop (slot_at (count_of region)) region)
    && b && distinct (keys_of (rides_of region)))
    (every_same (λ key. eqb (address N s key) a) (keeps N a (level N s a)) same (keys_of (rides_of region)))
  where
    own : (key : ℕ) → address N s key ≡ a ↔ hash N (level N s a) key ≡ a
    own key = address_own N positive s formed a key exists

    same : (key : ℕ) → eqb (address N s key) a ≡ keeps N a (level N s a) key
    same key = by_cases (ℕ_discrete (address N s key) a)
        (λ e. eq-eqb (address N s key) a e ∙ sym (keeps_yes N a (level N s a) key ((own key).0 e)))
        (λ e. ne_eqb (address N s key) a e ∙ sym (keeps_no N a (level N s a) key (λ h. e ((own key).1 h))))

pub bucket_parts : (N : ℕ) (s : Image) (S a : ℕ) (region : List ℕ) → bucket_sound N s S a region ≡ true
    → Parts S (level N s a) (λ key. eqb (address N s key) a) region
unfolding bucket_sound
bucket_parts N s S a region h = parts S (level N s a) (λ key. eqb (address N s key) a) region h

pub bucket_few : (N : ℕ) (s : Image) (S a : ℕ) (region : List ℕ) → bucket_sound N s S a region ≡ true
    → count_of region ≤ S
bucket_few N s S a region h = (bucket_parts N s S a region h).few

-- an empty bucket is sound at its level
pub empty_sound : (N : ℕ) (s : Image) (S a j : ℕ) → S < 65536 → level N s a ≡ j
    → bucket_sound N s S a (encode S j []) ≡ true
unfolding bucket_sound keys_of every distinct
empty_sound N s S a j small e = ap (λ (k : ℕ). sound_with S k (λ key. eqb (address N s key) a) (encode S j [])) e
    ∙ encode_sound S j [] tt (omega arith) small (λ key. eqb (address N s key) a)
