-- A split: the rides that move are just those that belong to the new bucket, and the writes in turn are the divided
-- file.
use Prim.Native.Nat.{ℕ, suc, ◌+◌, ◌≤◌, ◌<◌}
use Rattle.std.specs.Prelude.{◌≡◌, refl, Bool, true, false, cond, not, ◌⊎◌, leb, eqb, length, None}
use Rattle.std.proofs.Common.{sym, subst, ◌∙◌, inl, inr, ⊎_elim, arith}
use Rattle.std.proofs.Math.Path.{ap, ap₂}
use mathlib.Core.List.{List, [], ◌∷◌}
use Rattle.std.proofs.Math.Numerals.{add-one}
use borrow.Author.Tests.{eqb-true, le-leb, lt-leb, not-true, not-false}
use Rattle.address.specs.Compare.{below}
use Rattle.address.specs.Limits.{first_buckets, no_bucket, most_level, most_buckets}
use Rattle.address.specs.declared.Image.{Image}
use Rattle.address.specs.Room.{Room}
use Rattle.address.specs.Rules.{Formed, buckets, address, keeps, splitting, newborn, grown}
use Rattle.address.specs.Rules.Hash.{span_pos}
use Rattle.address.specs.Rules.Cases.{keeps_yes, keeps_no, newborn_is}
use Rattle.address.specs.Rules.Grow.{grown_formed, grown_buckets}
use Rattle.address.proofs.Rules.Grow.{divided_cases, newborn_next}
use Rattle.layout.specs.Bytes.{Bytes, all_zero, edit, part}
use Rattle.layout.specs.Replies.{refuse, reply, reply_none, reply_here, reply_past}
use Rattle.bucket.specs.Region.{Ride, slot_at, count_of, rides_of, keys_of, every, encode, kept, halved}
use Rattle.bucket.specs.Region.Divide.{Halves}
use Rattle.bucket.specs.Region.Rides.{kept_whole, kept_lengths}
use Rattle.bucket.specs.Region.Encode.{length_encode}
use Rattle.bucket.specs.Region.Keep.{kept_agree}
use Rattle.file.specs.declared.Header.{Header}
use Rattle.file.specs.File.{most_of, slots_of, state_of, buckets_of, header_sound, start_of, region_of, bucket_sound_in}
use Rattle.file.specs.File.{with_region, with_state, staying, divided, SplitOutcome, split, header_of}
use Rattle.file.specs.File.Judge.{Known, buckets_of_lem, state_small, unknown}
use Rattle.file.specs.File.Region.{region_is, region_apart, region_fits, buckets_known}
use Rattle.file.specs.File.Write.{with_slots, Shown, shown}

-- of the keys of bucket n, those whose h_{i+1} is not n are those that belong to the new bucket
pub moves : (s : Image) → Formed first_buckets s → (rides : List Ride)
    → every (λ key. eqb (address first_buckets s key) (splitting s)) (keys_of rides) ≡ true
    → kept (keeps first_buckets (newborn first_buckets s) (suc s.level)) rides
    ≡ kept (λ key. not (staying s key)) rides
unfolding staying
moves s formed rides all = kept_agree (λ key. eqb (address first_buckets s key) (splitting s))
    (keeps first_buckets (newborn first_buckets s) (suc s.level))
    (λ key. not (keeps first_buckets (splitting s) (suc s.level) key)) rides all agree
  where
    apart : newborn first_buckets s ≡ splitting s → ⊥
    apart e = omega (arith, newborn_is first_buckets s, span_pos first_buckets (omega arith) s.level)

    agree : (key : ℕ) → eqb (address first_buckets s key) (splitting s) ≡ true
        → keeps first_buckets (newborn first_buckets s) (suc s.level) key
        ≡ not (keeps first_buckets (splitting s) (suc s.level) key)
    agree key own = ⊎_elim
        (λ e. keeps_no first_buckets (newborn first_buckets s) (suc s.level) key (λ h. apart (sym h ∙ e))
        ∙ sym (ap not (keeps_yes first_buckets (splitting s) (suc s.level) key e)))
        (λ e. keeps_yes first_buckets (newborn first_buckets s) (suc s.level) key e
        ∙ sym (ap not (keeps_no first_buckets (splitting s) (suc s.level) key (λ h. apart (sym e ∙ h)))))
        (divided_cases first_buckets (omega arith) s formed key
        (eqb-true (address first_buckets s key) (splitting s) own))

-- where the two buckets of a split lie
module _ (file : List ℕ) (header : Header) (seen : Known file header) where
  pub split_number : {old : ℕ} → old ≡ splitting header.state → old ≡ splitting (state_of file)
  split_number eo = eo ∙ ap (λ (s : Image). splitting s) seen.state

  pub split_born : {new : ℕ} → new ≡ newborn first_buckets header.state → new ≡ newborn first_buckets (state_of file)
  split_born en = en ∙ ap (newborn first_buckets) seen.state

  pub old_exists : {old : ℕ} → old ≡ splitting header.state → old < buckets_of file
  old_exists eo = omega (
    arith,
    split_number eo,
    buckets_of_lem file,
    seen.ranges.formed,
    span_pos first_buckets (omega arith) (state_of file).level,
  )

  pub old_low : {old : ℕ} → old ≡ splitting header.state → old ≤ most_buckets
  old_low eo = omega (arith, old_exists eo, seen.ranges.few, seen.ranges.figured.few_buckets)

  pub new_next : {new : ℕ} → new ≡ newborn first_buckets header.state → new ≡ buckets_of file
  unfolding buckets_of
  new_next en = split_born en ∙ newborn_next first_buckets (omega arith) (state_of file) seen.ranges.formed

  pub level_next : Room first_buckets (header.state.level + 1)
  level_next = record { some = omega arith; few = omega arith; low = omega (arith, seen.room.levels.low) }

  pub still_headed : (after : List ℕ) → length after ≡ length file → 16 ≤ length after
  still_headed after e = omega (arith, e, seen.ranges.figured.whole)

  module _ (more : buckets_of file < most_of file) where
    pub new_there : {new : ℕ} → new ≡ newborn first_buckets header.state → new < most_of file
    new_there en = omega (arith, new_next en)

    pub new_low : {new : ℕ} → new ≡ newborn first_buckets header.state → new ≤ most_buckets
    new_low en = omega (arith, new_there en, seen.ranges.figured.few_buckets)

    -- the state that a split leaves is small
    grown_small : ((grown first_buckets header.state).level ≤ most_level)
        × ((grown first_buckets header.state).pointer ≤ most_buckets)
    unfolding buckets_of
    grown_small = rw seen.state
        (state_small (grown first_buckets (state_of file)) (most_of file) seen.ranges.figured.few_buckets
        (grown_formed first_buckets (omega arith) (state_of file) seen.ranges.formed)
        (omega (arith, grown_buckets first_buckets (omega arith) (state_of file) seen.ranges.formed)))

    module _ {state : Image} (es : state ≡ grown first_buckets header.state) where
      pub grown_level : state.level < 256
      grown_level = omega (arith, grown_small, ap (λ (s : Image). s.level) es)

      pub grown_pointer : state.pointer < 65536
      grown_pointer = omega (arith, grown_small, ap (λ (s : Image). s.pointer) es)

-- the two regions of a split, one before the other, and what is written
module _ (file : List ℕ) (bytes : Bytes file) (header : Header) (seen : Known file header)
    (more : buckets_of file < most_of file) {old new : ℕ}
    (eo : old ≡ splitting header.state) (en : new ≡ newborn first_buckets header.state)
    (sound : bucket_sound_in file old ≡ true) {from to : ℕ}
    (ef : from ≡ start_of header.slots old) (et : to ≡ start_of header.slots new) where
  number : old ≡ splitting (state_of file)
  number = split_number file header seen eo

  from_is : from ≡ start_of (slots_of file) old
  from_is = ef ∙ ap (λ (S : ℕ). start_of S old) seen.slots

  to_is : to ≡ start_of (slots_of file) new
  to_is = et ∙ ap (λ (S : ℕ). start_of S new) seen.slots

  source : part from (slot_at header.slots) file ≡ region_of file old
  source = ap₂ (λ (p S : ℕ). part p (slot_at S) file) from_is seen.slots ∙ sym (region_is file old)

  bucket : Shown file old
  bucket = shown file seen.ranges bytes old (old_exists file header seen eo) sound

  pub split_halves : Halves file header.slots from to (count_of (part from (slot_at header.slots) file))
  split_halves = record {
    bytes = bytes;
    apart = omega (
      arith,
      from_is,
      to_is,
      seen.slots,
      region_apart (slots_of file) old new
          (omega (arith, old_exists file header seen eo, new_next file header seen en)),
    );
    fits = omega (
      arith,
      to_is,
      seen.slots,
      region_fits file seen.ranges new (new_there file header seen more en),
    );
    few = omega (arith, ap count_of source, bucket.parts.few, seen.slots);
    used = rw source bucket.parts.used;
  }

  -- the old bucket's bytes, and where the new ones are written
  staying_bytes : List ℕ
  staying_bytes = encode (slots_of file) (suc (state_of file).level)
      (kept (keeps first_buckets (splitting (state_of file)) (suc (state_of file).level))
      (rides_of (region_of file (splitting (state_of file)))))

  staying_long : length staying_bytes ≡ slot_at (slots_of file)
  unfolding staying_bytes
  staying_long = length_encode (slots_of file) (suc (state_of file).level) _
      (kept_whole test (rides_of region) there.whole)
      (omega (arith, kept_lengths test (rides_of region), there.count, there.parts.few))
    where
      region : List ℕ
      region = region_of file (splitting (state_of file))

      test : ℕ → Bool
      test = keeps first_buckets (splitting (state_of file)) (suc (state_of file).level)

      there : Shown file (splitting (state_of file))
      there = subst (Shown file) number bucket

  to_there : to ≡ start_of (slots_of (with_region file (splitting (state_of file)) staying_bytes))
      (newborn first_buckets (state_of file))
  to_there = to_is ∙ ap₂ start_of
      (sym (with_slots file seen.ranges (splitting (state_of file))
      (omega (arith, old_exists file header seen eo, number)) staying_bytes staying_long))
      (split_born file header seen en)

  pub split_written : {two three : List ℕ} {state : Image}
      → two ≡ halved (keeps first_buckets old (header.state.level + 1)) header.slots (header.state.level + 1)
      from to file
      → state ≡ grown first_buckets header.state
      → three ≡ with_state two state
      → three ≡ divided file
  unfolding divided staying with_region staying_bytes
  split_written e2 es e3 = e3 ∙ ap₂ with_state (e2 ∙ written) (es ∙ ap (grown first_buckets) seen.state)
    where
      up : header.state.level + 1 ≡ suc (state_of file).level
      up = add-one header.state.level ∙ ap (λ (s : Image). suc s.level) seen.state

      cut : part from (slot_at header.slots) file ≡ region_of file (splitting (state_of file))
      cut = source ∙ ap (region_of file) number

      from_there : from ≡ start_of (slots_of file) (splitting (state_of file))
      from_there = from_is ∙ ap (start_of (slots_of file)) number

      written : halved (keeps first_buckets old (header.state.level + 1)) header.slots (header.state.level + 1)
          from to file
          ≡ with_region (with_region file (splitting (state_of file)) staying_bytes)
          (newborn first_buckets (state_of file))
          (encode (slots_of file) (suc (state_of file).level)
          (kept (λ key. not (keeps first_buckets (splitting (state_of file)) (suc (state_of file).level) key))
          (rides_of (region_of file (splitting (state_of file))))))
      written = λ i. edit (to_there i)
          (encode (seen.slots i) (up i)
          (kept (λ key. not (keeps first_buckets (number i) (up i) key)) (rides_of (cut i))))
          (edit (from_there i)
          (encode (seen.slots i) (up i) (kept (keeps first_buckets (number i) (up i)) (rides_of (cut i)))) file)

-- split, by its cases
module _ (file : List ℕ) where
  pub split_header : header_sound file ≡ false
      → record { answer = 5; old = no_bucket; new = no_bucket; file = file } ≡ split file
  unfolding split
  split_header h = rw h

  module _ (sound : header_sound file ≡ true) where
    pub split_whole : most_of file ≤ buckets_of file
        → record { answer = 10; old = no_bucket; new = no_bucket; file = file } ≡ split file
    unfolding split
    split_whole h = rw (sound, le-leb (most_of file) (buckets_of file) h)

    module _ (room : buckets_of file < most_of file) (old new : ℕ) (eo : old ≡ splitting (state_of file))
        (en : new ≡ newborn first_buckets (state_of file)) where
      pub split_unsound : bucket_sound_in file old ≡ false
          → record { answer = 7; old = old; new = no_bucket; file = file } ≡ split file
      unfolding split
      split_unsound h = rw (sound, lt-leb (most_of file) (buckets_of file) room, ap (bucket_sound_in file) (sym eo) ∙ h)
          (λ i. record { answer = 7; old = eo i; new = no_bucket; file = file })

      module _ (good : bucket_sound_in file old ≡ true) where
        pub split_dirty : all_zero (region_of file new) ≡ false
            → record { answer = 7; old = new; new = no_bucket; file = file } ≡ split file
        unfolding split
        split_dirty h = rw (
          sound,
          lt-leb (most_of file) (buckets_of file) room,
          ap (bucket_sound_in file) (sym eo)
              ∙ good,
          ap (λ (a : ℕ). all_zero (region_of file a)) (sym en) ∙ h,
        )
            (λ i. record { answer = 7; old = en i; new = no_bucket; file = file })

        pub split_done : all_zero (region_of file new) ≡ true → (after : List ℕ) → after ≡ divided file
            → record { answer = 0; old = old; new = new; file = after } ≡ split file
        unfolding split
        split_done h after ea = rw (
          sound,
          lt-leb (most_of file) (buckets_of file) room,
          ap (bucket_sound_in file) (sym eo)
              ∙ good,
          ap (λ (a : ℕ). all_zero (region_of file a)) (sym en) ∙ h,
        )
            (λ i. record { answer = 0; old = eo i; new = en i; file = ea i })

  -- its reply, as document 01 lists it
  pub split_reply : (split file).answer ≡ reply (
      refuse 5 (not (header_sound file))
      ∷ refuse 10 (leb (most_of file) (buckets_of file))
      ∷ refuse 7 (not (bucket_sound_in file (splitting (state_of file))))
      ∷ refuse 7 (not (all_zero (region_of file (newborn first_buckets (state_of file)))))
      ∷ []
      ) 0
  unfolding split
  split_reply = go (header_sound file) (leb (most_of file) (buckets_of file))
      (bucket_sound_in file (splitting (state_of file)))
      (all_zero (region_of file (newborn first_buckets (state_of file))))
    where
      refused : ℕ → ℕ → SplitOutcome
      refused r a = record { answer = r; old = a; new = no_bucket; file = file }

      go : (header whole old new : Bool) → (cond (not header) (refused 5 no_bucket) (cond whole (refused 10 no_bucket)
          (cond (not old) (refused 7 (splitting (state_of file)))
          (cond (not new) (refused 7 (newborn first_buckets (state_of file)))
          (record {
            answer = 0;
            old = splitting (state_of file);
            new = newborn first_buckets (state_of file);
            file = divided file;
          }))))).answer
          ≡ reply (refuse 5 (not header) ∷ refuse 10 whole ∷ refuse 7 (not old) ∷ refuse 7 (not new) ∷ []) 0
      go false whole old new = sym (reply_here 5 true _ 0 refl)
      go true true old new = sym (reply_past 5 false _ 0 refl ∙ reply_here 10 true _ 0 refl)
      go true false false new = sym
          (reply_past 5 false _ 0 refl ∙ reply_past 10 false _ 0 refl ∙ reply_here 7 true _ 0 refl)
      go true false true false = sym
          (reply_past 5 false _ 0 refl ∙ reply_past 10 false _ 0 refl ∙ reply_past 7 false _ 0 refl
          ∙ reply_here 7 true _ 0 refl)
      go true false true true = sym
          (reply_past 5 false _ 0 refl ∙ reply_past 10 false _ 0 refl ∙ reply_past 7 false _ 0 refl
          ∙ reply_past 7 false _ 0 refl ∙ reply_none 0)

  -- the file is divided, or as it was
  pub split_ways : (P : SplitOutcome → Type 0)
      → ((r a : ℕ) → 2 ≤ r → P (record { answer = r; old = a; new = no_bucket; file = file }))
      → (header_sound file ≡ true → buckets_of file < most_of file
      → P (record {
        answer = 0;
        old = splitting (state_of file);
        new = newborn first_buckets (state_of file);
        file = divided file;
      }))
      → P (split file)
  split_ways P refused done = header (header_sound file) refl
    where
      header : (b : Bool) → header_sound file ≡ b → P (split file)
      header false h = subst P (split_header h) (refused 5 no_bucket (omega arith))
      header true h = ⊎_elim (λ l. subst P (split_whole h l) (refused 10 no_bucket (omega arith)))
          (λ l. old l (bucket_sound_in file (splitting (state_of file))) refl)
          (below_or (most_of file) (buckets_of file))
        where
          below_or : (x y : ℕ) → (x ≤ y) ⊎ (y < x)
          below_or x y = ⊎_elim inr (λ l. inl l) (below y x)

          old : buckets_of file < most_of file → (b : Bool) → bucket_sound_in file (splitting (state_of file)) ≡ b
              → P (split file)
          old l false bad = subst P (split_unsound h l _ _ refl refl bad)
              (refused 7 (splitting (state_of file)) (omega arith))
          old l true good = new (all_zero (region_of file (newborn first_buckets (state_of file)))) refl
            where
              new : (b : Bool) → all_zero (region_of file (newborn first_buckets (state_of file))) ≡ b → P (split file)
              new false dirty = subst P (split_dirty h l _ _ refl refl good dirty)
                  (refused 7 (newborn first_buckets (state_of file)) (omega arith))
              new true clean = subst P (split_done h l _ _ refl refl good clean _ refl) (done h l)

-- no second outcome fits
pub split_single : (file : List ℕ) (o p : SplitOutcome) → o ≡ split file → p ≡ split file → o ≡ p
split_single file o p eo ep = eo ∙ sym ep

-- ---- the ways of the functions that split

-- an answer with a file is an outcome
as_outcome : {r o n x y z : ℕ} {file after : List ℕ} → r ≡ x → o ≡ y → n ≡ z → after ≡ file
    → ◌≡◌ {A = SplitOutcome} (record { answer = r; old = o; new = n; file = after })
    (record { answer = x; old = y; new = z; file = file })
as_outcome er eo en ef = λ i. record { answer = er i; old = eo i; new = en i; file = ef i }

module _ (file : List ℕ) where
  pub split_headless : None ≡ header_of file → {r o n : ℕ} → r ≡ 5 → o ≡ no_bucket → n ≡ no_bucket
      → record { answer = r; old = o; new = n; file = file } ≡ split file
  split_headless e er eo en = as_outcome er eo en refl ∙ split_header file (unknown file e)

module _ (file : List ℕ) {header : Header} where
  module _ (seen : Known file header) where
    pub split_full : {m : ℕ} → m ≡ buckets first_buckets header.state → header.most ≤ m → {r o n : ℕ} → r ≡ 10
        → o ≡ no_bucket → n ≡ no_bucket
        → record { answer = r; old = o; new = n; file = file } ≡ split file
    split_full {m} em h er eo en = as_outcome er eo en refl ∙ split_whole file seen.sound
        (omega (arith, buckets_known file header seen m em, seen.most))

    module _ (more : buckets_of file < most_of file) {a : ℕ} (ea : a ≡ splitting header.state) where
      pub split_bad : {sound : Bool} → sound ≡ bucket_sound_in file a → not sound ≡ true → {r o n : ℕ} → r ≡ 7 → o ≡ a
          → n ≡ no_bucket
          → record { answer = r; old = o; new = n; file = file } ≡ split file
      split_bad {sound} es h er eo en = as_outcome er eo en refl ∙ split_unsound file seen.sound more a _
          (split_number file header seen ea) refl (sym es ∙ not-true sound h)

      module _ (good : bucket_sound_in file a ≡ true) {b : ℕ} (eb : b ≡ newborn first_buckets header.state)
          {clean : Bool} (ec : clean ≡ all_zero (region_of file b)) where
        pub split_used : not clean ≡ true → {r o n : ℕ} → r ≡ 7 → o ≡ b → n ≡ no_bucket
            → record { answer = r; old = o; new = n; file = file } ≡ split file
        split_used h er eo en = as_outcome er eo en refl ∙ split_dirty file seen.sound more a b
            (split_number file header seen ea) (split_born file header seen eb) good (sym ec ∙ not-true clean h)

        pub split_made : not clean ≡ false → {after : List ℕ} → after ≡ divided file
            → record { answer = 0; old = a; new = b; file = after } ≡ split file
        split_made h e = split_done file seen.sound more a b (split_number file header seen ea)
            (split_born file header seen eb) good (sym ec ∙ not-false clean h) _ e

pub split_room : (file : List ℕ) (header : Header) → Known file header → {m : ℕ}
    → m ≡ buckets first_buckets header.state → m < header.most
    → buckets_of file < most_of file
split_room file header seen {m} em h = omega (arith, buckets_known file header seen m em, seen.most)

pub split_sound : (file : List ℕ) (a : ℕ) {sound : Bool} → sound ≡ bucket_sound_in file a → not sound ≡ false
    → bucket_sound_in file a ≡ true
split_sound file a {sound} e h = sym e ∙ not-false sound h
