-- Demand 2: in a sound file, a search that is not refused finds exactly the rides held at the start and those accepted
-- since. An accepted insert adds one ride, a split moves some, nothing else changes what is held; and a key is sought
-- where alone it can be.
use Rattle.std.specs.Prelude.{ℕ, suc, ◌≤◌, ◌<◌, ◌≡◌, Bool, true, false, ◌⊎◌, ◌↔◌, length}
use Rattle.std.proofs.Math.Path.{refl, sym, ap, subst}
use Rattle.std.proofs.Common.{◌∙◌}
use mathlib.Core.List.{List, [], ◌∷◌, ◌++◌, Memᴰ}
use Rattle.std.proofs.Math.Logic.{inl, inr, ⊎_elim, by_cases}
use Rattle.std.proofs.Math.Decide.{ℕ_discrete}
use Rattle.std.proofs.Math.Numerals.{add-one}
use native.Mathlib.Omega.{arith}
use borrow.Author.Tests.{eqb-true, ltb-true}
use Rattle.std.proofs.Math.Dec.{eqb}
use Rattle.address.specs.Limits.{first_buckets, most_slots}
use Rattle.address.specs.Rules.{address, buckets, keeps, splitting, newborn, grown}
use Rattle.address.specs.Rules.Cases.{keeps_yes}
use Rattle.address.specs.Rules.Grow.{grown_buckets}
use Rattle.address.proofs.Rules.Grow.{newborn_next, divided_cases}
use Rattle.address.specs.Rules.Hash.{span_pos}
use Rattle.layout.specs.Bytes.{Bytes}
use Rattle.layout.specs.Bytes.Tests.{and_right}
use Rattle.layout.specs.Replies.{reply}
use Rattle.bucket.specs.Region.{Ride, Whole, count_of, ride_at, rides_of, slot_of, kept}
use Rattle.bucket.specs.Region.Held.{slot_held, held_passes, held_whole, held_more, found_held, absent_held}
use Rattle.bucket.specs.Region.Keep.{kept_member, member_kept}
use Rattle.file.specs.File.{most_of, state_of, buckets_of, region_of, file_sound, with_ride, divided, split}
use Rattle.file.specs.File.Judge.{Ranges, header_ranges, buckets_of_lem, existing}
use Rattle.file.specs.File.Keeping.{sound_header, sound_bucket, Fitting, ride_kept, ride_held, others_held}
use Rattle.file.specs.File.Keeping.{ride_buckets, ride_bytes, count_held, split_kept, split_state, split_bytes}
use Rattle.file.specs.File.Keeping.{split_old, split_new, split_other}
use Rattle.file.specs.File.Split.{split_ways}
use Rattle.file.specs.File.Write.{Shown, shown, bucket_shown}
use Rattle.answer.specs.Answer.{block}
use Rattle.answer.specs.Answer.Block.{payload_back}
use Rattle.route.specs.Way.{early, own_of, held, full}
use Rattle.route.specs.Way.Keeping.{passed, route_sound}
use Rattle.route.specs.Way.Own.{own_is, own_exists, held_is}
use Rattle.ride.specs.Call.{Outcome, inserted, count_then, search}
use Rattle.ride.specs.Call.Left.{Through, search_ways, insert_ways}
use Rattle.ride.specs.Call.Placing.{own_fresh, own_room, fitting}
use Rattle.ride.specs.Call.Replied.{count_is, inserted_is}
use Rattle.load.specs.Load.Left.{Accepting}
use Rattle.load.proofs.Load.Left.{load_ways}
use Rattle.demands.specs.Run.{Memory, Call, Join, Insert, InsertSplit, Search, Split, Scan, Check, View, Parent}
use Rattle.demands.specs.Run.{Typed, AllTyped, left, left_loaded, after, run, replied, answered, Holds, Accepts}
use Rattle.demands.specs.Run.{Accepted, payload_in, Finds, Kept}

-- what becomes of the rides of a sound file: it is sound, and holds what it held and some more
pub record Grown (before now : List ℕ) (more : Ride → Type 0) : Type 0 where
  pub bytes : Bytes now
  pub sound : file_sound now ≡ true
  pub up : buckets_of before ≤ buckets_of now
  pub holds : (ride : Ride) → Holds now ride ↔ (Holds before ride ⊎ more ride)

module _ (file : List ℕ) (bytes : Bytes file) (sound : file_sound file ≡ true) where
  seen : Ranges file
  seen = header_ranges file (sound_header file sound)

  -- a file that nothing is added to
  as_it_was : (now : List ℕ) (more : Ride → Type 0) → now ≡ file → ((ride : Ride) → more ride → ⊥) → Grown file now more
  as_it_was now more e none = record {
    bytes = rw e bytes;
    sound = ap file_sound e ∙ sound;
    up = omega (arith, ap buckets_of e);
    holds = λ ride. (
      λ h. inl (subst (λ (f : List ℕ). Holds f ride) e h),
      ⊎_elim (λ h. subst (λ (f : List ℕ). Holds f ride) (sym e) h) (λ h. absurd (none ride h)),
    );
  }

  -- ---- the key's own bucket

  module _ (key : ℕ) where
    region : List ℕ
    region = region_of file (own_of file key)

    own_held : held file key ≡ true → slot_of region key < count_of region
    unfolding region
    own_held h = ltb-true _ _ (held_is file key (own_of file key) refl _ _ refl refl ∙ h)

  -- a ride is held in its own bucket alone
  in_own : (ride : Ride) → Holds file ride ↔ Memᴰ ride (rides_of (region ride.key))
  unfolding Holds region
  in_own ride = (there, λ m. (own_of file ride.key, own_exists file (sound_header file sound) ride.key, m))
    where
      there : (a : ℕ) × (a < buckets_of file) × Memᴰ ride (rides_of (region_of file a))
          → Memᴰ ride (rides_of (region_of file (own_of file ride.key)))
      there (a, l, m) = subst (λ (b : ℕ). Memᴰ ride (rides_of (region_of file b))) (sym own) m
        where
          own : own_of file ride.key ≡ a
          own = own_is file ride.key a
              (eqb-true _ _
              (held_passes (λ key. eqb (address first_buckets (state_of file) key) a) (rides_of (region_of file a)) ride
              (bucket_shown file a (sound_bucket file sound a l)).belong m))

  -- ---- an accepted insert

  module _ (key : ℕ) (payload : List ℕ) (whole : Whole (record { key = key; payload = payload }))
      (free : held file key ≡ false) (room : full file key ≡ false) where
    new : Ride
    new = record { key = key; payload = payload }

    a : ℕ
    a = own_of file key

    is : with_ride file a new ≡ inserted file key payload
    unfolding a new
    is = inserted_is file key (own_of file key) refl payload _ refl

    exists : a < buckets_of file
    unfolding a
    exists = own_exists file (sound_header file sound) key

    fits : Fitting file new a
    unfolding a new
    fits = fitting file bytes (sound_header file sound) key payload whole
        (sound_bucket file sound (own_of file key) (own_exists file (sound_header file sound) key)) free room

    now : List ℕ
    now = with_ride file a new

    same_buckets : buckets_of now ≡ buckets_of file
    unfolding now
    same_buckets = ride_buckets file new a fits

    here : rides_of (region_of now a) ≡ rides_of (region_of file a) ++ (new ∷ [])
    unfolding now
    here = ride_held file new a fits

    -- the count that the answer block gives is what the bucket then holds, from 1 to 64
    pub count_told : (count_then file key ≡ count_of (region_of (inserted file key payload) (own_of file key)))
        × (1 ≤ count_then file key) × (count_then file key ≤ most_slots)
    unfolding a
    count_told = (
      sym (count_is file key (own_of file key) refl refl) ∙ add-one _
          ∙ sym (count_held file new a fits)
          ∙ ap (λ (f : List ℕ). count_of (region_of f (own_of file key))) is,
      omega (arith, count_is file key (own_of file key) refl {n = count_of (region_of file (own_of file key))} refl),
      omega (
        arith,
        count_is file key (own_of file key) refl {n = count_of (region_of file (own_of file key))} refl,
        own_room file key room,
        seen.figured.few_slots,
      ),
    )

    elsewhere : (b : ℕ) → b < buckets_of file → (b ≡ a → ⊥) → region_of now b ≡ region_of file b
    unfolding now
    elsewhere b l other = others_held file new a fits b (omega (arith, l, seen.few)) other

    now_holds : (ride : Ride) → Holds now ride ↔ (Holds file ride ⊎ (ride ≡ new))
    unfolding Holds
    now_holds ride = (there, back)
      where
        there : (b : ℕ) × (b < buckets_of now) × Memᴰ ride (rides_of (region_of now b))
            → ((b : ℕ) × (b < buckets_of file) × Memᴰ ride (rides_of (region_of file b))) ⊎ (ride ≡ new)
        there (b, l, m) = by_cases (ℕ_discrete b a)
            (λ e. ⊎_elim (λ n. inl (a, exists, n)) inr
            ((held_more (rides_of (region_of file a)) new ride).0
            (subst (λ (rides : List Ride). Memᴰ ride rides) (ap (λ (x : ℕ). rides_of (region_of now x)) e ∙ here)
            m)))
            (λ other. inl (b, within, subst (λ (r : List ℕ). Memᴰ ride (rides_of r)) (elsewhere b within other) m))
          where
            within : b < buckets_of file
            within = omega (arith, l, same_buckets)

        joined : Memᴰ ride (rides_of (region_of file a)) ⊎ (ride ≡ new)
            → (b : ℕ) × (b < buckets_of now) × Memᴰ ride (rides_of (region_of now b))
        joined w = (
          a,
          omega (arith, exists, same_buckets),
          subst (λ (rides : List Ride). Memᴰ ride rides) (sym here)
              ((held_more (rides_of (region_of file a)) new ride).1 w),
        )

        back : ((b : ℕ) × (b < buckets_of file) × Memᴰ ride (rides_of (region_of file b))) ⊎ (ride ≡ new)
            → (b : ℕ) × (b < buckets_of now) × Memᴰ ride (rides_of (region_of now b))
        back = ⊎_elim
            (λ h. by_cases (ℕ_discrete h.0 a)
            (λ e. joined (inl (subst (λ (x : ℕ). Memᴰ ride (rides_of (region_of file x))) e h.2)))
            (λ other. (
              h.0,
              omega (arith, h.1, same_buckets),
              subst (λ (r : List ℕ). Memᴰ ride (rides_of r))
                  (sym (elsewhere h.0 h.1 other)) h.2,
            )))
            (λ e. joined (inr e))

    inserted_grown : Grown file (inserted file key payload)
        (λ ride. (◌≡◌ {A = ℕ} 0 0) × (ride ≡ record { key = key; payload = payload }))
    unfolding now new
    inserted_grown = subst (λ (f : List ℕ). Grown file f (λ ride. (◌≡◌ {A = ℕ} 0 0) × (ride ≡ new))) is (record {
      bytes = ride_bytes file new a fits;
      sound = ride_kept file new a fits sound;
      up = omega (arith, same_buckets);
      holds = λ ride. (
        λ h. ⊎_elim inl (λ e. inr (refl, e)) ((now_holds ride).0 h),
        λ w. (now_holds ride).1
            (⊎_elim inl (λ e. inr e.1) w),
      );
    })

  -- ---- a split

  module _ (more : buckets_of file < most_of file) where
    pointer : ℕ
    pointer = splitting (state_of file)

    next : ℕ
    next = newborn first_buckets (state_of file)

    next_is : next ≡ buckets_of file
    unfolding next
    next_is = newborn_next first_buckets (omega arith) (state_of file) seen.formed ∙ sym (existing file)

    pointer_exists : pointer < buckets_of file
    unfolding pointer
    pointer_exists = omega
        (arith, buckets_of_lem file, seen.formed, span_pos first_buckets (omega arith) (state_of file).level)

    one_more : buckets_of (divided file) ≡ suc (buckets_of file)
    one_more = existing (divided file) ∙ ap (buckets first_buckets) (split_state file bytes sound more)
        ∙ grown_buckets first_buckets (omega arith) (state_of file) seen.formed ∙ ap suc (sym (existing file))

    source : List Ride
    source = rides_of (region_of file (splitting (state_of file)))

    half : (b : ℕ) → List Ride
    half b = kept (keeps first_buckets b (suc (state_of file).level)) source

    divided_holds : (ride : Ride) → Holds (divided file) ride ↔ Holds file ride
    unfolding Holds source half pointer next
    divided_holds ride = (there, back)
      where
        old : rides_of (region_of (divided file) pointer) ≡ half pointer
        old = split_old file bytes sound more

        new : rides_of (region_of (divided file) next) ≡ half next
        new = split_new file bytes sound more

        there : (b : ℕ) × (b < buckets_of (divided file)) × Memᴰ ride (rides_of (region_of (divided file) b))
            → (b : ℕ) × (b < buckets_of file) × Memᴰ ride (rides_of (region_of file b))
        there (b, l, m) = by_cases (ℕ_discrete b next)
            (λ e. came next (ap (λ (x : ℕ). rides_of (region_of (divided file) x)) e ∙ new))
            (λ other. by_cases (ℕ_discrete b pointer)
            (λ e. came pointer (ap (λ (x : ℕ). rides_of (region_of (divided file) x)) e ∙ old))
            (λ apart. (
              b,
              omega (arith, l, one_more, other, next_is),
              subst (λ (r : List ℕ). Memᴰ ride (rides_of r))
                  (split_other file bytes sound more b (omega (arith, l, one_more)) other apart) m,
            )))
          where
            came : (x : ℕ) → rides_of (region_of (divided file) b) ≡ half x
                → (b : ℕ) × (b < buckets_of file) × Memᴰ ride (rides_of (region_of file b))
            came x e = (
              pointer,
              pointer_exists,
              kept_member (keeps first_buckets x (suc (state_of file).level)) source ride
                  (subst (λ (rides : List Ride). Memᴰ ride rides) e m),
            )

        back : (b : ℕ) × (b < buckets_of file) × Memᴰ ride (rides_of (region_of file b))
            → (b : ℕ) × (b < buckets_of (divided file)) × Memᴰ ride (rides_of (region_of (divided file) b))
        back (b, l, m) = by_cases (ℕ_discrete b pointer)
            (λ e. moved (subst (λ (x : ℕ). Memᴰ ride (rides_of (region_of file x))) e m))
            (λ apart. (
              b,
              omega (arith, l, one_more),
              subst (λ (r : List ℕ). Memᴰ ride (rides_of r))
                  (sym (split_other file bytes sound more b (omega (arith, l)) (λ e. omega (arith, l, e, next_is))
                  apart)) m,
            ))
          where
            moved : Memᴰ ride source
                → (b : ℕ) × (b < buckets_of (divided file)) × Memᴰ ride (rides_of (region_of (divided file) b))
            moved n = ⊎_elim
                (λ e. (
                  pointer,
                  omega (arith, pointer_exists, one_more),
                  subst (λ (rides : List Ride). Memᴰ ride rides) (sym old)
                      (member_kept (keeps first_buckets pointer (suc (state_of file).level)) source ride n
                      (keeps_yes first_buckets pointer (suc (state_of file).level) ride.key e)),
                ))
                (λ e. (
                  next,
                  omega (arith, next_is, one_more),
                  subst (λ (rides : List Ride). Memᴰ ride rides) (sym new)
                      (member_kept (keeps first_buckets next (suc (state_of file).level)) source ride n
                      (keeps_yes first_buckets next (suc (state_of file).level) ride.key e)),
                ))
                (divided_cases first_buckets (omega arith) (state_of file) seen.formed ride.key own)
              where
                own : address first_buckets (state_of file) ride.key ≡ splitting (state_of file)
                own = eqb-true _ _
                    (held_passes (λ key. eqb (address first_buckets (state_of file) key) pointer) source ride
                    (bucket_shown file pointer (sound_bucket file sound pointer pointer_exists)).belong n)

    divided_grown : Grown file (divided file) (λ ride. ⊥)
    divided_grown = record {
      bytes = split_bytes file bytes sound more;
      sound = split_kept file bytes sound more;
      up = omega (arith, one_more);
      holds = λ ride. (λ h. inl ((divided_holds ride).0 h), ⊎_elim (divided_holds ride).1 (λ none. absurd none));
    }

  -- so a split, done or refused, leaves what is held
  split_grown : Grown file (split file).file (λ ride. ⊥)
  split_grown = split_ways file (λ o. Grown file o.file (λ ride. ⊥))
      (λ r a some. as_it_was file (λ ride. ⊥) refl (λ ride none. none))
      (λ header more. divided_grown more)

-- one after the other
grown_both : {first second third : List ℕ} {one two : Ride → Type 0} → Grown first second one → Grown second third two
    → Grown first third (λ ride. one ride ⊎ two ride)
grown_both early late = record {
  bytes = late.bytes;
  sound = late.sound;
  up = omega (arith, early.up, late.up);
  holds = λ ride. (
    λ h. ⊎_elim (λ before. ⊎_elim inl (λ now. inr (inl now)) ((early.holds ride).0 before)) (λ later. inr (inr later))
        ((late.holds ride).0 h),
    ⊎_elim (λ h. (late.holds ride).1 (inl ((early.holds ride).1 (inl h))))
        (⊎_elim (λ now. (late.holds ride).1 (inl ((early.holds ride).1 (inr now))))
        (λ later. (late.holds ride).1 (inr later))),
  );
}

-- with the same rides more
grown_same : {before now : List ℕ} {one two : Ride → Type 0} → ((ride : Ride) → one ride ↔ two ride)
    → Grown before now one → Grown before now two
grown_same same grown = record {
  bytes = grown.bytes;
  sound = grown.sound;
  up = grown.up;
  holds = λ ride. (
    λ h. ⊎_elim inl (λ more. inr ((same ride).0 more)) ((grown.holds ride).0 h),
    ⊎_elim (λ h. (grown.holds ride).1 (inl h)) (λ more. (grown.holds ride).1 (inr ((same ride).1 more))),
  );
}

-- in a sound file a key call that passes 14 and 2 to 6 passes 7
pub through : (file table : List ℕ) → file_sound file ≡ true → (fits : Bool) (client key : ℕ) → fits ≡ true
    → reply (early file table client) 0 ≡ 0 → Through fits file table client key
through file table sound fits client key fit none =
    record { fit = fit; none = none; sound = route_sound file table client key (passed file table client none) sound }

-- ---- one call, and a run

pub step : (m : Memory) → Bytes m.file → file_sound m.file ≡ true → (call : Call) → Typed call
    → Grown m.file (after m call).file (λ ride. Accepts m ride call)
unfolding after left left_loaded Typed Accepts replied answered
step m bytes sound (Join client) typed = as_it_was m.file bytes sound m.file (λ ride. ⊥) refl (λ ride none. none)
step m bytes sound (Insert client key payload answer) typed = insert_ways m.file m.table client key payload answer
    (λ o. Grown m.file o.file (λ ride. (o.answer ≡ 0) × (ride ≡ record { key = key; payload = payload })))
    (λ o r. as_it_was m.file bytes sound o.file _ r.file_left (λ ride h. omega (arith, r.some, h.0)))
    (λ w there. as_it_was m.file bytes sound m.file _ refl (λ ride h. omega (arith, h.0)))
    (λ w free whole. as_it_was m.file bytes sound m.file _ refl (λ ride h. omega (arith, h.0)))
    (λ w free room. inserted_grown m.file bytes sound key payload
    (record {
      small = typed.0;
      long = eqb-true _ 14 (and_right (eqb (length answer) 24) _ w.fit);
      bytes = typed.1;
    }) free room)
step m bytes sound (InsertSplit client key payload t answer) typed = load_ways m.file m.table client key payload t
    answer
    (λ o. Grown m.file o.file (λ ride. (o.answer ≡ 0) × (ride ≡ record { key = key; payload = payload })))
    (λ o r why. as_it_was m.file bytes sound o.file _ r.file_left (λ ride h. omega (arith, r.some, h.0)))
    (λ w there. as_it_was m.file bytes sound m.file _ refl (λ ride h. omega (arith, h.0)))
    (λ w free whole. as_it_was m.file bytes sound m.file _ refl (λ ride h. omega (arith, h.0)))
    (λ w control is single. one w)
    (λ w due judged.
    grown_same (λ ride. (⊎_elim (λ h. h) (λ none. absurd none), inl))
    (grown_both (one w) (split_grown (inserted m.file key payload) (one w).bytes (one w).sound)))
    (λ w due bad o r. as_it_was m.file bytes sound o.file _ r.file_left
    (λ ride h. omega (arith, r.some, h.0)))
  where
    one : Accepting m.file m.table client key payload t answer
        → Grown m.file (inserted m.file key payload)
        (λ ride. (◌≡◌ {A = ℕ} 0 0) × (ride ≡ record { key = key; payload = payload }))
    one w = inserted_grown m.file bytes sound key payload
        (record {
          small = typed.0;
          long = eqb-true _ 14 (and_right (eqb (length answer) 24) _ w.passing.through.fit);
          bytes = typed.1;
        }) w.free w.room
step m bytes sound (Search client key answer) typed = as_it_was m.file bytes sound _ (λ ride. ⊥)
    (search_ways m.file m.table client key answer (λ o. o.file ≡ m.file) (λ o r. r.file_left) (λ w there. refl)
    (λ w absent. refl)) (λ ride none. none)
step m bytes sound Split typed = split_grown m.file bytes sound
step m bytes sound (Scan client lift visits matches) typed = as_it_was m.file bytes sound m.file (λ ride. ⊥) refl
    (λ ride none. none)
step m bytes sound Check typed = as_it_was m.file bytes sound m.file (λ ride. ⊥) refl (λ ride none. none)
step m bytes sound (View bucket) typed = as_it_was m.file bytes sound m.file (λ ride. ⊥) refl (λ ride none. none)
step m bytes sound (Parent bucket) typed = as_it_was m.file bytes sound m.file (λ ride. ⊥) refl
    (λ ride none. none)

pub whole_run : (m : Memory) → Bytes m.file → file_sound m.file ≡ true → (calls : List Call) → AllTyped calls
    → Grown m.file (run m calls).file (λ ride. Accepted m ride calls)
unfolding run AllTyped Accepted
whole_run m bytes sound [] typed = as_it_was m.file bytes sound m.file (λ ride. ⊥) refl (λ ride none. none)
whole_run m bytes sound (call ∷ calls) typed =
    let one = step m bytes sound call typed.0 in
    grown_both one (whole_run (after m call) one.bytes one.sound calls typed.1)

-- ---- what a search finds

-- the payload that a key's own bucket holds with it
abbrev pub payload_held : List ℕ → ℕ → List ℕ
payload_held file key =
    (ride_at (region_of file (own_of file key)) (slot_of (region_of file (own_of file key)) key)).payload

module _ (file table : List ℕ) (bytes : Bytes file) (sound : file_sound file ≡ true) (client key : ℕ) where
  bucket : Shown file (own_of file key)
  bucket = shown file (seen file bytes sound) bytes (own_of file key) (own_exists file (sound_header file sound) key)
      (sound_bucket file sound (own_of file key) (own_exists file (sound_header file sound) key))

  with_payload : List ℕ → Ride
  with_payload payload = record { key = key; payload = payload }

  in_bucket : (payload : List ℕ)
      → Holds file (with_payload payload) ↔ Memᴰ (with_payload payload) (rides_of (region_of file (own_of file key)))
  unfolding with_payload region
  in_bucket payload = in_own file bytes sound (with_payload payload)

  module _ (there : held file key ≡ true) where
    slot : slot_of (region_of file (own_of file key)) key < count_of (region_of file (own_of file key))
    unfolding region
    slot = own_held file bytes sound key there

    pub payload_long : length (payload_held file key) ≡ 14
    payload_long = (held_whole (rides_of (region_of file (own_of file key))) _ bucket.whole
        (slot_held (region_of file (own_of file key)) _ slot)).long

    is_stored : (payload : List ℕ) → Holds file (with_payload payload) ↔ payload_held file key ≡ payload
    unfolding with_payload
    is_stored payload =
        let held-there = found_held (region_of file (own_of file key)) (with_payload payload) bucket.parts.single slot
        in
        (λ h. held-there.0 ((in_bucket payload).0 h), λ e. (in_bucket payload).1 (held-there.1 e))

    found_there : (way rest : List ℕ)
        → Finds key (record { answer = 0; block = block 0 way 0 (payload_held file key); table = rest; file = file })
        (Holds file)
    unfolding payload_in with_payload
    found_there way rest = record {
      present = λ payload. (
        λ h. (is_stored payload).1 (sym (payload_back 0 0 way (payload_held file key) payload_long) ∙ h.1),
        λ h. (refl, payload_back 0 0 way (payload_held file key) payload_long ∙ (is_stored payload).0 h),
      );
      absent = (
        λ e. absurd (omega (arith, e)),
        λ none. absurd
            (none (payload_held file key) ((is_stored (payload_held file key)).1 refl)),
      );
    }

  none_there : held file key ≡ false → (payload : List ℕ) → Holds file (with_payload payload) → ⊥
  unfolding region with_payload
  none_there absent payload h = absent_held (region_of file (own_of file key)) (with_payload payload)
      (own_fresh file key absent) ((in_bucket payload).0 h)

  finds : (answer : List ℕ) → (search file table client key answer).answer ≤ 1
      → Finds key (search file table client key answer) (Holds file)
  unfolding with_payload
  finds answer = search_ways file table client key answer (λ o. o.answer ≤ 1 → Finds key o (Holds file))
      (λ o r low. absurd (omega (arith, r.some, low)))
      (λ w there low. found_there there _ _)
      (λ w absent low. record {
        present = λ payload. (λ h. absurd (omega (arith, h.0)), λ h. absurd (none_there absent payload h));
        absent = (λ e payload. none_there absent payload, λ none. refl);
      })

-- the same of what was held at the start or accepted since
finds_same : (key : ℕ) (o : Outcome) (A B : Ride → Type 0) → ((ride : Ride) → A ride ↔ B ride) → Finds key o A
    → Finds key o B
finds_same key o A B same f = record {
  present = λ payload. (λ h. (same _).0 ((f.present payload).0 h), λ h. (f.present payload).1 ((same _).1 h));
  absent = (
    λ e payload h. f.absent.0 e payload ((same _).1 h),
    λ none. f.absent.1
        (λ payload h. none payload ((same _).0 h)),
  );
}

pub run_finds : (m : Memory) → Bytes m.file → file_sound m.file ≡ true → (calls : List Call) → AllTyped calls
    → (client key : ℕ) (answer : List ℕ)
    → replied (run m calls) (Search client key answer) ≤ 1
    → Finds key (search (run m calls).file (run m calls).table client key answer) (Kept m calls)
unfolding Kept replied answered
run_finds m bytes sound calls typed client key answer fine =
    let grown = whole_run m bytes sound calls typed in
    finds_same key _ (Holds (run m calls).file) _ grown.holds
    (finds (run m calls).file (run m calls).table grown.bytes grown.sound client key answer fine)
