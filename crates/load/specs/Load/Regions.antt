-- The regions of a split: judged, and judged alike before an accepted insert and after it; and those of what is
-- decided.
use Rattle.std.specs.Prelude.{ℕ, ◌<◌, ◌≡◌, refl, Bool, true, false, cond, not, List, Result, Ok, Err}
use Rattle.std.proofs.Math.Path.{sym}
use Rattle.std.proofs.Common.{ap, ap₂, ◌∙◌, arith}
use borrow.Author.Tests.{not-true, not-false}
use Rattle.address.specs.Limits.{first_buckets, no_bucket}
use Rattle.address.specs.declared.Image.{Image}
use Rattle.address.specs.Rules.{buckets, splitting, newborn}
use Rattle.address.proofs.Rules.Grow.{newborn_next}
use Rattle.address.specs.Rules.Hash.{span_pos}
use Rattle.layout.specs.Bytes.{Bytes, all_zero}
use Rattle.bucket.specs.Region.{Whole}
use Rattle.file.specs.File.{most_of, state_of, buckets_of, header_sound, region_of, bucket_sound_in, divided}
use Rattle.file.specs.File.{SplitOutcome}
use Rattle.file.specs.File.{split}
use Rattle.file.specs.File.Judge.{Ranges, Known, header_ranges, buckets_of_lem, existing}
use Rattle.file.specs.File.Split.{split_number, split_born, split_unsound, split_dirty, split_done}
use Rattle.file.specs.declared.Header.{Header}
use Rattle.route.specs.Way.{own_of, held, full}
use Rattle.ride.specs.Call.{inserted}
use Rattle.ride.specs.Call.Placing.{inserted_header, inserted_state, inserted_room, inserted_bucket, inserted_zero}
use Rattle.load.specs.declared.Control.{Control}
use Rattle.load.specs.declared.Control.TheVariants.{NotDue, Done, NoRoom}
use Rattle.load.specs.Load.{decision}
use Rattle.load.specs.Load.Decision.{decision_room}

-- The regions of a split: both sound, or the first that is not.
abbrev pub Regions : Type 0
Regions = Result (Unit {0}) ℕ

abbrev pub Sound : Regions
Sound = Ok tt

abbrev pub Unsound : ℕ → Regions
Unsound a = Err a

-- bucket n, then the region of the new bucket
pub regions_of : List ℕ → Regions
regions_of file =
    let old = splitting (state_of file) in
    let new = newborn first_buckets (state_of file) in
    cond (not (bucket_sound_in file old)) (Unsound old) (cond (not (all_zero (region_of file new))) (Unsound new) Sound)

regions_ways : (file : List ℕ) (P : Regions → Type 0)
    → (bucket_sound_in file (splitting (state_of file)) ≡ false → P (Unsound (splitting (state_of file))))
    → (bucket_sound_in file (splitting (state_of file)) ≡ true
    → all_zero (region_of file (newborn first_buckets (state_of file))) ≡ false
    → P (Unsound (newborn first_buckets (state_of file))))
    → (bucket_sound_in file (splitting (state_of file)) ≡ true
    → all_zero (region_of file (newborn first_buckets (state_of file))) ≡ true → P Sound)
    → P (regions_of file)
unfolding regions_of
regions_ways file P bad used fine = go (bucket_sound_in file (splitting (state_of file))) refl
    (all_zero (region_of file (newborn first_buckets (state_of file)))) refl
  where
    go : (x : Bool) → bucket_sound_in file (splitting (state_of file)) ≡ x → (y : Bool)
        → all_zero (region_of file (newborn first_buckets (state_of file))) ≡ y
        → P (cond (not x) (Unsound (splitting (state_of file)))
        (cond (not y) (Unsound (newborn first_buckets (state_of file))) Sound))
    go false ex y ey = bad ex
    go true ex false ey = used ex ey
    go true ex true ey = fine ex ey

-- as they are judged
pub old_own : (file : List ℕ) {own old : ℕ} → old ≡ own → bucket_sound_in file own ≡ true
    → true ≡ bucket_sound_in file old
old_own file e good = sym (ap (bucket_sound_in file) e ∙ good)

module _ (file : List ℕ) {header : Header} (seen : Known file header) {old : ℕ} (eo : old ≡ splitting header.state)
    {sound : Bool} (es : sound ≡ bucket_sound_in file old) where
  sound_is : sound ≡ bucket_sound_in file (splitting (state_of file))
  sound_is = es ∙ ap (bucket_sound_in file) (split_number file header seen eo)

  pub regions_bad : not sound ≡ true → Unsound old ≡ regions_of file
  unfolding regions_of
  regions_bad h = rw (sym sound_is ∙ not-true sound h) (ap Unsound (split_number file header seen eo))

  module _ (good : not sound ≡ false) {new : ℕ} (en : new ≡ newborn first_buckets header.state) {clean : Bool}
      (ec : clean ≡ all_zero (region_of file new)) where
    clean_is : clean ≡ all_zero (region_of file (newborn first_buckets (state_of file)))
    clean_is = ec ∙ ap (λ (b : ℕ). all_zero (region_of file b)) (split_born file header seen en)

    pub regions_used : not clean ≡ true → Unsound new ≡ regions_of file
    unfolding regions_of
    regions_used h = rw (sym sound_is ∙ not-false sound good, sym clean_is ∙ not-true clean h)
        (ap Unsound (split_born file header seen en))

    pub regions_sound : not clean ≡ false → Sound ≡ regions_of file
    unfolding regions_of
    regions_sound h = rw (sym sound_is ∙ not-false sound good, sym clean_is ∙ not-false clean h)

-- what they tell of a split
never_sound : (a : ℕ) → Unsound a ≡ Sound → ⊥
never_sound a e = let z : ◌≡◌ {A = ℕ} 0 1 = cc in omega arith

same_unsound : (a b : ℕ) → Unsound a ≡ Unsound b → a ≡ b
same_unsound a b e = cc

module _ (file : List ℕ) where
  pub sound_regions : regions_of file ≡ Sound → (bucket_sound_in file (splitting (state_of file)) ≡ true)
      × (all_zero (region_of file (newborn first_buckets (state_of file))) ≡ true)
  sound_regions = regions_ways file
      (λ r. r ≡ Sound → (bucket_sound_in file (splitting (state_of file)) ≡ true)
      × (all_zero (region_of file (newborn first_buckets (state_of file))) ≡ true))
      (λ bad e. absurd (never_sound _ e)) (λ good used e. absurd (never_sound _ e)) (λ good clean e. (good, clean))

  module _ (header : header_sound file ≡ true) (more : buckets_of file < most_of file) where
    pub split_sound_done : regions_of file ≡ Sound → record {
      answer = 0;
      old = splitting (state_of file);
      new = newborn first_buckets (state_of file);
      file = divided file;
    } ≡ split file
    split_sound_done e =
        let (good, clean) = sound_regions e in
        split_done file header more _ _ refl refl good clean _ refl

    pub split_unsound_at : {a : ℕ} → regions_of file ≡ Unsound a
        → record { answer = 7; old = a; new = no_bucket; file = file } ≡ split file
    split_unsound_at {a} = regions_ways file
        (λ r. r ≡ Unsound a → record { answer = 7; old = a; new = no_bucket; file = file } ≡ split file)
        (λ bad e. split_unsound file header more a _ (sym (same_unsound _ a e)) refl
        (ap (bucket_sound_in file) (sym (same_unsound _ a e)) ∙ bad))
        (λ good used e. split_dirty file header more _ a refl (sym (same_unsound _ a e)) good
        (ap (λ (b : ℕ). all_zero (region_of file b)) (sym (same_unsound _ a e)) ∙ used))
        (λ good clean e. absurd (never_sound a (sym e)))

-- an insert that is accepted leaves them as they were
pub inserted_regions : (file : List ℕ) → Bytes file → header_sound file ≡ true → (key : ℕ) (payload : List ℕ)
    → Whole (record { key = key; payload = payload }) → bucket_sound_in file (own_of file key) ≡ true
    → held file key ≡ false → full file key ≡ false
    → buckets_of file < most_of file → regions_of (inserted file key payload) ≡ regions_of file
unfolding regions_of
inserted_regions file bytes header key payload whole good free room more =
    (λ i. cond (not (bucket_sound_in (inserted file key payload) (splitting (state i)))) (Unsound (splitting (state i)))
    (cond (not (all_zero (region_of (inserted file key payload) (newborn first_buckets (state i)))))
    (Unsound (newborn first_buckets (state i))) Sound))
    ∙ ap₂ (λ (x y : Bool). cond (not x) (Unsound (splitting (state_of file)))
    (cond (not y) (Unsound (newborn first_buckets (state_of file))) Sound))
    (inserted_bucket file bytes header key payload whole good free room _ old_there (omega (arith, old_there, more)))
    (inserted_zero file bytes header key payload whole good free room _ (omega (arith, new_is)) (omega (arith, new_is)))
  where
    state : state_of (inserted file key payload) ≡ state_of file
    state = inserted_state file bytes header key payload whole good free room

    seen : Ranges file
    seen = header_ranges file header

    old_there : splitting (state_of file) < buckets_of file
    old_there = omega
        (arith, buckets_of_lem file, seen.formed, span_pos first_buckets (omega arith) (state_of file).level)

    new_is : newborn first_buckets (state_of file) ≡ buckets_of file
    new_is = newborn_next first_buckets (omega arith) (state_of file) seen.formed ∙ sym (existing file)

-- so a split of the file that the insert leaves comes to the same as one of the file as it was
abbrev alike : (file next : List ℕ) → Type 0
alike file next =
    ((split next).answer ≡ (split file).answer) × ((split next).old ≡ (split file).old)
    × ((split next).new ≡ (split file).new)

split_alike : (file next : List ℕ) → header_sound file ≡ true → header_sound next ≡ true
    → buckets_of file < most_of file
    → buckets_of next < most_of next → state_of next ≡ state_of file → regions_of next ≡ regions_of file
    → alike file next
split_alike file next header next-header more next_more state regions = regions_ways file
    (λ r. regions_of file ≡ r → regions_of next ≡ r → alike file next)
    (λ bad here there. stopped here there) (λ good used here there. stopped here there)
    (λ good clean here there. done here there) refl regions
  where
    stopped : {a : ℕ} → regions_of file ≡ Unsound a → regions_of next ≡ Unsound a → alike file next
    stopped here there =
        let one = split_unsound_at file header more here in
        let two = split_unsound_at next next-header next_more there in (
          ap (λ (o : SplitOutcome). o.answer) (sym two) ∙ ap (λ (o : SplitOutcome). o.answer) one,
          ap (λ (o : SplitOutcome). o.old) (sym two) ∙ ap (λ (o : SplitOutcome). o.old) one,
          ap (λ (o : SplitOutcome). o.new) (sym two) ∙ ap (λ (o : SplitOutcome). o.new) one,
        )

    done : regions_of file ≡ Sound → regions_of next ≡ Sound → alike file next
    done here there =
        let one = split_sound_done file header more here in
        let two = split_sound_done next next-header next_more there in (
          ap (λ (o : SplitOutcome). o.answer) (sym two) ∙ ap (λ (o : SplitOutcome). o.answer) one,
          ap (λ (o : SplitOutcome). o.old) (sym two) ∙ ap (λ (s : Image). splitting s) state
              ∙ ap (λ (o : SplitOutcome). o.old) one,
          ap (λ (o : SplitOutcome). o.new) (sym two) ∙ ap (newborn first_buckets) state
              ∙ ap (λ (o : SplitOutcome). o.new) one,
        )

pub inserted_split : (file : List ℕ) → Bytes file → header_sound file ≡ true → (key : ℕ) (payload : List ℕ)
    → Whole (record { key = key; payload = payload }) → bucket_sound_in file (own_of file key) ≡ true
    → held file key ≡ false → full file key ≡ false
    → buckets_of file < most_of file
    → ((split (inserted file key payload)).answer ≡ (split file).answer)
    × ((split (inserted file key payload)).old ≡ (split file).old)
    × ((split (inserted file key payload)).new ≡ (split file).new)
inserted_split file bytes header key payload whole good free room more =
    split_alike file (inserted file key payload) header
    (inserted_header file bytes header key payload whole good free room) more
    (inserted_room file bytes header key payload whole good free room more)
    (inserted_state file bytes header key payload whole good free room)
    (inserted_regions file bytes header key payload whole good free room more)

-- ---- what is decided

-- its regions: those of a split that is to be done, else none to judge
pub regions_for : List ℕ → Control → Regions
regions_for file NotDue = Sound
regions_for file Done = regions_of file
regions_for file NoRoom = Sound

pub regions_not_due : (file : List ℕ) {control : Control} → control ≡ NotDue → Sound ≡ regions_for file control
unfolding regions_for
regions_not_due file e = ap (regions_for file) (sym e)

pub regions_no_room : (file : List ℕ) {control : Control} → control ≡ NoRoom → Sound ≡ regions_for file control
unfolding regions_for
regions_no_room file e = ap (regions_for file) (sym e)

pub regions_done : (file : List ℕ) {control : Control} → control ≡ Done → {regions : Regions}
    → regions ≡ regions_of file → regions ≡ regions_for file control
unfolding regions_for
regions_done file e er = er ∙ ap (regions_for file) (sym e)

pub sound_done : (file : List ℕ) {control : Control} → control ≡ Done → regions_for file control ≡ Sound
    → regions_of file ≡ Sound
unfolding regions_for
sound_done file e sound = ap (regions_for file) (sym e) ∙ sound

pub regions_passed : (file : List ℕ) (control : Control) {regions : Regions} → regions ≡ regions_for file control
    → regions ≡ Sound → regions_for file control ≡ Sound
regions_passed file control er es = sym er ∙ es

pub unsound_done : (file : List ℕ) (control : Control) {a : ℕ} → regions_for file control ≡ Unsound a
    → (control ≡ Done) × (regions_of file ≡ Unsound a)
unfolding regions_for
unsound_done file NotDue {a} e = absurd (never_sound a (sym e))
unsound_done file NoRoom {a} e = absurd (never_sound a (sym e))
unsound_done file Done e = (refl, e)

-- a split is to be done only where there is room for it
pub record Roomy (file : List ℕ) (control : Control) : Type 0 where
  pub more : control ≡ Done → buckets_of file < most_of file

pub roomy : {file : List ℕ} {header : Header} → Known file header → (s x t : ℕ) {control : Control}
    → control ≡ decision header.state header.capacity header.most s x t → Roomy file control
roomy {file} {header} known s x t ec = record {
  more = λ e. omega (
    arith,
    existing file,
    ap (buckets first_buckets) known.state,
    known.most,
    decision_room header.state header.capacity header.most s x t (sym ec ∙ e),
  );
}

pub room_done : {file : List ℕ} {control : Control} → Roomy file control → control ≡ Done
    → buckets_of file < most_of file
room_done can e = can.more e
