-- At the key's own bucket: refused there, stopped by a region of the split, or placed, and divided if that is decided.
use Rattle.std.specs.Prelude.{ℕ, ◌+◌, ◌<◌, ◌≡◌, true, false}
use Rattle.std.proofs.Math.Path.{refl, sym, ap}
use Rattle.std.proofs.Common.{subst, ◌∙◌}
use mathlib.Core.List.{List}
use borrow.Author.Tests.{eq-eqb, ne_eqb}
use Rattle.address.specs.Limits.{first_buckets, no_bucket}
use Rattle.address.specs.declared.Image.{Image}
use Rattle.address.specs.Rules.{splitting, newborn}
use Rattle.layout.specs.Bytes.{Bytes}
use Rattle.bucket.specs.Region.{Whole, count_of}
use Rattle.file.specs.File.{most_of, buckets_of, header_sound, region_of, bucket_sound_in, divided, SplitOutcome, split}
use Rattle.file.specs.File.{with_ride}
use Rattle.client.specs.Table.{with_image}
use Rattle.file.specs.File.Judge.{Known}
use Rattle.file.specs.File.Split.{split_number, split_born}
use Rattle.file.specs.declared.Header.{Header}
use Rattle.route.specs.declared.walk.Walk.{Walk}
use Rattle.route.specs.Way.{own_of, held, full, noted, adjusted_by}
use Rattle.route.specs.Way.Own.{held_is, full_is}
use Rattle.route.specs.Way.Reach.{AtOwn}
use Rattle.answer.specs.Answer.{block, no_payload}
use Rattle.ride.specs.Call.{Outcome, placed}
use Rattle.ride.specs.Call.Placing.{inserted_known, inserted_room}
use Rattle.ride.specs.Call.Own.{refusal_at, accepted_at, turned_away}
use Rattle.ride.specs.Call.Replied.{count_is, inserted_is, placed_done}
use Rattle.load.specs.declared.Control.{Control}
use Rattle.load.specs.declared.Control.TheVariants.{NotDue, Done, NoRoom}
use Rattle.load.specs.Load.{decision, decision_on, Loaded, alone, together, decided, controlled}
use Rattle.load.specs.Load.Decision.{room_on}
use Rattle.load.specs.Load.Regions.{Regions, Sound, Unsound, regions_of, sound_regions, split_sound_done}
use Rattle.load.specs.Load.Regions.{split_unsound_at}
use Rattle.load.specs.Load.Regions.{inserted_regions, regions_for, sound_done, unsound_done, Roomy}

-- an answer with what is left is an outcome
pub as_loaded : {r x : ℕ} {c d : Control} {o p n q : ℕ} {left block after table now file : List ℕ}
    → r ≡ x → c ≡ d → o ≡ p → n ≡ q → left ≡ block → after ≡ table → now ≡ file
    → ◌≡◌ {A = Loaded}
    (record { answer = r; split = c; old = o; new = n; block = left; table = after; file = now })
    (record { answer = x; split = d; old = p; new = q; block = block; table = table; file = file })
as_loaded er ec eo en el et ef =
    λ i. record { answer = er i; split = ec i; old = eo i; new = en i; block = el i; table = et i; file = ef i }

-- ---- by insert's outcome

-- an insert alone
pub alone_is : (control : Control) {inserted : Outcome} {reply : ℕ} {left after now : List ℕ}
    → record { answer = reply; block = left; table = after; file = now } ≡ inserted
    → {r o n : ℕ} {c : Control} → r ≡ reply → c ≡ control → o ≡ no_bucket → n ≡ no_bucket
    → record { answer = r; split = c; old = o; new = n; block = left; table = after; file = now }
    ≡ alone control inserted
alone_is control e er ec eo en =
    as_loaded (er ∙ ap (λ (o : Outcome). o.answer) e) ec eo en (ap (λ (o : Outcome). o.block) e)
    (ap (λ (o : Outcome). o.table) e) (ap (λ (o : Outcome). o.file) e)

module _ (file table : List ℕ) (client key t : ℕ) where
  -- an insert that is refused is refused as it is
  pub controlled_refused : (inserted : Outcome) → (inserted.answer ≡ 0 → ⊥)
      → alone NotDue inserted ≡ controlled file table client key t inserted
  unfolding controlled
  controlled_refused inserted some = rw (ne_eqb inserted.answer 0 some)

  pub controlled_accepted : (inserted : Outcome) → inserted.answer ≡ 0
      → decided file table client key inserted (decision_on file key t) ≡ controlled file table client key t inserted
  unfolding controlled
  controlled_accepted inserted none = rw (eq-eqb inserted.answer 0 none)

  pub refused_as : (inserted : Outcome) {reply : ℕ} {left after : List ℕ}
      → record { answer = reply; block = left; table = after; file = file } ≡ inserted → (reply ≡ 0 → ⊥)
      → {r o n : ℕ} {c : Control} → r ≡ reply → c ≡ NotDue → o ≡ no_bucket → n ≡ no_bucket
      → record { answer = r; split = c; old = o; new = n; block = left; table = after; file = file }
      ≡ controlled file table client key t inserted
  refused_as inserted e some er ec eo en = alone_is NotDue e er ec eo en
      ∙ controlled_refused inserted (λ z. some (ap (λ (o : Outcome). o.answer) e ∙ z))

-- ---- at the key's own bucket

module _ {file table : List ℕ} {client key : ℕ} {header : Header} {image : Image} {walk : Walk} {a place : ℕ}
    (own : AtOwn file table client key header image walk a place) {count : ℕ}
    (en : count ≡ count_of (region_of file a)) where
  -- refused there: insert's 8 and 9
  pub load_away : {refused : ℕ} → refused ≡ refusal_at place count header.slots → (refused ≡ 0 → ⊥)
      → (t : ℕ) (payload : List ℕ) {r o n : ℕ} {c : Control} {left after : List ℕ}
      → r ≡ refused → c ≡ NotDue → o ≡ no_bucket → n ≡ no_bucket → left ≡ block refused (noted walk) 0 no_payload
      → after ≡ with_image table client (adjusted_by header.state image walk)
      → record { answer = r; split = c; old = o; new = n; block = left; table = after; file = file }
      ≡ controlled file table client key t (placed file table client key payload)
  load_away er some t payload e1 ec eo e2 el et =
      refused_as file table client key t _ (turned_away own en er some payload el et) some e1 ec eo e2

  module _ (none : refusal_at place count header.slots ≡ 0) where
    free : held file key ≡ false
    free = sym (held_is file key a own.own place count own.slot en)
        ∙ (accepted_at place count header.slots none).0

    open_slot : full file key ≡ false
    open_slot = sym (full_is file key a own.own header.slots count own.known.slots en)
        ∙ (accepted_at place count header.slots none).1

    accepted : (payload : List ℕ) → (placed file table client key payload).answer ≡ 0
    accepted payload = ap (λ (o : Outcome). o.answer) (sym (placed_done file table client key payload free open_slot))

    -- accepted: what is decided
    module _ (t : ℕ) {x : ℕ} (ex : x ≡ count + 1) {control : Control}
        (is : control ≡ decision header.state header.capacity header.most a x t) where
      control_is : control ≡ decision_on file key t
      unfolding decision_on
      control_is = is ∙ (λ i. decision (own.known.state i) (own.known.capacity i) (own.known.most i) (own.own i)
          ((ex ∙ count_is file key a own.own en) i) t)

      pub load_decided : (payload : List ℕ) {o : Loaded}
          → o ≡ decided file table client key (placed file table client key payload) control
          → o ≡ controlled file table client key t (placed file table client key payload)
      load_decided payload eo = eo
          ∙ ap (decided file table client key (placed file table client key payload)) control_is
          ∙ controlled_accepted file table client key t (placed file table client key payload) (accepted payload)

      -- stopped by an unsound region
      pub load_unsound : (payload : List ℕ) {regions : Regions} {number : ℕ} → regions ≡ regions_for file control
          → regions ≡ Unsound number → {r o n : ℕ} {c : Control} {left : List ℕ}
          → r ≡ 7 → c ≡ NotDue → o ≡ number → n ≡ no_bucket → left ≡ block 7 (noted walk) 0 no_payload
          → record { answer = r; split = c; old = o; new = n; block = left; table = table; file = file }
          ≡ controlled file table client key t (placed file table client key payload)
      unfolding together decided
      load_unsound payload er es e1 ec eo e2 el =
          let (done, bad) = unsound_done file control (sym er ∙ es) in
          let due-here : decision_on file key t ≡ Done = sym control_is ∙ done in
          as_loaded e1 ec eo e2 (el ∙ ap (λ (w : List ℕ). block 7 w 0 no_payload) own.way) refl refl
          ∙ ap (together file table client key (placed file table client key payload))
          (split_unsound_at file own.known.sound (room_on file key t due-here) bad)
          ∙ ap (decided file table client key (placed file table client key payload)) (sym due-here)
          ∙ controlled_accepted file table client key t (placed file table client key payload) (accepted payload)

-- ---- an insert and its split

-- what the insert keeps of the file, for the split
pub record Kept (file next : List ℕ) (header : Header) : Type 0 where
  pub known : Known next header
  pub more : buckets_of file < most_of file → buckets_of next < most_of next
  pub regions : buckets_of file < most_of file → regions_of next ≡ regions_of file

-- a file whose bucket n can be divided, by the header that was read of it
pub record Divisible (file : List ℕ) (header : Header) : Type 0 where
  pub known : Known file header
  pub more : buckets_of file < most_of file
  pub sound : regions_of file ≡ Sound

pub divisible_old : {file : List ℕ} {header : Header} → Divisible file header → {old : ℕ}
    → old ≡ splitting header.state → bucket_sound_in file old ≡ true
divisible_old {file} {header} can eo = ap (bucket_sound_in file) (split_number file header can.known eo)
    ∙ (sound_regions file can.sound).0

module _ {file next : List ℕ} {header : Header} (kept : Kept file next header) {control : Control}
    (room : Roomy file control) (sound : regions_for file control ≡ Sound) where
  pub divisible : control ≡ Done → Divisible next header
  divisible e = record {
    known = kept.known;
    more = kept.more (room.more e);
    sound = kept.regions (room.more e) ∙ sound_done file e sound;
  }

-- what the insert that is placed keeps
module _ {file table : List ℕ} {client key : ℕ} {header : Header} {image : Image} {walk : Walk} {a place : ℕ}
    (own : AtOwn file table client key header image walk a place) {count : ℕ}
    (en : count ≡ count_of (region_of file a)) (none : refusal_at place count header.slots ≡ 0) (payload : List ℕ) where
  pub kept_placed : Bytes file → Whole (record { key = key; payload = payload }) → {next : List ℕ}
      → next ≡ with_ride file a (record { key = key; payload = payload }) → Kept file next header
  kept_placed bytes whole {next} e = subst (λ (f : List ℕ). Kept file f header)
      (sym (inserted_is file key a own.own payload next e)) (record {
        known = inserted_known file bytes sound key payload whole good (free own en none) (open_slot own en none) header
            own.known;
        more = inserted_room file bytes sound key payload whole good (free own en none) (open_slot own en none);
        regions = inserted_regions file bytes sound key payload whole good (free own en none) (open_slot own en none);
      })
    where
      sound : header_sound file ≡ true
      sound = own.known.sound

      good : bucket_sound_in file (own_of file key) ≡ true
      good = ap (bucket_sound_in file) (sym own.own) ∙ own.good

-- both, or the insert alone, by what was decided
module _ (file table : List ℕ) (client key : ℕ) (payload : List ℕ) {left after next : List ℕ}
    (is : record { answer = 0; block = left; table = after; file = next } ≡ placed file table client key payload)
    {control : Control} where
  pub commit_not_due : control ≡ NotDue → {r o n : ℕ} {c : Control} → r ≡ 0 → c ≡ NotDue → o ≡ no_bucket
      → n ≡ no_bucket
      → record { answer = r; split = c; old = o; new = n; block = left; table = after; file = next }
      ≡ decided file table client key (placed file table client key payload) control
  unfolding decided
  commit_not_due e er ec eo en = alone_is NotDue is er ec eo en
      ∙ ap (decided file table client key (placed file table client key payload)) (sym e)

  pub commit_no_room : control ≡ NoRoom → {r o n : ℕ} {c : Control} → r ≡ 0 → c ≡ NoRoom → o ≡ no_bucket
      → n ≡ no_bucket
      → record { answer = r; split = c; old = o; new = n; block = left; table = after; file = next }
      ≡ decided file table client key (placed file table client key payload) control
  unfolding decided
  commit_no_room e er ec eo en = alone_is NoRoom is er ec eo en
      ∙ ap (decided file table client key (placed file table client key payload)) (sym e)

  pub commit_done : {header : Header} → Known file header → Roomy file control → regions_for file control ≡ Sound
      → Kept file next header → control ≡ Done → {r o n : ℕ} {c : Control} {last : List ℕ} → r ≡ 0 → c ≡ Done
      → o ≡ splitting header.state → n ≡ newborn first_buckets header.state → last ≡ divided next
      → record { answer = r; split = c; old = o; new = n; block = left; table = after; file = last }
      ≡ decided file table client key (placed file table client key payload) control
  unfolding decided together
  commit_done {header} known room sound kept e er ec eo en el =
      let can = divisible kept room sound e in
      as_loaded er ec (split_number file header known eo) (split_born file header known en)
      (ap (λ (o : Outcome). o.block) is)
      (ap (λ (o : Outcome). o.table) is)
      (el ∙ ap (λ (o : SplitOutcome). o.file) (split_sound_done next can.known.sound can.more can.sound)
      ∙ ap (λ (o : Outcome). (split o.file).file) is)
      ∙ ap (together file table client key (placed file table client key payload))
      (split_sound_done file known.sound (room.more e) (sound_done file e sound))
      ∙ ap (decided file table client key (placed file table client key payload)) (sym e)
