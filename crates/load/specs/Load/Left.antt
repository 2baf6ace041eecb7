-- What the call leaves, by its ways out: refused, 8, 9, accepted alone, accepted with its split, or stopped by a region
-- of the split. Its reply, as documents 01 and 02 list it. And that it is insert's outcome, alone or with the split of
-- the file as it was. The rest: proofs/Load/Left.antt.
use Rattle.std.specs.Prelude.{ℕ, ◌≤◌, ◌<◌, ◌≡◌, Bool, ◌&&◌, List, [], ◌∷◌, ◌++◌, leb, length}
use Rattle.std.proofs.Math.Path.{refl, sym, ap, subst}
use Rattle.std.proofs.Common.{ap₂, ◌∙◌, arith}
use Rattle.std.proofs.Math.Bool.{true, false, cond, not, and-false}
use Rattle.std.proofs.Math.Logic.{by_cases}
use Rattle.std.proofs.Math.Decide.{ℕ_discrete}
use borrow.Author.Tests.{eqb-true, eqb-false, eq-eqb, lt-leb}
use Rattle.std.proofs.Math.Dec.{eqb}
use Rattle.address.specs.Limits.{first_buckets}
use Rattle.address.specs.Load.{threshold_fits}
use Rattle.address.specs.Rules.{splitting, newborn}
use Rattle.layout.specs.Bytes.{all_zero}
use Rattle.layout.specs.Replies.{Refusal, Numbers, refuse, reply, reply_none, reply_here, reply_past, reply_append}
use Rattle.layout.specs.Replies.{numbers_append, reply_among}
use Rattle.layout.specs.Replies.Passing.{passes_back, passes_split, passes_on, refused_on}
use Rattle.bucket.specs.Region.{every}
use Rattle.client.specs.Table.{image_of}
use Rattle.file.specs.File.{most_of, state_of, buckets_of, header_sound, region_of, bucket_sound_in, SplitOutcome}
use Rattle.file.specs.File.{split}
use Rattle.file.specs.File.Split.{split_reply}
use Rattle.answer.specs.Answer.{block, no_payload}
use Rattle.route.specs.Way.{early, way_of, held, full}
use Rattle.route.specs.Way.Open.{early_numbered, early_passes}
use Rattle.ride.specs.Call.{Outcome, adjusted_table, count_then, inserted, insert}
use Rattle.ride.specs.Call.Left.{Through, insert_reply}
use Rattle.load.specs.declared.Control.{Control}
use Rattle.load.specs.declared.Control.TheVariants.{NotDue, Done, NoRoom}
use Rattle.load.specs.Load.{number, decision_on, Loaded, alone, together, decided, controlled, unranged}
use Rattle.load.specs.Load.{insert_split}
use Rattle.load.specs.Load.Decision.{not_due_done, no_room_done, done_number}
use Rattle.load.specs.Load.Own.{controlled_refused, controlled_accepted}
use Rattle.load.specs.Load.Decision.{other_number, room_on}

-- a refusal that leaves table and file as they were: not 8 nor 9, and with 14 the answer block too
pub record Spared (file table answer : List ℕ) (o : Loaded) : Type 0 where
  pub some : 2 ≤ o.answer
  pub before : (o.answer ≡ 8 → ⊥) × (o.answer ≡ 9 → ⊥)
  pub table_left : o.table ≡ table
  pub file_left : o.file ≡ file
  pub block_left : o.answer ≡ 14 → o.block ≡ answer

-- a call that has passed 14, 15, 2 to 6 and 7 on its route; and one whose insert is accepted
pub record Passing (file table : List ℕ) (client key : ℕ) (payload : List ℕ) (t : ℕ) (answer : List ℕ) : Type 0 where
  pub ranged : threshold_fits t ≡ true
  pub through : Through (eqb (length answer) 24 && eqb (length payload) 14) file table client key

pub record Accepting (file table : List ℕ) (client key : ℕ) (payload : List ℕ) (t : ℕ) (answer : List ℕ) : Type 0 where
  pub passing : Passing file table client key payload t answer
  pub free : held file key ≡ false
  pub room : full file key ≡ false

-- a refused split is refused by 5, 7 or 10
split_numbers : (file : List ℕ) → ((split file).answer ≡ 0 → ⊥)
    → (2 ≤ (split file).answer) × ((split file).answer ≤ 10) × ((split file).answer ≡ 8 → ⊥)
    × ((split file).answer ≡ 9 → ⊥)
split_numbers file some = subst Among (sym (split_reply file))
    (reply_among Among _ (five, (ten, (seven, (seven, tt)))) 0 (λ z. absurd (z refl)))
    some
  where
    Among : ℕ → Type 0
    Among n = (n ≡ 0 → ⊥) → (2 ≤ n) × (n ≤ 10) × (n ≡ 8 → ⊥) × (n ≡ 9 → ⊥)

    five : Among 5
    five z = (omega arith, omega arith, λ e. omega (arith, e), λ e. omega (arith, e))

    seven : Among 7
    seven z = (omega arith, omega arith, λ e. omega (arith, e), λ e. omega (arith, e))

    ten : Among 10
    ten z = (omega arith, omega arith, λ e. omega (arith, e), λ e. omega (arith, e))

-- of a split that was judged only its answer and its numbers count
pub together_same : (file table : List ℕ) (client key : ℕ) (first : Outcome) (x y : SplitOutcome) → x.answer ≡ y.answer
    → x.old ≡ y.old → x.new ≡ y.new
    → together file table client key first x ≡ together file table client key first y
unfolding together
together_same file table client key first x y ea eo en = λ i. cond (eqb (ea i) 0)
    (record {
      answer = 0;
      split = Done;
      old = eo i;
      new = en i;
      block = first.block;
      table = first.table;
      file = (split first.file).file;
    })
    (record {
      answer = ea i;
      split = NotDue;
      old = eo i;
      new = en i;
      block = block (ea i) (way_of file (image_of table client) key) 0 no_payload;
      table = table;
      file = file;
    })

-- and where it is done, both are
pub together_done : (file table : List ℕ) (client key : ℕ) (first : Outcome) (judged : SplitOutcome)
    → judged.answer ≡ 0
    → record {
      answer = 0;
      split = Done;
      old = judged.old;
      new = judged.new;
      block = first.block;
      table = first.table;
      file = (split first.file).file;
    } ≡ together file table client key first judged
unfolding together
together_done file table client key first judged e = rw (eq-eqb judged.answer 0 e)

-- a threshold out of range leaves table and file as they were
pub unranged_spared : (file table answer : List ℕ) → Spared file table answer (alone NotDue (unranged file table))
unfolding unranged
unranged_spared file table answer = record {
  some = omega arith;
  before = (λ z. omega (arith, z), λ z. omega (arith, z));
  table_left = refl;
  file_left = refl;
  block_left = λ z. absurd (omega (arith, z));
}

module _ (file table : List ℕ) (client key : ℕ) (payload : List ℕ) (t : ℕ) (answer : List ℕ) where
  -- with a threshold in range, or lengths that do not fit, it is insert's outcome and the decision
  pub load_is : (b : Bool) → (eqb (length answer) 24 && eqb (length payload) 14 && not (threshold_fits t)) ≡ b
      → cond b (alone NotDue (unranged file table))
      (controlled file table client key t (insert file table client key payload answer))
      ≡ insert_split file table client key payload t answer
  unfolding insert_split
  load_is b e = ap (λ (c : Bool). cond c (alone NotDue (unranged file table))
      (controlled file table client key t (insert file table client key payload answer))) (sym e)

  -- what an accepted insert leaves, without a split and with one
  abbrev pub accepted : Outcome
  accepted = record {
    answer = 0;
    block = block 0 (way_of file (image_of table client) key) (count_then file key) no_payload;
    table = adjusted_table file table client key;
    file = inserted file key payload;
  }

  abbrev pub divided : Loaded
  divided = record {
    answer = 0;
    split = Done;
    old = (split file).old;
    new = (split file).new;
    block = block 0 (way_of file (image_of table client) key) (count_then file key) no_payload;
    table = adjusted_table file table client key;
    file = (split (inserted file key payload)).file;
  }

  -- an accepted insert, by the decision
  pub accepted_ways : (P : Loaded → Type 0) → Accepting file table client key payload t answer
      → ((control : Control) → decision_on file key t ≡ control → (control ≡ Done → ⊥) → P (alone control accepted))
      → (decision_on file key t ≡ Done → (split file).answer ≡ 0 → P divided)
      → (decision_on file key t ≡ Done → ((split file).answer ≡ 0 → ⊥) → (o : Loaded) → Spared file table answer o
      → P o)
      → P (decided file table client key accepted (decision_on file key t))
  unfolding decided together
  accepted_ways P all single both stopped = go (decision_on file key t) refl
    where
      halves : decision_on file key t ≡ Done → (b : Bool) → eqb (split file).answer 0 ≡ b
          → P (cond b divided (record {
            answer = (split file).answer;
            split = NotDue;
            old = (split file).old;
            new = (split file).new;
            block = block (split file).answer (way_of file (image_of table client) key) 0 no_payload;
            table = table;
            file = file;
          }))
      halves due true e = both due (eqb-true _ 0 e)
      halves due false e =
          let (some, few, eight, nine) = split_numbers file (eqb-false _ 0 e) in
          stopped due (eqb-false _ 0 e) _ (record {
            some = some;
            before = (eight, nine);
            table_left = refl;
            file_left = refl;
            block_left = λ z. absurd (omega (arith, z, few));
          })

      go : (control : Control) → decision_on file key t ≡ control → P (decided file table client key accepted control)
      go NotDue e = single NotDue e not_due_done
      go NoRoom e = single NoRoom e no_room_done
      go Done e = halves e (eqb (split file).answer 0) refl

  -- ---- its reply, as documents 01 and 02 list it

  -- 2 to 9 as insert has them, and behind them 7 for a region of a split that is due and possible
  abbrev pub first_replies : List Refusal
  first_replies = early file table client
      ++ (refuse 7 (not (every (bucket_sound_in file) (way_of file (image_of table client) key)))
      ∷ refuse 8 (held file key)
      ∷ refuse 9 (full file key) ∷ [])

  abbrev pub splits : Bool
  splits = eqb (number (decision_on file key t)) 1

  abbrev pub last_replies : List Refusal
  last_replies =
      refuse 7 (splits && not (bucket_sound_in file (splitting (state_of file))))
      ∷ refuse 7 (splits && not (all_zero (region_of file (newborn first_buckets (state_of file)))))
      ∷ []

  first_numbered : Numbers (λ n. n ≡ 0 → ⊥) first_replies
  first_numbered = numbers_append (λ n. n ≡ 0 → ⊥) (early file table client) _ (early_numbered file table client)
      ((λ z. omega (arith, z)), ((λ z. omega (arith, z)), ((λ z. omega (arith, z)), tt)))

  -- an accepted insert's header is sound
  header_passed : reply first_replies 0 ≡ 0 → header_sound file ≡ true
  header_passed none = (early_passes file table client
      (passes_on (early file table client)
      (passes_split (early file table client) _ (passes_back first_replies first_numbered none)).0 0)).2

  -- behind an accepted insert: 0 without a split, else the split's own reply
  last_is : (b : Bool) → splits ≡ b → reply last_replies 0
      ≡ reply (refuse 7 (b && not (bucket_sound_in file (splitting (state_of file))))
      ∷ refuse 7 (b && not (all_zero (region_of file (newborn first_buckets (state_of file))))) ∷ []) 0
  last_is b e = ap (λ (c : Bool). reply (refuse 7 (c && not (bucket_sound_in file (splitting (state_of file))))
      ∷ refuse 7 (c && not (all_zero (region_of file (newborn first_buckets (state_of file))))) ∷ []) 0) e

  last_none : splits ≡ false → reply last_replies 0 ≡ 0
  last_none e = last_is false e ∙ reply_past 7 false _ 0 refl ∙ reply_past 7 false _ 0 refl ∙ reply_none 0

  last_split : header_sound file ≡ true → buckets_of file < most_of file → splits ≡ true
      → (split file).answer ≡ reply last_replies 0
  last_split header more e = split_reply file
      ∙ reply_past 5 (not (header_sound file)) _ 0 (ap not header)
      ∙ reply_past 10 (leb (most_of file) (buckets_of file)) _ 0 (lt-leb (most_of file) (buckets_of file) more)
      ∙ sym (last_is true e)

  decided_reply : (o : Outcome) → o.answer ≡ 0 → header_sound file ≡ true
      → (decided file table client key o (decision_on file key t)).answer ≡ reply last_replies 0
  unfolding decided together
  decided_reply o none header = go (decision_on file key t) refl
    where
      judged : (b : Bool) → eqb (split file).answer 0 ≡ b
          → cond b 0 (split file).answer ≡ (split file).answer
      judged true e = sym (eqb-true _ 0 e)
      judged false e = refl

      answered : (b : Bool) (x y : Loaded) → (cond b x y).answer ≡ cond b x.answer y.answer
      answered true x y = refl
      answered false x y = refl

      go : (control : Control) → decision_on file key t ≡ control
          → (decided file table client key o control).answer ≡ reply last_replies 0
      go NotDue e = none ∙ sym (last_none (ap (λ (c : Control). eqb (number c) 1) e ∙ other_number NotDue not_due_done))
      go NoRoom e = none ∙ sym (last_none (ap (λ (c : Control). eqb (number c) 1) e ∙ other_number NoRoom no_room_done))
      go Done e = answered (eqb (split file).answer 0) _ _ ∙ judged (eqb (split file).answer 0) refl
          ∙ last_split header (room_on file key t e)
          (ap (λ (c : Control). eqb (number c) 1) e ∙ done_number)

  -- 14, 15, then insert's, then the split's
  pub load_reply : (insert_split file table client key payload t answer).answer
      ≡ reply (refuse 14 (not (eqb (length answer) 24 && eqb (length payload) 14)) ∷ refuse 15 (not (threshold_fits t))
      ∷ (first_replies ++ last_replies)) 0
  unfolding unranged
  load_reply = go (eqb (length answer) 24 && eqb (length payload) 14) refl (threshold_fits t) refl
    where
      inserting : Outcome
      inserting = insert file table client key payload answer

      fits : Bool
      fits = eqb (length answer) 24 && eqb (length payload) 14

      -- by the insert, where the threshold is in range
      by_insert : (fits && not (threshold_fits t)) ≡ false → insert_split file table client key payload t answer
          ≡ controlled file table client key t inserting
      by_insert e = sym (load_is false e)

      controlled_reply : fits ≡ true → (controlled file table client key t inserting).answer
          ≡ reply (first_replies ++ last_replies) 0
      controlled_reply e = by_cases (ℕ_discrete inserting.answer 0)
          (λ none. ap (λ (o : Loaded). o.answer) (sym (controlled_accepted file table client key t inserting none))
          ∙ decided_reply inserting none (header_passed (sym first ∙ none))
          ∙ sym (behind ∙ passes_on first_replies (passes_back first_replies first_numbered (sym first ∙ none)) _))
          (λ some. ap (λ (o : Loaded). o.answer) (sym (controlled_refused file table client key t inserting some))
          ∙ sym (behind ∙ refused_on first_replies first_numbered inserting.answer (sym first) some _))
        where
          first : inserting.answer ≡ reply first_replies 0
          first = insert_reply file table client key payload answer ∙ reply_past 14 (not fits) _ 0 (ap not e)

          behind : reply (first_replies ++ last_replies) 0 ≡ reply first_replies (reply last_replies 0)
          behind = reply_append first_replies last_replies 0

      go : (x : Bool) → fits ≡ x → (y : Bool) → threshold_fits t ≡ y
          → (insert_split file table client key payload t answer).answer
          ≡ reply (refuse 14 (not fits) ∷ refuse 15 (not (threshold_fits t)) ∷ (first_replies ++ last_replies)) 0
      go false ex y ey =
          ap (λ (o : Loaded). o.answer) (by_insert (ap (λ (b : Bool). b && not (threshold_fits t)) ex))
          ∙ ap (λ (o : Loaded). o.answer) (sym (controlled_refused file table client key t inserting some))
          ∙ first ∙ sym (reply_here 14 (not fits) _ 0 (ap not ex))
        where
          first : inserting.answer ≡ 14
          first = insert_reply file table client key payload answer ∙ reply_here 14 (not fits) _ 0 (ap not ex)

          some : inserting.answer ≡ 0 → ⊥
          some z = omega (arith, z, first)
      go true ex false ey = ap (λ (o : Loaded). o.answer)
          (sym (load_is true (ap₂ (λ (b c : Bool). b && not c) ex ey)))
          ∙ sym (reply_past 14 (not fits) _ 0 (ap not ex) ∙ reply_here 15 (not (threshold_fits t)) _ 0 (ap not ey))
      go true ex true ey = ap (λ (o : Loaded). o.answer) (by_insert (ap₂ (λ (b c : Bool). b && not c) ex ey))
          ∙ controlled_reply ex
          ∙ sym (reply_past 14 (not fits) _ 0 (ap not ex) ∙ reply_past 15 (not (threshold_fits t)) _ 0 (ap not ey))

  -- ---- it is insert's outcome, followed where due and possible by the split of the file as it was

  module _ (ranged : threshold_fits t ≡ true) where
    by_insert : controlled file table client key t (insert file table client key payload answer)
        ≡ insert_split file table client key payload t answer
    by_insert = load_is false
        (ap (λ (b : Bool). eqb (length answer) 24 && eqb (length payload) 14 && not b) ranged
        ∙ and-false (eqb (length answer) 24 && eqb (length payload) 14))

    -- refused as insert is
    pub load_refused_as : ((insert file table client key payload answer).answer ≡ 0 → ⊥)
        → alone NotDue (insert file table client key payload answer)
        ≡ insert_split file table client key payload t answer
    load_refused_as some =
        controlled_refused file table client key t (insert file table client key payload answer) some ∙ by_insert

    module _ (none : (insert file table client key payload answer).answer ≡ 0) where
      by_decision : decided file table client key (insert file table client key payload answer) (decision_on file key t)
          ≡ insert_split file table client key payload t answer
      by_decision = controlled_accepted file table client key t (insert file table client key payload answer) none
          ∙ by_insert

      -- accepted with a split: judged in the file as it was
      pub load_together : decision_on file key t ≡ Done
          → together file table client key (insert file table client key payload answer) (split file)
          ≡ insert_split file table client key payload t answer
      unfolding decided
      load_together e =
          ap (decided file table client key (insert file table client key payload answer)) (sym e) ∙ by_decision

      -- accepted, without a split
      pub load_alone : (control : Control) → decision_on file key t ≡ control → (control ≡ Done → ⊥)
          → alone control (insert file table client key payload answer)
          ≡ insert_split file table client key payload t answer
      unfolding decided
      load_alone NotDue e other =
          ap (decided file table client key (insert file table client key payload answer)) (sym e) ∙ by_decision
      load_alone NoRoom e other =
          ap (decided file table client key (insert file table client key payload answer)) (sym e) ∙ by_decision
      load_alone Done e other = absurd (other refl)
