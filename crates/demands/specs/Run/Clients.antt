-- Demand 3: a sound file and a sound table with no client ahead stay so; a key sent reaches its own bucket in at most
-- two forwards; a wrong first send makes the client believe in more buckets, and it never believes in more than there
-- are.
use Rattle.std.specs.Prelude.{ℕ, ◌+◌, ◌*◌, ◌≤◌, ◌<◌, ◌≡◌, Bool, ◌&&◌, length}
use Rattle.std.proofs.Math.Path.{refl, sym, ap, subst}
use Rattle.std.proofs.Common.{◌∙◌, eqb-true}
use Rattle.std.proofs.Math.Bool.{true, false, cond, not}
use mathlib.Core.List.{List, [], ◌∷◌}
use Rattle.std.proofs.Math.Logic.{by_cases}
use Rattle.std.proofs.Math.Decide.{ℕ_discrete}
use native.Mathlib.Omega.{arith}
use Rattle.std.proofs.lemmas.Bool.{eqb-false}
use Rattle.std.proofs.Math.Dec.{eqb}
use Rattle.address.specs.Limits.{first_buckets}
use Rattle.address.specs.Load.{threshold_fits}
use Rattle.address.specs.declared.Image.{Image}
use Rattle.address.specs.Rules.{«at», Formed, NotAhead, address, buckets, image_after, route, forwards}
use Rattle.address.proofs.Rules.Adjust.{after_more}
use Rattle.address.specs.Rules.Cases.{buckets_is}
use Rattle.address.specs.Rules.Hash.{span_is, span_pos}
use Rattle.address.specs.Rules.Route.{Delivered, delivered, forwards_is, forwards_short, route_right, first_right}
use Rattle.layout.specs.Bytes.Tests.{and_left, and_right}
use Rattle.layout.specs.Replies.{reply}
use Rattle.client.specs.Table.{exists, image_of, table_sound, table_refusals, with_image}
use Rattle.client.specs.Table.Keeping.{written_image, written_exists, other_image, table_kept}
use Rattle.client.specs.Table.Laws.{join_ways, record_fits}
use Rattle.file.specs.File.Judge.{existing}
use Rattle.file.specs.File.Keeping.{sound_split}
use Rattle.file.specs.File.{state_of, buckets_of, bucket_sound_in, SplitOutcome}
use Rattle.route.specs.Way.{early, own_of}
use Rattle.route.specs.Way.Keeping.{Passed, passed, formed, believes, near, written_behind, written_grows, route_sound}
use Rattle.route.specs.Way.Own.{own_is}
use Rattle.route.specs.Way.Route.{way_route, cut_none}
use Rattle.ride.specs.Call.{adjusted_table}
use Rattle.ride.specs.Call.Keeping.{adjusted_image, adjusted_other, adjusted_exists, adjusted_kept}
use Rattle.ride.specs.Call.Left.{search_ways, insert_ways}
use Rattle.load.proofs.Load.Left.{load_ways}
use Rattle.load.specs.Load.Decision.{room_on}
use Rattle.demands.specs.Run.{Memory, Call, Join, Insert, InsertSplit, Search, Split, Scan, Check, View, Parent}
use Rattle.demands.specs.Run.{Typed, AllTyped, Each, left, left_loaded, after, run, replied, answered, visited}
use Rattle.demands.specs.Run.{VisitsOnce, Ready, Sent, Nothing, Key, sent_if, sent, route_of, Reached, believed}
use Rattle.demands.specs.Run.{wrong_first, forwards_of, summed, NotJoined}
use Rattle.scan.specs.Scan.Outcome.{scan_visits_once, scan_visits_only}
use Rattle.demands.specs.Run.Held.{step, through}

-- what becomes of the table: sound, no client ahead, the same clients, and none of them believes in fewer buckets
-- unless it is joined anew
record Behind (call : Call) (file table now : List ℕ) : Type 0 where
  sound : table_sound now ≡ true
  none_ahead : (client : ℕ) → exists now client ≡ true → NotAhead first_buckets (state_of file) (image_of now client)
  there : (client : ℕ) → exists now client ≡ exists table client
  grows : (client : ℕ) → (call ≡ Join client → ⊥) → exists table client ≡ true
      → buckets first_buckets (image_of table client) ≤ buckets first_buckets (image_of now client)

module _ (m : Memory) (ready : Ready m) where
  as_it_was : (call : Call) (now : List ℕ) → now ≡ m.table → Behind call m.file m.table now
  as_it_was call now e = subst (Behind call m.file m.table) (sym e) (record {
    sound = ready.table_is_sound;
    none_ahead = ready.none_ahead;
    there = λ client. refl;
    grows = λ client old there. omega arith;
  })

  -- a key call that reaches the key's own bucket
  module _ (client key : ℕ) (open_to : Passed m.file m.table client) where
    image : Image
    image = image_of m.table client

    next : Image
    next = image_after first_buckets (state_of m.file) image key

    now : List ℕ
    now = adjusted_table m.file m.table client key

    adjusted_behind : (call : Call) → Behind call m.file m.table now
    unfolding now next image
    adjusted_behind call = record {
      sound = adjusted_kept m.file m.table client key open_to ready.table_is_sound;
      none_ahead = λ other there. by_cases (ℕ_discrete other client)
          (λ e. subst (λ (x : ℕ). NotAhead first_buckets (state_of m.file) (image_of now x)) (sym e)
          (subst (NotAhead first_buckets (state_of m.file))
          (sym (adjusted_image m.file m.table client key open_to))
          (written_behind m.file m.table client key open_to)))
          (λ apart. subst (NotAhead first_buckets (state_of m.file))
          (sym (adjusted_other m.file m.table client key open_to other apart))
          (ready.none_ahead other (sym (adjusted_exists m.file m.table client key open_to other) ∙ there)));
      there = adjusted_exists m.file m.table client key open_to;
      grows = λ other old there. by_cases (ℕ_discrete other client)
          (λ e. subst (λ (x : ℕ). buckets first_buckets (image_of m.table x) ≤ buckets first_buckets (image_of now x))
          (sym e)
          (omega (
            arith,
            ap (buckets first_buckets) (adjusted_image m.file m.table client key open_to),
            written_grows
                m.file m.table client key open_to,
          )))
          (λ apart. omega
          (arith, ap (buckets first_buckets) (adjusted_other m.file m.table client key open_to other apart)));
    }

    -- a wrong first bucket makes the client believe in more
    wrong_grows : (address first_buckets image key ≡ own_of m.file key → ⊥)
        → buckets first_buckets image < buckets first_buckets (image_of now client)
    unfolding now next image
    wrong_grows wrong = omega (
      arith,
      ap (buckets first_buckets) (adjusted_image m.file m.table client key open_to),
      after_more first_buckets (omega arith) (state_of m.file) (formed m.file m.table client open_to)
          (image_of m.table client) (believes m.file m.table client open_to)
          (near m.file m.table client open_to) key
          (λ keeps. wrong
          ((first_right first_buckets (omega arith) (state_of m.file) (formed m.file m.table client open_to)
          (image_of m.table client) (believes m.file m.table client open_to)
          (near m.file m.table client open_to) key).1 keeps ∙ sym (own_is m.file key _ refl))),
    )

  -- a join writes (0, 0), which believes in one bucket
  join_behind : (client : ℕ) → reply (table_refusals m.table client) 0 ≡ 0
      → Behind (Join client) m.file m.table (with_image m.table client («at» 0 0))
  join_behind client none = record {
    sound = table_kept m.table client («at» 0 0) fits (omega arith) first_formed ready.table_is_sound;
    none_ahead = λ other there. by_cases (ℕ_discrete other client)
        (λ e. subst
        (λ (x : ℕ). NotAhead first_buckets (state_of m.file) (image_of (with_image m.table client («at» 0 0)) x))
        (sym e)
        (subst (NotAhead first_buckets (state_of m.file))
        (sym (written_image m.table client («at» 0 0) fits (omega arith) first_formed)) least))
        (λ apart. subst (NotAhead first_buckets (state_of m.file))
        (sym (other_image m.table client («at» 0 0) fits other apart))
        (ready.none_ahead other (sym (written_exists m.table client («at» 0 0) fits other) ∙ there)));
    there = written_exists m.table client («at» 0 0) fits;
    grows = λ other old there. omega (
      arith,
      ap (buckets first_buckets)
          (other_image m.table client («at» 0 0) fits other (λ e. old (ap Join (sym e)))),
    );
  }
    where
      fits : 8 * client + 8 ≤ length m.table
      fits = record_fits m.table client none

      first_formed : Formed first_buckets («at» 0 0)
      first_formed = span_pos first_buckets (omega arith) 0

      least : NotAhead first_buckets (state_of m.file) («at» 0 0)
      least = omega (
        arith,
        buckets_is first_buckets («at» 0 0),
        span_is first_buckets 0,
        buckets_is first_buckets
            (state_of m.file),
        span_pos first_buckets (omega arith) (state_of m.file).level,
      )

  table_step : (call : Call) → Behind call m.file m.table (after m call).table
  unfolding after left left_loaded now answered
  table_step (Join client) = join_ways (λ o. Behind (Join client) m.file m.table o.table) m.table client
      (λ r e some. as_it_was (Join client) m.table refl) (join_behind client)
  table_step (Insert client key payload answer) = insert_ways m.file m.table client key payload answer
      (λ o. Behind (Insert client key payload answer) m.file m.table o.table)
      (λ o r. as_it_was _ o.table r.table_left)
      (λ w held. adjusted_behind client key (passed _ _ client w.none) _)
      (λ w free whole. adjusted_behind client key (passed _ _ client w.none) _)
      (λ w free room. adjusted_behind client key (passed _ _ client w.none) _)
  table_step (InsertSplit client key payload t answer) = load_ways m.file m.table client key payload t answer
      (λ o. Behind (InsertSplit client key payload t answer) m.file m.table o.table)
      (λ o r why. as_it_was _ o.table r.table_left)
      (λ w held. adjusted_behind client key (passed _ _ client w.through.none) _)
      (λ w free whole. adjusted_behind client key (passed _ _ client w.through.none) _)
      (λ w control is single. adjusted_behind client key (passed _ _ client w.passing.through.none) _)
      (λ w due judged. adjusted_behind client key (passed _ _ client w.passing.through.none) _)
      (λ w due bad o r. as_it_was _ o.table r.table_left)
  table_step (Search client key answer) = search_ways m.file m.table client key answer
      (λ o. Behind (Search client key answer) m.file m.table o.table)
      (λ o r. as_it_was _ o.table r.table_left)
      (λ w held. adjusted_behind client key (passed _ _ client w.none) _)
      (λ w absent. adjusted_behind client key (passed _ _ client w.none) _)
  table_step Split = as_it_was Split m.table refl
  table_step (Scan client lift visits matches) = as_it_was (Scan client lift visits matches) m.table refl
  table_step Check = as_it_was Check m.table refl
  table_step (View bucket) = as_it_was (View bucket) m.table refl
  table_step (Parent bucket) = as_it_was (Parent bucket) m.table refl

  -- all of it holds again after the call
  pub ready_step : (call : Call) → Typed call → Ready (after m call)
  ready_step call typed =
      let grown = step m ready.bytes ready.file_is_sound call typed in
      let behind = table_step call in
      record {
        bytes = grown.bytes;
        file_is_sound = grown.sound;
        table_is_sound = behind.sound;
        none_ahead = λ client there. omega
            (arith, behind.none_ahead client there, grown.up, existing m.file, existing (after m call).file);
      }

  -- ---- a key that is sent

  module _ (client key : ℕ) (none : reply (early m.file m.table client) 0 ≡ 0) where
    open_to : Passed m.file m.table client
    open_to = passed m.file m.table client none

    -- in a sound file no bucket on its route is unsound, so the route is whole
    route_whole : route_of m client key ≡ route first_buckets (state_of m.file) (image_of m.table client) key
    unfolding route_of
    route_whole = cut_none (bucket_sound_in m.file) _
        (route_sound m.file m.table client key open_to ready.file_is_sound)
        ∙ way_route m.file (image_of m.table client) key

    -- it reaches its own bucket in at most two forwards, each to a higher-numbered bucket
    sent_delivered : (h : ℕ) × (h ≤ 2)
        × Delivered first_buckets (state_of m.file) key (address first_buckets (image_of m.table client) key) h
        (route_of m client key)
    sent_delivered = rw route_whole
        (delivered first_buckets (omega arith) (state_of m.file) (formed m.file m.table client open_to)
        (image_of m.table client)
        (believes m.file m.table client open_to) (near m.file m.table client open_to) key)

    -- without any if the first bucket is its own
    right_first : address first_buckets (image_of m.table client) key ≡ own_of m.file key
        → forwards (route_of m client key) ≡ 0
    right_first e = ap forwards
        (route_whole ∙ route_right first_buckets (omega arith) (state_of m.file)
        (formed m.file m.table client open_to) (image_of m.table client)
        (believes m.file m.table client open_to) (near m.file m.table client open_to) key
        ((first_right first_buckets (omega arith) (state_of m.file) (formed m.file m.table client open_to)
        (image_of m.table client)
        (believes m.file m.table client open_to) (near m.file m.table client open_to) key).0
        (e ∙ own_is m.file key _ refl)))
        ∙ forwards_is _

    two_forwards : forwards (route_of m client key) ≤ 2
    two_forwards = rw route_whole
        (forwards_short first_buckets (omega arith) (state_of m.file) (formed m.file m.table client open_to)
        (image_of m.table client)
        (believes m.file m.table client open_to) (near m.file m.table client open_to) key)

  -- a key is sent, or nothing is
  sent_ways : (P : Sent → Type 0) (fits : Bool) (client key : ℕ)
      → (fits ≡ true → reply (early m.file m.table client) 0 ≡ 0 → P (Key client key)) → P Nothing
      → P (sent_if fits m client key)
  unfolding sent_if
  sent_ways P fits client key key-sent nothing = go fits refl (eqb (reply (early m.file m.table client) 0) 0) refl
    where
      go : (x : Bool) → fits ≡ x → (y : Bool) → eqb (reply (early m.file m.table client) 0) 0 ≡ y
          → P (cond (x && y) (Key client key) Nothing)
      go false ex y ey = nothing
      go true ex false ey = nothing
      go true ex true ey = key-sent ex (eqb-true _ 0 ey)

  sent_by : (P : Sent → Type 0) → P Nothing
      → ((client key : ℕ) → reply (early m.file m.table client) 0 ≡ 0 → P (Key client key)) → (call : Call)
      → P (sent m call)
  unfolding sent
  sent_by P nothing key-sent (Join client) = nothing
  sent_by P nothing key-sent (Insert client key payload answer) = sent_ways P _ client key (λ fits. key-sent client key)
      nothing
  sent_by P nothing key-sent (InsertSplit client key payload t answer) = sent_ways P _ client key
      (λ fits. key-sent client key) nothing
  sent_by P nothing key-sent (Search client key answer) = sent_ways P _ client key (λ fits. key-sent client key) nothing
  sent_by P nothing key-sent Split = nothing
  sent_by P nothing key-sent (Scan client lift visits matches) = nothing
  sent_by P nothing key-sent Check = nothing
  sent_by P nothing key-sent (View bucket) = nothing
  sent_by P nothing key-sent (Parent bucket) = nothing

  pub sent_reaches : (call : Call) → Reached m (sent m call)
  unfolding Reached
  sent_reaches = sent_by (Reached m) tt sent_delivered

  -- forwards are at most twice the wrong first sends
  pub forwards_twice : (client : ℕ) (call : Call)
      → forwards_of client m (sent m call) ≤ 2 * wrong_first client m (sent m call)
  unfolding forwards_of wrong_first
  forwards_twice client call = sent_by (λ s. forwards_of client m s ≤ 2 * wrong_first client m s) (omega arith) of_key
      call
    where
      of_key : (other key : ℕ) → reply (early m.file m.table other) 0 ≡ 0
          → forwards_of client m (Key other key) ≤ 2 * wrong_first client m (Key other key)
      of_key other key none = go (eqb other client) refl
          (eqb (address first_buckets (image_of m.table client) key) (own_of m.file key)) refl
        where
          go : (mine : Bool) → eqb other client ≡ mine → (right : Bool)
              → eqb (address first_buckets (image_of m.table client) key) (own_of m.file key) ≡ right
              → cond mine (forwards (route_of m client key)) 0 ≤ 2 * cond (mine && not right) 1 0
          go false em right er = omega arith
          go true em true er = omega (
            arith,
            right_first client key
                (subst (λ (c : ℕ). reply (early m.file m.table c) 0 ≡ 0) (eqb-true _ _ em) none)
                (eqb-true _ _ er),
          )
          go true em false er = omega (
            arith,
            two_forwards client key
                (subst (λ (c : ℕ). reply (early m.file m.table c) 0 ≡ 0) (eqb-true _ _ em) none),
          )

  -- a key that is sent is followed by the adjustment
  inserting : (client key : ℕ) (payload answer : List ℕ) → (eqb (length answer) 24 && eqb (length payload) 14) ≡ true
      → reply (early m.file m.table client) 0 ≡ 0
      → (after m (Insert client key payload answer)).table ≡ adjusted_table m.file m.table client key
  unfolding after left answered
  inserting client key payload answer fits none = insert_ways m.file m.table client key payload answer
      (λ o. o.table ≡ adjusted_table m.file m.table client key)
      (λ o r. absurd (r.why (through m.file m.table ready.file_is_sound _ client key fits none)))
      (λ w held. refl) (λ w free whole. refl) (λ w free room. refl)

  loading : (client key : ℕ) (payload : List ℕ) (t : ℕ) (answer : List ℕ)
      → (eqb (length answer) 24 && eqb (length payload) 14 && threshold_fits t) ≡ true
      → reply (early m.file m.table client) 0 ≡ 0
      → (after m (InsertSplit client key payload t answer)).table ≡ adjusted_table m.file m.table client key
  unfolding after left_loaded answered
  loading client key payload t answer fits none = load_ways m.file m.table client key payload t answer
      (λ o. o.table ≡ adjusted_table m.file m.table client key)
      (λ o r why. absurd (why (record {
        ranged = and_right (eqb (length answer) 24 && eqb (length payload) 14) _ fits;
        through = through m.file m.table ready.file_is_sound _ client key (and_left _ (threshold_fits t) fits)
            none;
      })))
      (λ w held. refl) (λ w free whole. refl) (λ w control is single. refl) (λ w due judged. refl)
      (λ w due bad o r. absurd (bad (sym (ap (λ (s : SplitOutcome). s.answer)
      (sound_split m.file ready.file_is_sound (room_on m.file key t due))))))

  searching : (client key : ℕ) (answer : List ℕ) → eqb (length answer) 24 ≡ true
      → reply (early m.file m.table client) 0 ≡ 0
      → (after m (Search client key answer)).table ≡ adjusted_table m.file m.table client key
  unfolding after left answered
  searching client key answer fits none = search_ways m.file m.table client key answer
      (λ o. o.table ≡ adjusted_table m.file m.table client key)
      (λ o r. absurd (r.why (through m.file m.table ready.file_is_sound _ client key fits none)))
      (λ w held. refl) (λ w absent. refl)

  -- a wrong first send makes the client believe in more, nothing in less unless it joins anew
  module _ (client : ℕ) (there : exists m.table client ≡ true) where
    counted_key : (call : Call) → (call ≡ Join client → ⊥) → (other key : ℕ)
        → reply (early m.file m.table other) 0 ≡ 0
        → (after m call).table ≡ adjusted_table m.file m.table other key
        → wrong_first client m (Key other key) + believed client m ≤ believed client (after m call)
    unfolding wrong_first believed now image
    counted_key call old other key none is = go (eqb other client) refl
        (eqb (address first_buckets (image_of m.table client) key) (own_of m.file key)) refl
      where
        go : (mine : Bool) → eqb other client ≡ mine → (right : Bool)
            → eqb (address first_buckets (image_of m.table client) key) (own_of m.file key) ≡ right
            → cond (mine && not right) 1 0 + buckets first_buckets (image_of m.table client)
            ≤ buckets first_buckets (image_of (after m call).table client)
        go false em right er = omega (arith, (table_step call).grows client old there)
        go true em true er = omega (arith, (table_step call).grows client old there)
        go true em false er = omega (
          arith,
          wrong_grows client key
              (passed m.file m.table client
              (subst (λ (c : ℕ). reply (early m.file m.table c) 0 ≡ 0) (eqb-true _ _ em) none))
              (eqb-false _ _ er),
          ap (λ (t : List ℕ). buckets first_buckets (image_of t client))
              (is ∙ ap (λ (c : ℕ). adjusted_table m.file m.table c key) (eqb-true _ _ em)),
        )

    counted_none : (call : Call) → (call ≡ Join client → ⊥)
        → wrong_first client m Nothing + believed client m ≤ believed client (after m call)
    unfolding wrong_first believed
    counted_none call old = omega (arith, (table_step call).grows client old there)

    pub step_counts : (call : Call) → (call ≡ Join client → ⊥)
        → wrong_first client m (sent m call) + believed client m ≤ believed client (after m call)
    unfolding sent
    step_counts (Join other) old = counted_none (Join other) old
    step_counts (Insert other key payload answer) old = sent_ways
        (λ s. wrong_first client m s + believed client m ≤ believed client (after m (Insert other key payload answer)))
        _
        other key
        (λ fits none. counted_key (Insert other key payload answer) old other key none
        (inserting other key payload answer fits none)) (counted_none _ old)
    step_counts (InsertSplit other key payload t answer) old = sent_ways
        (λ s. wrong_first client m s + believed client m
        ≤ believed client (after m (InsertSplit other key payload t answer))) _ other key
        (λ fits none. counted_key (InsertSplit other key payload t answer) old other key none
        (loading other key payload t answer fits none)) (counted_none _ old)
    step_counts (Search other key answer) old = sent_ways
        (λ s. wrong_first client m s + believed client m ≤ believed client (after m (Search other key answer))) _ other
        key
        (λ fits none. counted_key (Search other key answer) old other key none (searching other key answer fits none))
        (counted_none _ old)
    step_counts Split old = counted_none Split old
    step_counts (Scan other lift visits matches) old = counted_none (Scan other lift visits matches) old
    step_counts Check old = counted_none Check old
    step_counts (View bucket) old = counted_none (View bucket) old
    step_counts (Parent bucket) old = counted_none (Parent bucket) old

-- ---- a run

pub ready_run : (m : Memory) → Ready m → (calls : List Call) → AllTyped calls → Ready (run m calls)
unfolding run AllTyped
ready_run m ready [] typed = ready
ready_run m ready (call ∷ calls) typed = ready_run (after m call) (ready_step m ready call typed.0) calls typed.1

believes_some : (client : ℕ) (m : Memory) → Ready m → exists m.table client ≡ true
    → believed client m ≤ buckets_of m.file
unfolding believed
believes_some client m ready there = omega (arith, ready.none_ahead client there, existing m.file)

-- wrong first sends add up, if each call counts for no more than what the client then believes in more
pub sends_over : (client : ℕ)
    → ((m : Memory) → Ready m → exists m.table client ≡ true → (call : Call) → (call ≡ Join client → ⊥)
    → wrong_first client m (sent m call) + believed client m ≤ believed client (after m call))
    → (m : Memory) → Ready m → exists m.table client ≡ true → (calls : List Call) → AllTyped calls
    → NotJoined client calls
    → summed (wrong_first client) m calls + believed client m ≤ buckets_of (run m calls).file
unfolding run AllTyped NotJoined summed
sends_over client counts m ready there [] typed old = omega (arith, believes_some client m ready there)
sends_over client counts m ready there (call ∷ calls) typed old =
    omega (
      arith,
      counts m ready there call old.0,
      sends_over client counts (after m call) (ready_step m ready call typed.0)
          ((table_step m ready call).there client ∙ there) calls typed.1 old.1,
    )

pub forwards_summed : (client : ℕ) (m : Memory) → Ready m → (calls : List Call) → AllTyped calls
    → summed (forwards_of client) m calls ≤ 2 * summed (wrong_first client) m calls
unfolding AllTyped summed
forwards_summed client m ready [] typed = omega arith
forwards_summed client m ready (call ∷ calls) typed =
    omega (
      arith,
      forwards_twice m ready client call,
      forwards_summed client (after m call)
          (ready_step m ready call typed.0) calls typed.1,
    )

-- ---- each call of a run

pub each_run : (Holding : Memory → Call → Type 0) → ((m : Memory) → Ready m → (call : Call) → Holding m call)
    → (m : Memory) → Ready m → (calls : List Call) → AllTyped calls → Each Holding m calls
unfolding AllTyped Each
each_run Holding of-call m ready [] typed = tt
each_run Holding of-call m ready (call ∷ calls) typed = (
  of-call m ready call,
  each_run Holding of-call (after m call) (ready_step m ready call typed.0) calls
      typed.1,
)

-- an accepted scan
pub scan_once : (m : Memory) (call : Call) → VisitsOnce m call
unfolding VisitsOnce replied visited answered
scan_once m (Join client) = tt
scan_once m (Insert client key payload answer) = tt
scan_once m (InsertSplit client key payload t answer) = tt
scan_once m (Search client key answer) = tt
scan_once m Split = tt
scan_once m (Scan client lift visits matches) = λ done a. (
  scan_visits_once m.file m.table client lift visits matches done a,
  scan_visits_only m.file m.table client lift visits matches done a,
)
scan_once m Check = tt
scan_once m (View bucket) = tt
scan_once m (Parent bucket) = tt
