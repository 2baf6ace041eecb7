-- What the demands shut out: a library that refuses everything, one that invents a route or a forward count, and one
-- that stores nothing (the last by a premise here, and whole in proofs/Run/Shut.antt).
use Rattle.std.specs.Prelude.{ℕ, ◌≤◌, ◌≡◌, refl, true, ◌&&◌, List, ◌∷◌, ◌⊎◌, eqb, length}
use Rattle.std.proofs.Math.Path.{sym}
use Rattle.std.proofs.Common.{ap, ◌∙◌, arith, eq-eqb}
use Rattle.std.proofs.Math.Logic.{inl, inr, ⊎_elim}
use Rattle.address.specs.Compare.{below}
use Rattle.address.specs.Limits.{first_buckets}
use Rattle.address.specs.Rules.{NotAhead, forwards}
use Rattle.layout.specs.Bytes.{Bytes}
use Rattle.layout.specs.Bytes.Tests.{and_both}
use Rattle.layout.specs.Replies.{reply}
use Rattle.client.specs.Table.{length_sound, exists, image_of, record_sound}
use Rattle.client.specs.Table.Keeping.{sound_length, sound_record, client_passes}
use Rattle.file.specs.File.{SplitOutcome, most_of, state_of, buckets_of, file_sound}
use Rattle.file.specs.File.Judge.{existing}
use Rattle.file.specs.File.Keeping.{sound_header, sound_split}
use Rattle.file.specs.File.Split.{split_whole}
use Rattle.answer.specs.Answer.{block, no_payload, forwards_in}
use Rattle.answer.specs.Answer.Block.{none_long, forwards_block}
use Rattle.route.specs.Way.{early, way_of}
use Rattle.route.specs.Way.Open.{early_none}
use Rattle.route.specs.Way.Route.{cut_none}
use Rattle.ride.specs.Call.{count_then, search, insert}
use Rattle.ride.specs.Call.Left.{Through, search_ways, insert_ways}
use Rattle.demands.specs.Run.{Memory, Call, Insert, Search, Split, Typed, AllTyped, after, run, replied, answered}
use Rattle.demands.specs.Run.{payload_in, Finds, Accepts, Accepted, Kept, Ready, route_of}
use Rattle.demands.specs.Run.Clients.{ready_step, ready_run}
use Rattle.demands.specs.Run.Held.{payload_held, payload_long, through}

-- the payload in the slot of a key
module _ (m : Memory) (sound : file_sound m.file ≡ true) where
  -- in a sound file a split is refused by 10 only
  pub split_answers : (replied m Split ≡ 0) ⊎ (replied m Split ≡ 10)
  unfolding replied answered
  split_answers = ⊎_elim
      (λ l. inl (sym (ap (λ (o : SplitOutcome). o.answer) (sound_split m.file sound l))))
      (λ l. inr (sym (ap (λ (o : SplitOutcome). o.answer) (split_whole m.file (sound_header m.file sound) l))))
      (below (buckets_of m.file) (most_of m.file))

  -- a client whose own record is sound and who is not ahead, in a table of a sound length
  module _ (client : ℕ) (long : length_sound m.table ≡ true) (there : exists m.table client ≡ true)
      (formed : record_sound m.table client ≡ true)
      (behind : NotAhead first_buckets (state_of m.file) (image_of m.table client)) where
    -- is refused by none of 2 to 6
    not_early : reply (early m.file m.table client) 0 ≡ 0
    not_early = sym
        (early_none m.file m.table client (client_passes m.table long client there) formed
        (sound_header m.file sound) (omega (arith, behind, existing m.file)))

    module _ (key : ℕ) (answer : List ℕ) (block-long : length answer ≡ 24) where
      fit_search : Through (eqb (length answer) 24) m.file m.table client key
      fit_search = through m.file m.table sound _ client key (eq-eqb _ 24 block-long) not_early

      fit_insert : (payload : List ℕ) → length payload ≡ 14
          → Through (eqb (length answer) 24 && eqb (length payload) 14) m.file m.table client key
      fit_insert payload fourteen = through m.file m.table sound _ client key
          (and_both _ _ (eq-eqb _ 24 block-long) (eq-eqb _ 14 fourteen)) not_early

      -- a search is not refused
      pub search_answers : replied m (Search client key answer) ≤ 1
      unfolding replied answered
      search_answers = search_ways m.file m.table client key answer (λ o. o.answer ≤ 1)
          (λ o r. absurd (r.why fit_search)) (λ w held. omega arith) (λ w absent. omega arith)

      -- an insert is refused by 8 and 9 only
      pub insert_answers : (payload : List ℕ) → length payload ≡ 14 → (replied m (Insert client key payload answer) ≡ 0)
          ⊎ ((replied m (Insert client key payload answer) ≡ 8) ⊎ (replied m (Insert client key payload answer) ≡ 9))
      unfolding replied answered
      insert_answers payload fourteen = insert_ways m.file m.table client key payload answer
          (λ o. (o.answer ≡ 0) ⊎ ((o.answer ≡ 8) ⊎ (o.answer ≡ 9)))
          (λ o r. absurd (r.why (fit_insert payload fourteen))) (λ w held. inr (inl refl))
          (λ w free whole. inr (inr refl)) (λ w free room. inl refl)

      -- the route in the answer block is the defined one
      whole : way_of m.file (image_of m.table client) key ≡ route_of m client key
      unfolding route_of
      whole = sym (cut_none _ _ fit_search.sound)

      module _ (bytes : Bytes m.file) where
        pub search_route : (payload : List ℕ) × (length payload ≡ 14)
            × ((search m.file m.table client key answer).block
            ≡ block (search m.file m.table client key answer).answer (route_of m client key) 0 payload)
        search_route = search_ways m.file m.table client key answer
            (λ o. (payload : List ℕ) × (length payload ≡ 14)
            × (o.block ≡ block o.answer (route_of m client key) 0 payload))
            (λ o r. absurd (r.why fit_search))
            (λ w held. (
              payload_held m.file key,
              payload_long m.file m.table bytes sound client key held,
              ap
                  (λ (way : List ℕ). block 0 way 0 (payload_held m.file key)) whole,
            ))
            (λ w absent. (no_payload, none_long, ap (λ (way : List ℕ). block 1 way 0 no_payload) whole))

        pub search_forwards : forwards_in (search m.file m.table client key answer).block
            ≡ forwards (route_of m client key)
        search_forwards =
            let (payload, fourteen, is) = search_route in
            ap forwards_in is ∙ forwards_block _ 0 (route_of m client key) payload fourteen

      pub insert_route : (payload : List ℕ) → length payload ≡ 14 → (count : ℕ)
          × ((insert m.file m.table client key payload answer).block
          ≡ block (insert m.file m.table client key payload answer).answer (route_of m client key) count
          no_payload)
      insert_route payload fourteen = insert_ways m.file m.table client key payload answer
          (λ o. (count : ℕ) × (o.block ≡ block o.answer (route_of m client key) count no_payload))
          (λ o r. absurd (r.why (fit_insert payload fourteen)))
          (λ w held. (0, ap (λ (way : List ℕ). block 8 way 0 no_payload) whole))
          (λ w free full. (0, ap (λ (way : List ℕ). block 9 way 0 no_payload) whole))
          (λ w free room.
          (count_then m.file key, ap (λ (way : List ℕ). block 0 way (count_then m.file key) no_payload) whole))

      pub insert_forwards : (payload : List ℕ) → length payload ≡ 14
          → forwards_in (insert m.file m.table client key payload answer).block ≡ forwards (route_of m client key)
      insert_forwards payload fourteen =
          let (count, is) = insert_route payload fourteen in
          ap forwards_in is ∙ forwards_block _ count (route_of m client key) no_payload none_long

-- what an insert was accepted with is found in any run after it, by any client of the table, if a search of a run finds
-- what is kept
pub stored_by : (m : Memory) → Ready m
    → ((calls : List Call) → AllTyped calls → (client key : ℕ) (answer : List ℕ)
    → replied (run m calls) (Search client key answer) ≤ 1
    → Finds key (search (run m calls).file (run m calls).table client key answer) (Kept m calls))
    → (client key : ℕ) (payload answer : List ℕ)
    → Typed (Insert client key payload answer) → replied m (Insert client key payload answer) ≡ 0
    → (calls : List Call) → AllTyped calls → (other : ℕ)
    → exists (run (after m (Insert client key payload answer)) calls).table other ≡ true → (block : List ℕ)
    → length block ≡ 24
    → let now = run (after m (Insert client key payload answer)) calls
    in (replied now (Search other key block) ≡ 0)
    × (payload_in (search now.file now.table other key block).block ≡ payload)
unfolding replied answered run AllTyped Kept Accepted Accepts
stored_by m ready finds client key payload answer typed accepted calls typed-too other there block long =
    ((finds (Insert client key payload answer ∷ calls) (typed, typed-too) other
    key block
    (search_answers now later.file_is_sound other (sound_length now.table later.table_is_sound) there
    (sound_record now.table later.table_is_sound other there)
    (later.none_ahead other there) key block long)
    ).present payload).1 (inr (inl (accepted, refl)))
  where
    now : Memory
    now = run (after m (Insert client key payload answer)) calls

    later : Ready now
    later = ready_run _ (ready_step m ready (Insert client key payload answer) typed) calls typed-too
