-- The three demands hold of every run of calls, and of every run from nothing.
use Rattle.std.specs.Prelude.{ℕ, ◌≡◌, true, List}
use Rattle.std.proofs.Common.{arith}
use Rattle.layout.specs.Bytes.{Bytes}
use Rattle.file.specs.File.{file_sound}
use Rattle.file.specs.File.Create.{create_reply, create_left}
use Rattle.scan.specs.Scan.Outcome.{scan_refused}
use Rattle.demands.specs.Run.{Memory, Call, AllTyped}
use Rattle.demands.specs.Run.{Ready}
use Rattle.demands.specs.Run.{sent, Reached, VisitsOnce}
use Rattle.demands.specs.Run.{started, FromNothing}
use Rattle.demands.specs.Run.Clients.{ready_run, each_run, sent_reaches, scan_once}
use Rattle.demands.proofs.Run.Clients.{wrong_sends}
use Rattle.demands.specs.Run.Clients.{forwards_summed}
use Rattle.demands.proofs.Run.Fresh.{fresh_ready, fresh_believes}
use Rattle.demands.specs.Run.Fresh.{fresh_empty, finds_accepted}
use Rattle.demands.specs.Run.Held.{whole_run, run_finds}
use Rattle.demands.specs.Run.Replied.{call_replies, call_untouched, insert_adjusted}
use Rattle.demands.specs.Run.Replied.{load_adjusted, insert_untouched, load_untouched}
use Rattle.demands.specs.Run.Replied.{search_untouched}
use Rattle.demands.specs.Demands.{Demand1, Demand2, Demand3, Demanded}

pub demand_1 : (m : Memory) → Demand1 m
demand_1 m = record {
  replies = call_replies m;
  create_replies = create_reply m.file;
  untouched = call_untouched m;
  adjusted = insert_adjusted m;
  load_adjusted = load_adjusted m;
  create_untouched = create_left m.file;
  insert_block = insert_untouched m;
  load_block = load_untouched m;
  search_block = search_untouched m;
  scan_lists = scan_refused m.file m.table;
}

pub demand_2 : (m : Memory) → Bytes m.file → file_sound m.file ≡ true
    → (calls : List Call) → AllTyped calls → Demand2 m calls
demand_2 m bytes sound calls typed = record {
  sound = (whole_run m bytes sound calls typed).sound;
  found = run_finds m bytes sound calls typed;
}

pub demand_3 : (m : Memory) → Ready m → (calls : List Call) → AllTyped calls → Demand3 m calls
demand_3 m ready calls typed = record {
  ready = ready_run m ready calls typed;
  reached = each_run (λ now call. Reached now (sent now call)) sent_reaches m ready calls typed;
  scanned = each_run VisitsOnce (λ now still call. scan_once now call) m ready calls typed;
  wrong = λ client there old. omega (arith, wrong_sends client m ready there calls typed old);
  forwarded = λ client there old. omega (
    arith,
    wrong_sends client m ready there calls typed old,
    forwards_summed client m ready calls typed,
  );
}

module _ (file table : List ℕ) (b S M : ℕ) (clients : List ℕ)
    (given : FromNothing file table b S M clients) where
  pub ready_from_nothing : Ready (started file table b S M clients)
  ready_from_nothing = fresh_ready file table b S M clients given

  pub from_nothing : (calls : List Call) → AllTyped calls
      → Demanded (started file table b S M clients) calls
  from_nothing calls typed =
      let m = started file table b S M clients in
      let ready = ready_from_nothing in
      let second = demand_2 m ready.bytes ready.file_is_sound calls typed in
      let third = demand_3 m ready calls typed in
      record {
        second = second;
        third = third;
        found = λ client key answer low. finds_accepted m calls
            (second.found client key answer low) (fresh_empty file table b S M clients given);
        wrong = λ client there old. omega (
          arith,
          third.wrong client there old,
          fresh_believes file table b S M clients given client there,
        );
        forwarded = λ client there old. omega (
          arith,
          third.forwarded client there old,
          fresh_believes file table b S M clients given client there,
        );
      }
