-- A scan is refused or accepted. Refused, it answers counts 0 and leaves both lists; accepted, it has written each
-- bucket of the file once and nothing else, and of its lift exactly the keys that the file holds, each once; what
-- stands behind them in the lists is as it was.
use Rattle.std.specs.Prelude.{ℕ, ◌-◌, ◌≤◌, ◌<◌, ◌≡◌, refl, Bool, true, false, cond, List, ◌⊎◌, length, take, drop}
use Rattle.std.proofs.Common.{sym, ap, ◌∙◌, inl, inr, ⊎_elim, arith}
use Rattle.address.specs.Compare.{below, same}
use Rattle.address.specs.Limits.{first_buckets, no_bucket}
use Rattle.address.specs.Rules.{last_round, highest}
use Rattle.address.specs.Rules.Address.{address_exists}
use Rattle.address.specs.Rules.Scan.{times}
use Rattle.address.proofs.Rules.Scan.{rounds}
use Rattle.layout.specs.Bytes.{edit}
use Rattle.layout.specs.Bytes.Edit.{front_written, rest_left}
use Rattle.layout.specs.Replies.{reply}
use Rattle.bucket.specs.Region.{every}
use Rattle.bucket.specs.Region.Every.{every_among}
use Rattle.client.specs.Table.{image_of}
use Rattle.file.specs.File.{state_of, buckets_of, bucket_sound_in, file_sound}
use Rattle.file.specs.File.Judge.{existing}
use Rattle.file.specs.File.Keeping.{sound_bucket}
use Rattle.route.specs.Way.{early, held}
use Rattle.route.specs.Way.Keeping.{Passed, passed, formed, believes, near}
use Rattle.scan.specs.Scan.{Scanned, leaving, of_lift, keys_in, matches_on, visits_of, first_unsound, refusal}
use Rattle.scan.specs.Scan.{collected, scan}
use Rattle.scan.specs.Scan.Found.{own, once, elsewhere, held_times, other_times, visited}
use Rattle.scan.specs.Scan.Replied.{acceptance, collected_unsound, collected_short, collected_done}
use Rattle.scan.specs.Scan.Replied.{scan_early, scan_short, scan_long}
use Rattle.scan.specs.Scan.Way.{way_length, way_once, way_only, way_sound}

module _ (file table : List ℕ) (client lift : ℕ) (visits matches : List ℕ) where
  abbrev way : List ℕ
  way = visits_of file (image_of table client)

  abbrev keys : List ℕ
  keys = matches_on file lift way

  abbrev outcome : Scanned
  outcome = scan file table client lift visits matches

  -- refused by a reply that is not 0, with a bucket's number for 7 alone
  pub record Refused : Type 0 where
    pub number : ℕ
    pub bucket : ℕ
    pub some : number ≡ 0 → ⊥
    pub none : (number ≡ 7 → ⊥) → bucket ≡ no_bucket
    pub is : outcome ≡ leaving (refusal number bucket) visits matches

  -- accepted: 2 to 6 and 11 are passed, every bucket on the way is sound, and both lists are written
  pub record Collected : Type 0 where
    pub passes : Passed file table client
    pub long : buckets_of file ≤ length visits
    pub sound : every (bucket_sound_in file) way ≡ true
    pub is : outcome
        ≡ leaving (acceptance (length way) (length keys)) (edit 0 way visits) (edit 0 keys matches)

  refused_with : (r a : ℕ) → (r ≡ 0 → ⊥) → ((r ≡ 7 → ⊥) → a ≡ no_bucket)
      → leaving (refusal r a) visits matches ≡ outcome → Refused ⊎ Collected
  refused_with r a some none e = inl (record { number = r; bucket = a; some = some; none = none; is = sym e })

  pub scan_cases : Refused ⊎ Collected
  scan_cases = ⊎_elim opened
      (λ some. refused_with r no_bucket some (λ h. refl)
      (scan_early file table client lift visits matches refl refl some))
      (same r 0)
    where
      r : ℕ
      r = reply (early file table client) 0

      opened : r ≡ 0 → Refused ⊎ Collected
      opened zero = ⊎_elim
          (λ short. refused_with 11 no_bucket (λ h. omega arith) (λ h. refl)
          (scan_short file table client lift visits matches zero refl short))
          (λ long. judged long (every (bucket_sound_in file) way) refl)
          (below (length visits) (buckets_of file))
        where
          along : buckets_of file ≤ length visits → {o : Scanned} → o ≡ collected file lift way visits matches
              → o ≡ outcome
          along long e = scan_long file table client lift visits matches zero long (image_of table client) e refl

          judged : buckets_of file ≤ length visits → (b : Bool) → every (bucket_sound_in file) way ≡ b
              → Refused ⊎ Collected
          judged long false bad = refused_with 7 (first_unsound file way) (λ h. omega arith) (λ h. absurd (h refl))
              (along long (collected_unsound file lift way visits matches refl bad refl))
          judged long true fine = ⊎_elim
              (λ short. refused_with 12 no_bucket (λ h. omega arith) (λ h. refl)
              (along long (collected_short file lift way visits matches fine refl short)))
              (λ room. inr (record {
                passes = passed file table client zero;
                long = long;
                sound = fine;
                is = sym (along long (collected_done file lift way visits matches fine room refl refl refl refl));
              }))
              (below (length matches) (length keys))

  -- a refused scan answers counts 0 and leaves both lists; the bucket's number is 65,535 with any reply but 7
  pub scan_refused : (outcome.answer ≡ 0 → ⊥)
      → (outcome.visits ≡ 0) × (outcome.matches ≡ 0) × (outcome.visit_list ≡ visits) × (outcome.match_list ≡ matches)
  scan_refused some = ⊎_elim
      (λ r. (
        ap (λ (o : Scanned). o.visits) r.is,
        ap (λ (o : Scanned). o.matches) r.is,
        ap (λ (o : Scanned). o.visit_list) r.is,
        ap (λ (o : Scanned). o.match_list) r.is,
      ))
      (λ a. absurd (some (ap (λ (o : Scanned). o.answer) a.is)))
      scan_cases

  pub scan_bucket : (outcome.answer ≡ 7 → ⊥) → outcome.bucket ≡ no_bucket
  scan_bucket other = ⊎_elim
      (λ r. ap (λ (o : Scanned). o.bucket) r.is
      ∙ r.none (λ e. other (ap (λ (o : Scanned). o.answer) r.is ∙ e)))
      (λ a. ap (λ (o : Scanned). o.bucket) a.is)
      scan_cases

  -- ---- the way of a scan that has passed 2 to 6

  module _ (passes : Passed file table client) where
    visits_length : length way ≡ buckets_of file
    visits_length = way_length file passes.header_is_sound (image_of table client) (believes file table client passes)
        (near file table client passes)

    visits_once : (a : ℕ) → a < buckets_of file → times a way ≡ 1
    visits_once = way_once file passes.header_is_sound (image_of table client) (believes file table client passes)
        (near file table client passes)

    visits_only : (a : ℕ) → buckets_of file ≤ a → times a way ≡ 0
    visits_only = way_only file passes.header_is_sound (image_of table client) (believes file table client passes)
        (near file table client passes)

    -- in a sound file it has no unsound bucket
    pub scan_file_sound : file_sound file ≡ true → every (bucket_sound_in file) way ≡ true
    scan_file_sound sound = way_sound file passes.header_is_sound (image_of table client)
        (believes file table client passes) (near file table client passes) (sound_bucket file sound)

    -- and its last round is at most the highest bucket level less i'
    pub scan_rounds : last_round first_buckets (state_of file) (image_of table client)
        ≤ highest first_buckets (state_of file) - (image_of table client).level
    scan_rounds = rounds first_buckets (omega arith) (state_of file) (formed file table client passes)
        (image_of table client) (believes file table client passes) (near file table client passes)

  -- a scan answers no more visits than its list has room for
  pub visits_fit : outcome.visits ≤ length visits
  visits_fit = ⊎_elim
      (λ r. omega (arith, ap (λ (o : Scanned). o.visits) r.is))
      (λ a. omega (arith, ap (λ (o : Scanned). o.visits) a.is, visits_length a.passes, a.long))
      scan_cases

  -- ---- an accepted scan

  module _ (done : outcome.answer ≡ 0) where
    accepted : Collected
    accepted = ⊎_elim (λ r. absurd (r.some (sym (ap (λ (o : Scanned). o.answer) r.is) ∙ done))) (λ a. a) scan_cases

    -- the visits are the defined order, and the entries past them keep their content
    pub scan_visits : take outcome.visits outcome.visit_list ≡ way
    scan_visits = ap (λ (o : Scanned). take o.visits o.visit_list) accepted.is ∙ front_written way visits

    pub scan_visits_rest : drop outcome.visits outcome.visit_list ≡ drop outcome.visits visits
    scan_visits_rest = ap (λ (o : Scanned). drop o.visits o.visit_list) accepted.is ∙ rest_left way visits
        ∙ ap (λ (o : Scanned). drop o.visits visits) (sym accepted.is)

    -- each bucket of the file is visited exactly once, and nothing else is
    pub scan_visits_count : outcome.visits ≡ buckets_of file
    scan_visits_count = ap (λ (o : Scanned). o.visits) accepted.is ∙ visits_length accepted.passes

    pub scan_visits_once : (a : ℕ) → a < buckets_of file → times a (take outcome.visits outcome.visit_list) ≡ 1
    scan_visits_once a h = ap (times a) scan_visits ∙ visits_once accepted.passes a h

    pub scan_visits_only : (a : ℕ) → buckets_of file ≤ a → times a (take outcome.visits outcome.visit_list) ≡ 0
    scan_visits_only a h = ap (times a) scan_visits ∙ visits_only accepted.passes a h

    -- every bucket of the file is sound
    pub scan_sound : (a : ℕ) → a < buckets_of file → bucket_sound_in file a ≡ true
    scan_sound a h = every_among (bucket_sound_in file) way a accepted.sound
        (omega (arith, visits_once accepted.passes a h))

    -- the matches are the defined ones, and the entries past them keep their content
    pub scan_matches : take outcome.matches outcome.match_list ≡ keys
    scan_matches = ap (λ (o : Scanned). take o.matches o.match_list) accepted.is ∙ front_written keys matches

    pub scan_matches_rest : drop outcome.matches outcome.match_list ≡ drop outcome.matches matches
    scan_matches_rest = ap (λ (o : Scanned). drop o.matches o.match_list) accepted.is ∙ rest_left keys matches
        ∙ ap (λ (o : Scanned). drop o.matches matches) (sym accepted.is)

    -- a key of another lift stands nowhere among them
    pub scan_matches_other : (key : ℕ) → of_lift lift key ≡ false
        → times key (take outcome.matches outcome.match_list) ≡ 0
    scan_matches_other key other = ap (times key) scan_matches ∙ other_times file key lift other way

    module _ (key : ℕ) (match : of_lift lift key ≡ true) where
      exists : own file key < buckets_of file
      exists = omega (
        arith,
        existing file,
        address_exists first_buckets (omega arith) (state_of file)
            (formed file table client accepted.passes) key,
      )

      in_own : times key (take outcome.matches outcome.match_list) ≡ times key (keys_in file (own file key))
      in_own = ap (times key) scan_matches
          ∙ visited file key lift match way accepted.sound (visits_once accepted.passes (own file key) exists)

      -- a key of the scan's lift stands there exactly once if search finds it held, and else never
      pub scan_matches_held : times key (take outcome.matches outcome.match_list) ≡ cond (held file key) 1 0
      scan_matches_held = in_own ∙ held_times file key (scan_sound (own file key) exists)

      -- exactly once if any bucket of the file holds it, and never if none does
      pub scan_matches_once : (a : ℕ) → a < buckets_of file → 0 < times key (keys_in file a)
          → times key (take outcome.matches outcome.match_list) ≡ 1
      scan_matches_once a h some = ⊎_elim
          (λ e. omega (arith, in_own, ap (λ (b : ℕ). times key (keys_in file b)) e, once file key a (scan_sound a h)))
          (λ e. absurd (omega (arith, elsewhere file key a (scan_sound a h) e)))
          (same (own file key) a)

      pub scan_matches_never : ((a : ℕ) → a < buckets_of file → times key (keys_in file a) ≡ 0)
          → times key (take outcome.matches outcome.match_list) ≡ 0
      scan_matches_never none = in_own ∙ none (own file key) exists
