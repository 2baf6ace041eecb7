-- A scan's outcome by its cases, in the replies' order, each also by what the code has found out until then; and no
-- second outcome fits.
use Prim.Native.Nat.{ℕ, ◌≤◌, ◌<◌}
use Rattle.std.specs.Prelude.{◌≡◌, refl, Bool, true, false, cond, not, List, [], ◌∷◌, ◌++◌, ltb, eqb, length, Result}
use Rattle.std.proofs.Math.Path.{sym, ap}
use Rattle.std.proofs.Common.{◌∙◌, arith}
use borrow.Author.Tests.{eq-eqb, ne_eqb, lt-ltb, le-ltb, not-true, not-false}
use Rattle.address.specs.Limits.{first_buckets, no_bucket}
use Rattle.address.specs.declared.Image.{Image}
use Rattle.address.specs.Rules.{buckets}
use Rattle.layout.specs.Bytes.{edit}
use Rattle.layout.specs.Replies.{refuse, reply, reply_none, reply_here, reply_past, reply_append}
use Rattle.bucket.specs.Region.{every}
use Rattle.client.specs.Table.{image_of}
use Rattle.file.specs.File.{buckets_of, bucket_sound_in}
use Rattle.file.specs.File.Region.{buckets_known}
use Rattle.file.specs.declared.Header.{Header}
use Rattle.route.specs.Way.{early}
use Rattle.route.specs.Way.Open.{Opening, early_else}
use Rattle.file.specs.declared.fault.Fault.{Fault}
use Rattle.scan.specs.declared.Counts.{Counts}
use Rattle.scan.specs.declared.ScanAnswer.{ScanAnswer}
use Rattle.scan.specs.Scan.Notes.{Noted}
use Rattle.scan.specs.Scan.Tally.{AllJudged, matches_all}
use Rattle.scan.specs.Scan.Unsound.{Lowest, lowest_visited}
use Rattle.scan.specs.Scan.Way.{Starting, starting_sound}
use Rattle.scan.specs.Scan.{Scanned, leaving, matches_on, visits_of, first_unsound, refusal, refused, collected}
use Rattle.scan.specs.Scan.{answer_of, scan}

-- the answer of a scan that is not refused
abbrev pub acceptance : ℕ → ℕ → ScanAnswer
acceptance visits matches = record { reply = 0; bucket = no_bucket; visits = visits; matches = matches }

-- ---- the scan of a way

module _ (file : List ℕ) (lift : ℕ) (way visits matches : List ℕ) where
  pub collected_unsound : {r : ScanAnswer} {a : ℕ} → r ≡ refusal 7 a → every (bucket_sound_in file) way ≡ false
      → a ≡ first_unsound file way
      → leaving r visits matches ≡ collected file lift way visits matches
  unfolding collected refused
  collected_unsound er bad e = rw bad (λ i. leaving ((er ∙ ap (refusal 7) e) i) visits matches)

  module _ (fine : every (bucket_sound_in file) way ≡ true) where
    abbrev keys : List ℕ
    keys = matches_on file lift way

    pub collected_short : {r : ScanAnswer} → r ≡ refusal 12 no_bucket
        → length matches < length (matches_on file lift way)
        → leaving r visits matches ≡ collected file lift way visits matches
    unfolding collected refused
    collected_short er short = rw (fine, lt-ltb (length matches) (length keys) short)
        (λ i. leaving (er i) visits matches)

    pub collected_done : length (matches_on file lift way) ≤ length matches → {n m : ℕ} {first second : List ℕ}
        → n ≡ length way → m ≡ length (matches_on file lift way)
        → first ≡ edit 0 way visits → second ≡ edit 0 (matches_on file lift way) matches
        → leaving (acceptance n m) first second ≡ collected file lift way visits matches
    unfolding collected
    collected_done room en em ef es = rw (fine, le-ltb (length matches) (length keys) room)
        (λ i. leaving (acceptance (en i) (em i)) (ef i) (es i))

-- by the tally of all buckets
module _ {file : List ℕ} {header : Header} {image : Image} (given : Starting file header image) {lift : ℕ}
    {sound : Bool} {lowest m : ℕ} {notes : List ℕ} (judged : AllJudged file lift sound lowest m notes) where
  module _ (failed : not sound ≡ true) where
    pub judged_lowest : Lowest file lowest
    judged_lowest = judged.unsound (not-true sound failed)

    pub judged_unsound : {r : ScanAnswer} {a : ℕ} (visits matches : List ℕ)
        → a ≡ first_unsound file (visits_of file image) → r ≡ refusal 7 a
        → leaving r visits matches ≡ collected file lift (visits_of file image) visits matches
    judged_unsound visits matches first er =
        collected_unsound file lift (visits_of file image) visits matches er (lowest_visited given judged_lowest) first

  module _ (passed : not sound ≡ false) where
    pub judged_noted : Noted file lift notes (buckets_of file)
    judged_noted = judged.noted (not-false sound passed)

    fine : every (bucket_sound_in file) (visits_of file image) ≡ true
    fine = starting_sound given judged_noted.sound

    count : m ≡ length (matches_on file lift (visits_of file image))
    count = judged.found (not-false sound passed) ∙ matches_all given lift

    pub judged_short : {r : ScanAnswer} (visits matches : List ℕ) → length matches < m → r ≡ refusal 12 no_bucket
        → leaving r visits matches ≡ collected file lift (visits_of file image) visits matches
    judged_short visits matches short er =
        collected_short file lift (visits_of file image) visits matches fine er (omega (arith, count))

    module _ (matches : List ℕ) (room : m ≤ length matches) where
      pub judged_room : length (matches_on file lift (visits_of file image)) ≤ length matches
      judged_room = omega (arith, count)

      pub judged_done : {n : ℕ} {first second : List ℕ} (visits : List ℕ) → n ≡ length (visits_of file image)
          → first ≡ edit 0 (visits_of file image) visits
          → second ≡ edit 0 (matches_on file lift (visits_of file image)) matches
          → leaving (acceptance n m) first second ≡ collected file lift (visits_of file image) visits matches
      judged_done visits en ef es =
          collected_done file lift (visits_of file image) visits matches fine judged_room en count ef es

-- ---- the scan of a file

module _ (file table : List ℕ) (client lift : ℕ) (visits matches : List ℕ) where
  pub scan_early : {r : ScanAnswer} {n : ℕ} → r ≡ refusal n no_bucket → n ≡ reply (early file table client) 0
      → (n ≡ 0 → ⊥)
      → leaving r visits matches ≡ scan file table client lift visits matches
  unfolding scan refused
  scan_early er e some = rw (ne_eqb (reply (early file table client) 0) 0 (λ z. some (e ∙ z)))
      (λ i. leaving ((er ∙ ap (λ (m : ℕ). refusal m no_bucket) e) i) visits matches)

  module _ (none : reply (early file table client) 0 ≡ 0) where
    pub scan_short : {r : ScanAnswer} → r ≡ refusal 11 no_bucket → length visits < buckets_of file
        → leaving r visits matches ≡ scan file table client lift visits matches
    unfolding scan refused
    scan_short er short = rw
        (eq-eqb (reply (early file table client) 0) 0 none, lt-ltb (length visits) (buckets_of file) short)
        (λ i. leaving (er i) visits matches)

    pub scan_long : buckets_of file ≤ length visits → {o : Scanned} (image : Image)
        → o ≡ collected file lift (visits_of file image) visits matches → image ≡ image_of table client
        → o ≡ scan file table client lift visits matches
    unfolding scan
    scan_long long image eo ei = rw
        (eq-eqb (reply (early file table client) 0) 0 none, le-ltb (length visits) (buckets_of file) long)
        (eo ∙ ap (λ (i : Image). collected file lift (visits_of file i) visits matches) ei)

  -- its reply, as document 01 lists it
  pub scan_reply : (scan file table client lift visits matches).answer ≡ reply (early file table client ++ (
      refuse 11 (ltb (length visits) (buckets_of file))
      ∷ refuse 7 (not (every (bucket_sound_in file) (visits_of file (image_of table client))))
      ∷ refuse 12 (ltb (length matches) (length (matches_on file lift (visits_of file (image_of table client)))))
      ∷ []
      )) 0
  unfolding scan collected refused
  scan_reply = go (eqb r 0) (ltb (length visits) (buckets_of file)) (every (bucket_sound_in file) way)
      (ltb (length matches) (length found))
      ∙ sym (reply_append (early file table client) _ 0 ∙ early_else file table client _)
    where
      r : ℕ
      r = reply (early file table client) 0

      way : List ℕ
      way = visits_of file (image_of table client)

      found : List ℕ
      found = matches_on file lift way

      go : (none short sound few : Bool)
          → (cond (not none) (refused r no_bucket visits matches) (cond short (refused 11 no_bucket visits matches)
          (cond (not sound) (refused 7 (first_unsound file way) visits matches)
          (cond few (refused 12 no_bucket visits matches)
          (leaving (acceptance (length way) (length found)) (edit 0 way visits) (edit 0 found matches)))))).answer
          ≡ cond none (reply (refuse 11 short ∷ refuse 7 (not sound) ∷ refuse 12 few ∷ []) 0) r
      go false short sound few = refl
      go true true sound few = sym (reply_here 11 true _ 0 refl)
      go true false false few = sym (reply_past 11 false _ 0 refl ∙ reply_here 7 true _ 0 refl)
      go true false true true = sym
          (reply_past 11 false _ 0 refl ∙ reply_past 7 false _ 0 refl ∙ reply_here 12 true _ 0 refl)
      go true false true false = sym
          (reply_past 11 false _ 0 refl ∙ reply_past 7 false _ 0 refl ∙ reply_past 12 false _ 0 refl ∙ reply_none 0)

  pub scan_single : (o p : Scanned) → o ≡ scan file table client lift visits matches
      → p ≡ scan file table client lift visits matches → o ≡ p
  scan_single o p eo ep = eo ∙ sym ep

-- a scan that was opened: the header counts the buckets
module _ {file table : List ℕ} {client : ℕ} {header : Header} {image : Image}
    (o : Opening file table client header image) {b : ℕ}
    (all : b ≡ buckets first_buckets header.state) (lift : ℕ) (visits matches : List ℕ) where
  exist : b ≡ buckets_of file
  exist = buckets_known file header o.known b all

  pub opened_short : {r : ScanAnswer} → length visits < b → r ≡ refusal 11 no_bucket
      → leaving r visits matches ≡ scan file table client lift visits matches
  opened_short short er = scan_short file table client lift visits matches o.passed er (omega (arith, exist))

  pub opened_long : {left : Scanned} → b ≤ length visits
      → left ≡ collected file lift (visits_of file image) visits matches
      → left ≡ scan file table client lift visits matches
  opened_long long el = scan_long file table client lift visits matches o.passed (omega (arith, exist)) image el
      o.is

-- the same by the answer for C
pub scan_answered : (done : Result Counts Fault) {answer : ScanAnswer} {visits matches : List ℕ} {o : Scanned}
    → answer ≡ answer_of done → leaving (answer_of done) visits matches ≡ o → leaving answer visits matches ≡ o
scan_answered done {visits = visits} {matches = matches} ea e =
    ap (λ (r : ScanAnswer). leaving r visits matches) ea ∙ e
