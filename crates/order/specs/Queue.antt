-- The list of the buckets that a scan sent a message to, filled from its start: first by the client, then by each
-- bucket in turn.
use Rattle.std.specs.Prelude.{ℕ, ◌+◌, ◌-◌, ◌≤◌, ◌<◌, ◌≡◌, refl, List, [], ◌∷◌, ◌++◌, length, take, drop, get_or, set}
use Rattle.std.proofs.Common.{sym, ap, ap₂, ◌∙◌, add-one, arith, length-append, length-take, length-drop, length-set}
use Rattle.std.proofs.Common.{take-append-drop, get_or-take, take_all, take_at, drop-drop}
use Rattle.std.proofs.Math.Seq.{drop-append-add}
use Rattle.address.specs.Limits.{first_buckets}
use Rattle.address.specs.declared.Image.{Image}
use Rattle.address.specs.Room.{Room, ImageRoom}
use Rattle.address.specs.Rules.{Formed, NotAhead, buckets, level, child, numbers, visits}
use Rattle.address.specs.Rules.Cases.{level_high}
use Rattle.address.proofs.Rules.Scan.{visits_length}
use Rattle.address.specs.Rules.Order.{born, born_length, Told, Scanning, Answered, scanning_few}
use Rattle.address.proofs.Rules.Order.{scanning_start}
use Rattle.address.specs.Rules.Order.{scanning_waits, scanning_told, scanning_next, scanning_done}
use Rattle.address.specs.Rules.Earlier.{numbers_length}
use Rattle.layout.specs.Bytes.{edit}
use Rattle.layout.specs.Bytes.Apart.{lent}
use Rattle.layout.specs.Bytes.Edit.{edit_is, length_edit, edit_first, edit_nothing, front_written}

-- What the order of a scan asks of a file's state and a client's image: a client that is not ahead, and numbers of at
-- most 16 bits.
pub record Scannable (state image : Image) : Type 0 where
  pub room : ImageRoom first_buckets state
  pub image_room : ImageRoom first_buckets image
  pub formed : Formed first_buckets state
  pub image_formed : Formed first_buckets image
  pub behind : NotAhead first_buckets state image
  pub few : buckets first_buckets state ≤ 65536

-- What a bucket asks that sends to so many of its children, from the one of level `told` on: levels that are low
-- enough, and numbers of at most 16 bits.
pub record Sendable (bucket told count : ℕ) : Type 0 where
  pub room : Room first_buckets (told + count)
  pub children : (k : ℕ) → told ≤ k → k < told + count → child first_buckets bucket k < 65536

-- What is still to be written into a list from a place on makes it the whole.
pub record Writing (queue : List ℕ) (end : ℕ) (rest whole : List ℕ) : Type 0 where
  pub fits : end + length rest ≤ length queue
  pub is : edit end rest queue ≡ whole

pub writing_start : (queue : List ℕ) (end : ℕ) {rest ys : List ℕ} → rest ≡ ys → end + length ys ≤ length queue
    → Writing queue end rest (edit end ys queue)
writing_start queue end e fits =
    record { fits = omega (arith, ap length e); is = ap (λ (l : List ℕ). edit end l queue) e }

module _ {queue : List ℕ} {end : ℕ} {rest whole : List ℕ} (so : Writing queue end rest whole) where
  -- one more is written
  pub writing_more : {v : ℕ} {next : List ℕ} → rest ≡ v ∷ next → Writing (set queue end v) (end + 1) next whole
  writing_more {v} {next} e = record {
    fits = omega (arith, so.fits, ap length e, length-set queue end v);
    is = edit_first end v next queue (omega (arith, so.fits, ap length e))
        ∙ ap (λ (l : List ℕ). edit end l queue) (sym e) ∙ so.is;
  }

  -- nothing is to come
  pub writing_done : rest ≡ [] → queue ≡ whole
  writing_done e = sym (edit_nothing end queue) ∙ ap (λ (l : List ℕ). edit end l queue) (sym e) ∙ so.is

-- what a write leaves up to its end, and from any place behind it on
module _ (at : ℕ) (ys xs : List ℕ) (fits : at + length ys ≤ length xs) where
  front : length (take at xs ++ ys) ≡ at + length ys
  front = omega (arith, length-append (take at xs) ys, length-take at xs)

  take_edited : (n : ℕ) → n ≡ at + length ys → take n (edit at ys xs) ≡ take at xs ++ ys
  take_edited n e = ap (take n) (edit_is at ys xs)
      ∙ take_at (take at xs ++ ys) (drop (at + length ys) xs) n (front ∙ sym e)

  drop_edited : (n : ℕ) → at + length ys ≤ n → drop n (edit at ys xs) ≡ drop n xs
  drop_edited n past =
      let place : n ≡ length (take at xs ++ ys) + (n - (at + length ys)) = omega (arith, front) in
      let back : at + length ys + (n - (at + length ys)) ≡ n = omega arith in
      ap (drop n) (edit_is at ys xs)
      ∙ ap (λ (k : ℕ). drop k (take at xs ++ ys ++ drop (at + length ys) xs)) place
      ∙ drop-append-add (take at xs ++ ys) (drop (at + length ys) xs) (n - (at + length ys))
      ∙ drop-drop (n - (at + length ys)) (at + length ys) xs
      ∙ ap (λ (k : ℕ). drop k xs) back

-- as many places as are cut out of a list
cut_long : (queue : List ℕ) (tail count : ℕ) → tail + count ≤ length queue
    → length (take (tail + count - tail) (drop tail queue)) ≡ count
cut_long queue tail count fits =
    omega (arith, length-take (tail + count - tail) (drop tail queue), length-drop tail queue)

some_first : 0 < first_buckets
some_first = omega arith

-- A scan under way whose messages stand in the first `tail` places of a list that has a place for every bucket. It
-- began with `start` messages in the list `begun`, and what stands behind the messages is as it was there.
pub record Visiting (state image : Image) (begun : List ℕ) (start : ℕ) (queue : List ℕ) (tail handled : ℕ)
    : Type 0 where
  pub known : Scannable state image
  pub fits : tail ≤ buckets first_buckets state
  pub room : buckets first_buckets state ≤ length queue
  pub long : length queue ≡ length begun
  pub on : start ≤ tail
  pub rest : drop tail queue ≡ drop tail begun
  pub under_way : Scanning first_buckets state image handled (take tail queue)

-- The client's messages are written into the list's first places.
pub first_written : (before : List ℕ) {state image : Image} {sent : List ℕ} {tail : ℕ} → Scannable state image
    → tail ≡ buckets first_buckets image → buckets first_buckets state ≤ length before
    → sent ≡ numbers 0 (length (take tail before))
    → sent ++ drop tail before ≡ edit 0 (numbers 0 tail) before
first_written before {state} {image} {sent} {tail} known et room e =
    ap (λ (l : List ℕ). l ++ drop tail before) (e ∙ ap (numbers 0) long)
    ∙ ap (λ (n : ℕ). numbers 0 tail ++ drop n before) place
    ∙ sym (edit_is 0 (numbers 0 tail) before)
  where
    long : length (take tail before) ≡ tail
    long = omega (arith, length-take tail before, known.behind)

    place : tail ≡ 0 + length (numbers 0 tail)
    place = omega (arith, numbers_length 0 tail)

-- at first the client's messages stand there
pub visiting_start : (before : List ℕ) {state image : Image} {queue : List ℕ} {tail : ℕ} → Scannable state image
    → tail ≡ buckets first_buckets image → buckets first_buckets state ≤ length before
    → queue ≡ edit 0 (numbers 0 tail) before → Visiting state image queue tail queue tail 0
visiting_start before {state} {image} {queue} {tail} known et room e = record {
  known = known;
  fits = omega (arith, known.behind);
  room = omega (arith, ap length e, length_edit 0 (numbers 0 tail) before fits);
  long = refl;
  on = omega arith;
  rest = refl;
  under_way = rw
      (ap (take tail) e ∙ take_edited 0 (numbers 0 tail) before fits tail (omega (arith, numbers_length 0 tail))
      ∙ ap (numbers 0) et)
      (scanning_start first_buckets some_first state known.formed image known.image_formed known.behind);
}
  where
    fits : 0 + length (numbers 0 tail) ≤ length before
    fits = omega (arith, numbers_length 0 tail, known.behind)

module _ {state image : Image} {begun : List ℕ} {start : ℕ} {queue : List ℕ} {tail handled : ℕ}
    (so : Visiting state image begun start queue tail handled) where
  known : Scannable state image
  known = so.known

  -- once every bucket has had its turn, the visits stand in the list that was lent, and what is behind them has stayed
  pub visiting_done : (before : List ℕ) {count : ℕ} → count ≡ buckets first_buckets state
      → buckets first_buckets state ≤ length before → handled ≤ count → count ≤ handled
      → begun ≡ edit 0 (numbers 0 start) before
      → queue ≡ edit 0 (visits first_buckets state image) before
  visiting_done before {count} ec room up all e = sym (take-append-drop tail queue)
      ∙ ap₂ (λ (p q : List ℕ). p ++ q) done (so.rest ∙ behind)
      ∙ ap (λ (n : ℕ). visits first_buckets state image ++ drop n before) (sym place)
      ∙ sym (edit_is 0 (visits first_buckets state image) before)
    where
      order : take handled (take tail queue) ≡ visits first_buckets state image
      order = scanning_done first_buckets some_first state known.formed image known.image_formed known.behind
          handled (take tail queue) so.under_way (omega arith)

      long : length (visits first_buckets state image) ≡ buckets first_buckets state
      long = visits_length first_buckets some_first state known.formed image known.image_formed known.behind

      whole : tail ≡ handled
      whole = omega (
        arith,
        long,
        ap length order,
        length-take handled (take tail queue),
        length-take tail queue,
        so.fits,
      )

      done : take tail queue ≡ visits first_buckets state image
      done = sym (take_all handled (take tail queue) (omega (arith, length-take tail queue, whole))) ∙ order

      place : 0 + length (visits first_buckets state image) ≡ tail
      place = omega (arith, long, whole)

      behind : drop tail begun ≡ drop tail before
      behind = ap (drop tail) e
          ∙ drop_edited 0 (numbers 0 start) before
          (omega (arith, numbers_length 0 start, so.on, so.fits, room)) tail
          (omega (arith, numbers_length 0 start, so.on))

  -- the turn of the next bucket, of level j with message level l
  module _ {count a l j : ℕ} (ec : count ≡ buckets first_buckets state) (more : handled < count)
      (ea : a ≡ get_or queue handled 0) (told : Told first_buckets image a l)
      (ej : j ≡ level first_buckets state a) where
    reached : handled < tail
    reached = omega (
      arith,
      scanning_waits first_buckets some_first state known.formed image known.image_formed known.behind handled
          (take tail queue) so.under_way (omega arith),
      length-take tail queue,
    )

    first : a ≡ get_or (take tail queue) handled 0
    first = ea ∙ sym (get_or-take tail queue handled 0 reached)

    -- its message level is at most its own
    pub visiting_told : l ≤ j
    visiting_told = omega (
      arith,
      ej,
      scanning_told first_buckets some_first state known.formed image known.image_formed known.behind
          handled (take tail queue) so.under_way (omega arith) a l first told,
    )

    answered : Answered first_buckets state image handled (take tail queue) a l
    answered = scanning_next first_buckets some_first state known.formed image known.image_formed known.behind
        handled (take tail queue) so.under_way (omega arith) a l first told

    next : Scanning first_buckets state image (handled + 1) (take tail queue ++ born first_buckets a l (j - l))
    next = rw (add-one handled, ej) answered.next

    few : tail + (j - l) ≤ buckets first_buckets state
    few = omega (
      arith,
      scanning_few first_buckets some_first state known.formed image known.image_formed known.behind
          (handled + 1) (take tail queue ++ born first_buckets a l (j - l)) next,
      length-append (take tail queue) (born first_buckets a l (j - l)),
      length-take tail queue,
      born_length first_buckets a l (j - l),
      so.fits,
      so.room,
    )

    -- the list has places for the bucket's children
    pub visiting_fits : tail + (j - l) ≤ length queue
    visiting_fits = omega (arith, few, so.room)

    -- the level is low, there is room for the bucket's children, and they exist
    pub visiting_room : Room first_buckets j × (tail + (j - l) ≤ length queue)
        × ((k : ℕ) → l ≤ k → k < j → child first_buckets a k < 65536)
    visiting_room = (
      record {
        some = some_first;
        few = omega arith;
        low = omega (arith, level_high first_buckets state a, known.room.levels.low);
      },
      visiting_fits,
      λ k low high. omega (arith, answered.children k low (omega arith), known.few),
    )

    -- and they are written next
    pub visiting_next : {end : ℕ} {after : List ℕ} → end ≡ tail + (j - l)
        → after ≡ edit tail (born first_buckets a l (j - l)) queue
        → Visiting state image begun start after end (handled + 1)
    visiting_next {end} {after} ee e = record {
      known = known;
      fits = omega (arith, few);
      room = omega (arith, so.room, same);
      long = same ∙ so.long;
      on = omega (arith, so.on);
      rest = ap (drop end) e ∙ drop_edited tail new queue fits end
          (omega (arith, born_length first_buckets a l (j - l)))
          ∙ further;
      under_way = rw
          (ap (take end) e ∙ take_edited tail new queue fits end (omega (arith, born_length first_buckets a l (j - l))))
          next;
    }
      where
        new : List ℕ
        new = born first_buckets a l (j - l)

        fits : tail + length new ≤ length queue
        fits = omega (arith, few, so.room, born_length first_buckets a l (j - l))

        same : length after ≡ length queue
        same = ap length e ∙ length_edit tail new queue fits

        further : drop end queue ≡ drop end begun
        further =
            let past : tail + (end - tail) ≡ end = omega arith in
            ap (λ (n : ℕ). drop n queue) (sym past) ∙ sym (drop-drop (end - tail) tail queue)
            ∙ ap (drop (end - tail)) so.rest ∙ drop-drop (end - tail) tail begun
            ∙ ap (λ (n : ℕ). drop n begun) past

    -- The bucket sends to as many children as places are cut out for,
    pub visiting_sends : Sendable a l (length (take (tail + (j - l) - tail) (drop tail queue)))
    visiting_sends =
        let to : l + length (take (tail + (j - l) - tail) (drop tail queue)) ≡ j =
        omega (arith, cut_long queue tail (j - l) visiting_fits, visiting_told) in
        record { room = rw to visiting_room.0; children = rw to visiting_room.2 }

    -- and they are written into those.
    pub next_written : {sent : List ℕ}
        → sent ≡ born first_buckets a l (length (take (tail + (j - l) - tail) (drop tail queue)))
        → take tail queue ++ (sent ++ drop (tail + (j - l) - tail) (drop tail queue))
        ≡ edit tail (born first_buckets a l (j - l)) queue
    next_written {sent} e =
        let count : length (take (tail + (j - l) - tail) (drop tail queue)) ≡ j - l =
        cut_long queue tail (j - l) visiting_fits in
        let new : sent ≡ born first_buckets a l (j - l) = e ∙ ap (born first_buckets a l) count in
        lent tail (tail + (j - l) - tail) sent queue
        (omega (arith, ap length new, born_length first_buckets a l (j - l)))
        ∙ ap (λ (l : List ℕ). edit tail l queue) new

-- the visits are read from the start of the list that they were written into
pub visits_read : {state image : Image} (before : List ℕ) {after : List ℕ} → Scannable state image
    → after ≡ edit 0 (visits first_buckets state image) before
    → take (buckets first_buckets state) after ≡ visits first_buckets state image
visits_read {state} {image} before {after} known e = ap (take (buckets first_buckets state)) e
    ∙ ap (λ (n : ℕ). take n (edit 0 (visits first_buckets state image) before)) (sym long)
    ∙ front_written (visits first_buckets state image) before
  where
    long : length (visits first_buckets state image) ≡ buckets first_buckets state
    long = visits_length first_buckets some_first state known.formed image known.image_formed known.behind
