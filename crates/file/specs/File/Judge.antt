-- A header judged: what a sound one shows, and the ways of the functions that judge it.
use Rattle.std.specs.Prelude.{ℕ, suc, ◌+◌, ◌-◌, ◌≤◌, ◌<◌, ◌≡◌, refl, Bool, true, false, not, ◌&&◌, List, leb, ltb}
use Rattle.std.specs.Prelude.{eqb, length, get_or, Some, None, Option, is_some}
use Rattle.std.specs.Bool.{then_some}
use Rattle.std.specs.Option.{unwrap_or}
use Rattle.std.proofs.Math.Path.{sym}
use Rattle.std.proofs.Common.{ap, ap₂, ◌∙◌, arith, Fits}
use Rattle.std.proofs.Math.Logic.{by_cases}
use Rattle.std.proofs.Math.Decide.{dec_lt}
use borrow.Author.Tests.{ltb-true, leb-true, eqb-true, lt-leb, le-leb, lt-ltb, eq-eqb, not-true, not-false}
use Rattle.std.specs.Int.{w8}
use Rattle.address.specs.Limits.{first_buckets, most_level, most_buckets, most_slots}
use Rattle.address.specs.declared.Image.{Image}
use Rattle.address.specs.Room.{ImageRoom}
use Rattle.address.specs.Rules.{Formed, span, buckets}
use Rattle.address.specs.Rules.Hash.{span_is, span_mono}
use Rattle.address.specs.Rules.Cases.{buckets_is}
use Rattle.layout.specs.Bytes.{byte_at, le_at, marked}
use Rattle.layout.specs.Bytes.Numbers.{zeros_behind}
use Rattle.layout.specs.Bytes.Tests.{and_left, and_right, and_none}
use Rattle.file.specs.declared.Header.{Header}
use Rattle.file.specs.File.{file_mark, capacity_of, most_of, slots_of, state_of, file_length, figures_fit, buckets_of}
use Rattle.file.specs.File.{state_fits, first_zero, fixed_bytes, figures_of, ranges_fit, header_sound, header_of}

-- spans above the highest level are past every limit
span_high : (k : ℕ) → most_level < k → most_buckets < span first_buckets k
span_high k h = omega (arith, span_mono first_buckets h, span_is first_buckets (suc most_level))

-- ---- figures

pub record Figures (long b S M : ℕ) : Type 0 where
  pub some_slots : 1 ≤ S
  pub few_slots : S ≤ most_slots
  pub some_capacity : 1 ≤ b
  pub few_capacity : b ≤ S
  pub some_buckets : 1 ≤ M
  pub few_buckets : M ≤ most_buckets
  pub whole : long ≡ file_length S M

-- the ranges, as one flag
abbrev pub ranged : ℕ → ℕ → ℕ → Bool
ranged b S M = leb 1 S && leb S most_slots && leb 1 b && leb b S && leb 1 M && leb M most_buckets

module _ (long b S M : ℕ) where
  pub figures_out : not (ranged b S M) ≡ true → false ≡ figures_fit long b S M
  unfolding figures_fit
  figures_out h = rw (not-true (ranged b S M) h)

  pub figures_in : not (ranged b S M) ≡ false → eqb long (file_length S M) ≡ figures_fit long b S M
  unfolding figures_fit
  figures_in h = rw (not-false (ranged b S M) h)

  pub ranges : ranged b S M ≡ true → (1 ≤ S) × (S ≤ most_slots) × (1 ≤ b) × (b ≤ S) × (1 ≤ M) × (M ≤ most_buckets)
  ranges h =
      let h4 = and_left _ _ h in
      let h3 = and_left _ _ h4 in
      let h2 = and_left _ _ h3 in
      let h1 = and_left _ _ h2 in (
        leb-true _ _ (and_left _ _ h1),
        leb-true _ _ (and_right (leb 1 S) _ h1),
        leb-true _ _ (and_right (leb 1 S && leb S most_slots) _ h2),
        leb-true _ _ (and_right (leb 1 S && leb S most_slots && leb 1 b) _ h3),
        leb-true _ _ (and_right (leb 1 S && leb S most_slots && leb 1 b && leb b S) _ h4),
        leb-true _ _ (and_right (leb 1 S && leb S most_slots && leb 1 b && leb b S && leb 1 M) _ h),
      )

  pub figures : figures_fit long b S M ≡ true → Figures long b S M
  unfolding figures_fit
  figures h =
      let r = ranges (and_left _ _ h) in
      record {
        some_slots = r.0;
        few_slots = r.1;
        some_capacity = r.2;
        few_capacity = r.3;
        some_buckets = r.4;
        few_buckets = r.5;
        whole = eqb-true _ _ (and_right (ranged b S M) _ h);
      }

  pub figures_back : Figures long b S M → figures_fit long b S M ≡ true
  unfolding figures_fit
  figures_back f = rw (
    le-leb 1 S f.some_slots,
    le-leb S most_slots f.few_slots,
    le-leb 1 b f.some_capacity,
    le-leb b S f.few_capacity,
    le-leb 1 M f.some_buckets,
    le-leb M most_buckets f.few_buckets,
  ) (eq-eqb long (file_length S M) f.whole)

-- ---- the state

module _ (state : Image) (M : ℕ) where
  pub state_high : M ≤ most_buckets → most_level < state.level → false ≡ state_fits state M
  unfolding state_fits
  state_high few high = sym (and_none (ltb state.pointer (span first_buckets state.level))
      (leb (buckets first_buckets state) M)
      (lt-leb (buckets first_buckets state) M
      (omega (arith, buckets_is first_buckets state, span_high state.level high))))

  pub state_is : {s n : ℕ} → s ≡ span first_buckets state.level → n ≡ buckets first_buckets state
      → (ltb state.pointer s && leb n M) ≡ state_fits state M
  unfolding state_fits
  state_is es en = rw (es, en)

  pub state_back : Formed first_buckets state → buckets first_buckets state ≤ M → state_fits state M ≡ true
  unfolding state_fits
  state_back formed few = rw
      (lt-ltb state.pointer (span first_buckets state.level) formed, le-leb (buckets first_buckets state) M few)

  pub state_formed : state_fits state M ≡ true → Formed first_buckets state × (buckets first_buckets state ≤ M)
  unfolding state_fits
  state_formed h = (
    ltb-true _ _ (and_left _ _ h),
    leb-true _ _
        (and_right (ltb state.pointer (span first_buckets state.level)) _ h),
  )

-- a state within the limits is small
pub state_small : (state : Image) (M : ℕ) → M ≤ most_buckets → Formed first_buckets state
    → buckets first_buckets state ≤ M
    → (state.level ≤ most_level) × (state.pointer ≤ most_buckets)
state_small state M few formed within = (
  by_cases (dec_lt most_level state.level)
      (λ l. absurd (omega (arith, span_high state.level l, buckets_is first_buckets state)))
      (λ l. omega arith),
  omega (arith, buckets_is first_buckets state),
)

-- ---- the header

-- what a sound header shows
pub record Ranges (file : List ℕ) : Type 0 where
  pub figured : Figures (length file) (capacity_of file) (slots_of file) (most_of file)
  pub formed : Formed first_buckets (state_of file)
  pub few : buckets_of file ≤ most_of file
  pub low : (state_of file).level ≤ most_level

-- a sound header's three parts, and back
module _ (file : List ℕ) where
  pub header_parts : header_sound file ≡ true
      → (16 ≤ length file) × (fixed_bytes file ≡ true) × (ranges_fit (length file) (figures_of file) ≡ true)
  unfolding header_sound
  header_parts h =
      let front = and_left _ _ h in (
        leb-true _ _ (and_left _ _ front),
        and_right (leb 16 (length file)) _ front,
        and_right (leb 16 (length file) && fixed_bytes file) _ h,
      )

  pub header_back : 16 ≤ length file → fixed_bytes file ≡ true → ranges_fit (length file) (figures_of file) ≡ true
      → header_sound file ≡ true
  unfolding header_sound
  header_back long fixed ranged = rw (le-leb 16 (length file) long, fixed) ranged

pub header_ranges : (file : List ℕ) → header_sound file ≡ true → Ranges file
unfolding buckets_of
header_ranges file h =
    let parts = header_parts file h in
    let fits = figures _ _ _ _ (and_left _ _ parts.2) in
    let state = state_formed (state_of file) (most_of file)
    (and_right (figures_fit (length file) (capacity_of file) (slots_of file) (most_of file)) _ parts.2) in
    record {
      figured = fits;
      formed = state.0;
      few = state.1;
      low = (state_small (state_of file) (most_of file) fits.few_buckets state.0 state.1).0;
    }

-- the header that is read, by its cases
pub header_unsound : (file : List ℕ) → header_sound file ≡ false → None ≡ header_of file
unfolding header_of
header_unsound file h = rw h

pub header_sound_lem : (file : List ℕ) → header_sound file ≡ true → header_of file ≡ Some (figures_of file)
unfolding header_of
header_sound_lem file h = rw h

-- ---- reading and judging it

-- the figures that are read, one by one
pub record FiguresOf (file : List ℕ) (header : Header) : Type 0 where
  pub level : header.state.level ≡ byte_at file 2
  pub pointer : header.state.pointer ≡ le_at 2 file 4
  pub capacity : header.capacity ≡ capacity_of file
  pub slots : header.slots ≡ slots_of file
  pub most : header.most ≡ most_of file
  pub low : header.state.pointer < 65536

pub figures_of_lem : (file : List ℕ) (header : Header) → FiguresOf file header → header ≡ figures_of file
unfolding state_of
figures_of_lem file header read = λ i. record {
  state = record { level = read.level i; pointer = read.pointer i };
  capacity = read.capacity i;
  slots = read.slots i;
  most = read.most i;
}

-- the fixed bytes, the zeros by the word from byte 8 on
pub fixed_read : (file : List ℕ) → 16 ≤ length file → ((k : ℕ) → Fits w8 (get_or file k 0)) → {mark : Bool} {word : ℕ}
    → mark ≡ marked file 0 file_mark → word ≡ le_at 8 file 8 → (mark && ltb word 256) ≡ fixed_bytes file
fixed_read file long fits em ew = ap₂ ◌&&◌ em
    (ap (λ (x : ℕ). ltb x 256) ew
    ∙ zeros_behind (first_zero - 8) (16 - first_zero) file 8 (λ k. (fits k).fits) (omega arith))

-- the ranges, and the header's ways: too short, not its fixed bytes, out of range, sound
module _ (long : ℕ) (header : Header) {fits : Bool}
    (ef : fits ≡ figures_fit long header.capacity header.slots header.most) where
  pub ranges_figures : not fits ≡ true → false ≡ ranges_fit long header
  ranges_figures h = rw (sym ef ∙ not-true fits h)

  pub ranges_few : not fits ≡ false → header.most ≤ most_buckets
  ranges_few h = (figures long _ _ _ (sym ef ∙ not-false fits h)).few_buckets

  pub ranges_state : not fits ≡ false → {stated : Bool} → stated ≡ state_fits header.state header.most
      → stated ≡ ranges_fit long header
  ranges_state h es = rw (sym ef ∙ not-false fits h) es

module _ (file : List ℕ) where
  pub header_short : length file < 16 → None ≡ header_of file
  unfolding header_sound
  header_short h = header_unsound file (rw (lt-leb 16 (length file) h))

  pub header_unfixed : {fixed : Bool} → fixed ≡ fixed_bytes file → not fixed ≡ true → None ≡ header_of file
  unfolding header_sound
  header_unfixed {fixed} ef h = header_unsound file
      (rw (and_none (leb 16 (length file)) (fixed_bytes file) (sym ef ∙ not-true fixed h)))

  module _ {header : Header} (read : FiguresOf file header) {fits : Bool}
      (er : fits ≡ ranges_fit (length file) header) where
    judged : fits ≡ ranges_fit (length file) (figures_of file)
    judged = er ∙ ap (ranges_fit (length file)) (figures_of_lem file header read)

    pub header_unranged : not fits ≡ true → None ≡ header_of file
    unfolding header_sound
    header_unranged h = header_unsound file
        (and_none (leb 16 (length file) && fixed_bytes file) _ (sym judged ∙ not-true fits h))

    pub header_judged : 16 ≤ length file → {fixed : Bool} → fixed ≡ fixed_bytes file → not fixed ≡ false
        → not fits ≡ false → Some header ≡ header_of file
    header_judged long {fixed} ef right h = ap Some (figures_of_lem file header read) ∙ sym
        (header_sound_lem file
        (header_back file long (sym ef ∙ not-false fixed right) (sym judged ∙ not-false fits h)))

-- ---- what is known of a file whose header was judged sound

pub record Known (file : List ℕ) (header : Header) : Type 0 where
  pub sound : header_sound file ≡ true
  pub state : header.state ≡ state_of file
  pub capacity : header.capacity ≡ capacity_of file
  pub slots : header.slots ≡ slots_of file
  pub most : header.most ≡ most_of file
  pub ranges : Ranges file
  pub room : ImageRoom first_buckets header.state

pub buckets_of_lem : (file : List ℕ)
    → buckets_of file ≡ span first_buckets (state_of file).level + (state_of file).pointer
unfolding buckets_of
buckets_of_lem file = buckets_is first_buckets (state_of file)

pub existing : (file : List ℕ) → buckets_of file ≡ buckets first_buckets (state_of file)
unfolding buckets_of
existing file = refl

pub header_flag : (file : List ℕ) → is_some (header_of file) ≡ header_sound file
unfolding header_of
header_flag file = go (header_sound file)
  where
    go : (flag : Bool) → is_some (then_some flag (figures_of file)) ≡ flag
    go true = refl
    go false = refl

pub known : (file : List ℕ) (header : Header) → Some header ≡ header_of file → Known file header
known file header e =
    let sound : header_sound file ≡ true = sym (header_flag file) ∙ sym (ap is_some e) in
    let is : header ≡ figures_of file = ap (λ (found : Option Header). unwrap_or found (figures_of file))
    (e ∙ header_sound_lem file sound) in
    let state : header.state ≡ state_of file = ap (λ (x : Header). x.state) is in
    let seen = header_ranges file sound in
    record {
      sound = sound;
      state = state;
      capacity = ap (λ (x : Header). x.capacity) is;
      slots = ap (λ (x : Header). x.slots) is;
      most = ap (λ (x : Header). x.most) is;
      ranges = seen;
      room = record {
        levels =
            record {
              some = omega arith;
              few = omega arith;
              low = omega (arith, ap (λ (x : Image). x.level) state, seen.low);
            };
        near = omega
            (arith, ap (λ (x : Image). x.pointer) state, seen.few, seen.figured.few_buckets, buckets_of_lem file);
      };
    }

-- the same from the figures that are read of a sound header
pub known_read : (file : List ℕ) {header : Header} → header_sound file ≡ true → FiguresOf file header
    → Known file header
known_read file {header} sound read = known file header
    (ap Some (figures_of_lem file header read) ∙ sym (header_sound_lem file sound))

-- and of a file in which no header was found
pub unknown : (file : List ℕ) → None ≡ header_of file → header_sound file ≡ false
unknown file e = sym (header_flag file) ∙ sym (ap is_some e)
