-- Create writes the created file, byte by byte, and that file is sound.
use Prim.Native.Nat.{ℕ, zero, suc, ◌+◌, ◌*◌, ◌-◌, ◌/◌, ◌%◌, ◌≤◌, ◌<◌}
use Rattle.std.specs.Prelude.{◌≡◌, Bool, true, false, cond, not, ◌&&◌, length, get_or, replicate}
use Rattle.std.proofs.Math.Path.{refl, sym, ap, ap₂}
use Rattle.std.proofs.Common.{subst, ◌∙◌, suc-mul, add_comm, take_at, drop_at}
use mathlib.Core.List.{List, [], ◌∷◌, ◌++◌}
use Rattle.std.proofs.Math.Nat.{mul-le-mul_right}
use Rattle.std.proofs.Math.Logic.{by_cases}
use Rattle.std.proofs.Math.Decide.{dec_lt}
use native.Mathlib.Omega.{arith}
use borrow.Author.Tests.{not-true, not-false}
use Rattle.std.proofs.Math.ListN.{take, drop, length-append, length-replicate, get_or-eq_default}
use Rattle.std.proofs.lemmas.List.{get_or-replicate, replicate-append-replicate}
use Rattle.std.proofs.Math.Seq.{get_or-append-add}
use Rattle.address.specs.Limits.{first_buckets}
use Rattle.address.specs.declared.Image.{Image}
use Rattle.address.specs.Rules.{«at», buckets}
use Rattle.address.specs.Rules.Hash.{span_is}
use Rattle.address.specs.Rules.Cases.{buckets_is, level_rest}
use Rattle.layout.specs.Bytes.{Bytes, all_below, all_zero, edit, part}
use Rattle.layout.specs.Bytes.Tests.{and_both, replicate_zero, zero_all, all_of}
use Rattle.layout.specs.Bytes.Edit.{edit_seam, edit_next, part_seam, part_at, length_part, append_bytes, zeros_bytes}
use Rattle.layout.specs.Bytes.Numbers.{le_bytes_two, le_two}
use Rattle.layout.specs.Replies.{refuse, reply, reply_none, reply_here, reply_past}
use Rattle.bucket.specs.Region.{slot_at, rides_of, bucket_sound, encode}
use Rattle.bucket.specs.Region.Held.{encode_bytes}
use Rattle.bucket.specs.Region.Sound.{empty_sound, rides_encode}
use Rattle.bucket.specs.Region.Encode.{length_encode}
use Rattle.file.specs.File.{file_mark, most_of, state_of, file_length, figures_fit, state_fits, buckets_of}
use Rattle.file.specs.File.{header_sound}
use Rattle.file.specs.File.{start_of, region_of, bucket_sound_in, region_sound, file_sound, header_bytes, created}
use Rattle.file.specs.File.{Created, create, first_zero, fixed_bytes}
use Rattle.file.specs.File.Region.{region_is, region_within, region_bucket, region_past}
use Rattle.file.specs.File.Judge.{Figures, figures, figures_back, state_back, header_back}

-- zeros, of numbers
abbrev zeros : ℕ → List ℕ
zeros n = replicate n 0

zeros_at : (n k : ℕ) → get_or (zeros n) k 0 ≡ 0
zeros_at n k = by_cases (dec_lt k n) (λ h. get_or-replicate n k 0 0 h)
    (λ h. get_or-eq_default (zeros n) 0 {n = k} (omega (arith, length-replicate {A = ℕ} n 0)))

zeros_split : (n m : ℕ) → zeros (n + m) ≡ zeros n ++ zeros m
zeros_split n m = sym (replicate-append-replicate n m 0)

-- a new file's header, byte by byte
pub header_is : (b S M : ℕ)
    → header_bytes («at» 0 0) b S M ≡ 76 ∷ 70 ∷ 0 ∷ b ∷ 0 ∷ 0 ∷ M % 256 ∷ M / 256 % 256 ∷ S ∷ zeros (16 - first_zero)
unfolding header_bytes
header_is b S M = rw (le_bytes_two 0, le_bytes_two M)

-- it is written as its mark and its figures
pub header_written : (file : List ℕ) (b S M : ℕ) → 16 ≤ length file → {one two : List ℕ}
    → one ≡ edit 0 file_mark file
    → two ≡ edit 2 (0 ∷ b ∷ 0 ∷ 0 ∷ M % 256 ∷ M / 256 % 256 ∷ S ∷ zeros (16 - first_zero)) one
    → two ≡ edit 0 (header_bytes («at» 0 0) b S M) file
header_written file b S M fits e f = f ∙ ap (edit 2 _) e ∙ edit_next 0 file_mark _ file fits
    ∙ ap (λ (l : List ℕ). edit 0 l file) (sym (header_is b S M))

pub length_header : (b S M : ℕ) → length (header_bytes («at» 0 0) b S M) ≡ 16
length_header b S M = rw (header_is b S M)

-- one region and the others
one_region : (S M : ℕ) → 1 ≤ M → M * (8 + 24 * S) ≡ 8 + 24 * S + (M - 1) * (8 + 24 * S)
one_region S M some = ap (λ (m : ℕ). m * (8 + 24 * S)) one ∙ suc-mul (M - 1) (8 + 24 * S)
    ∙ add_comm ((M - 1) * (8 + 24 * S)) (8 + 24 * S)
  where
    one : M ≡ suc (M - 1)
    one = omega arith

-- the file that is left: zeros, then the header, then the first bucket's region
module _ (b S M : ℕ) (file : List ℕ) (fits : Figures (length file) b S M) where
  all : M * (8 + 24 * S) ≡ 8 + 24 * S + (M - 1) * (8 + 24 * S)
  all = one_region S M fits.some_buckets

  pub create_room : {cleared headed : ℕ} → cleared ≡ length file → headed ≡ cleared → 16 + (8 + 24 * S) ≤ headed
  create_room ec eh = omega (arith, fits.whole, all)

  pub created_written : {cleared headed region : List ℕ} → cleared ≡ replicate (length file) 0
      → headed ≡ edit 0 (header_bytes («at» 0 0) b S M) cleared → region ≡ encode S 0 []
      → take 16 headed ++ (region ++ drop (16 + (8 + 24 * S) - 16) (drop 16 headed)) ≡ created b S M
  unfolding created
  created_written {headed = headed} ec eh er =
      ap₂ (λ (l r : List ℕ). take 16 l ++ (r ++ drop (16 + (8 + 24 * S) - 16) (drop 16 l))) whole er
      ∙ ap₂ (λ (h z : List ℕ). h ++ (encode S 0 [] ++ z)) (take_at head tail 16 (length_header b S M))
      (ap (drop (16 + (8 + 24 * S) - 16)) (drop_at head tail 16 (length_header b S M)) ∙ less)
    where
      head : List ℕ
      head = header_bytes («at» 0 0) b S M

      tail : List ℕ
      tail = zeros (M * (8 + 24 * S))

      whole : headed ≡ header_bytes («at» 0 0) b S M ++ zeros (M * (8 + 24 * S))
      whole = eh ∙ ap (edit 0 head) (ec ∙ ap zeros fits.whole ∙ zeros_split 16 (M * (8 + 24 * S)))
          ∙ edit_seam [] head (zeros 16 ++ tail) 0 refl
          ∙ ap (λ (n : ℕ). head ++ drop n (zeros 16 ++ tail)) (length_header b S M)

      less : drop (16 + (8 + 24 * S) - 16) tail ≡ zeros ((M - 1) * (8 + 24 * S))
      less = ap₂ (λ (n m : ℕ). drop n (zeros m)) wide all
          ∙ ap (drop (8 + 24 * S)) (zeros_split (8 + 24 * S) ((M - 1) * (8 + 24 * S)))
          ∙ drop_at (zeros (8 + 24 * S)) (zeros ((M - 1) * (8 + 24 * S))) (8 + 24 * S)
          (length-replicate {A = ℕ} (8 + 24 * S) 0)
        where
          wide : 16 + (8 + 24 * S) - 16 ≡ 8 + 24 * S
          wide = omega arith

-- create, by its cases
module _ (file : List ℕ) (b S M : ℕ) {fits : Bool} (ef : fits ≡ figures_fit (length file) b S M) where
  pub create_refused : not fits ≡ true → record { answer = 13; file = file } ≡ create file b S M
  unfolding create
  create_refused h = rw (sym ef ∙ not-true fits h)

  module _ (passed : not fits ≡ false) where
    fitting : figures_fit (length file) b S M ≡ true
    fitting = sym ef ∙ not-false fits passed

    pub create_fits : Figures (length file) b S M
    create_fits = figures (length file) b S M fitting

    pub create_done : {after : List ℕ} → after ≡ created b S M → record { answer = 0; file = after } ≡ create file b S M
    unfolding create
    create_done e = rw fitting (λ i. record { answer = 0; file = e i })

-- its reply, as document 01 lists it
pub create_reply : (file : List ℕ) (b S M : ℕ)
    → (create file b S M).answer ≡ reply (refuse 13 (not (figures_fit (length file) b S M)) ∷ []) 0
unfolding create
create_reply file b S M = go (figures_fit (length file) b S M)
  where
    go : (fits : Bool) → (cond {A = Created} fits (record { answer = 0; file = created b S M })
        (record { answer = 13; file = file })).answer ≡ reply (refuse 13 (not fits) ∷ []) 0
    go true = sym (reply_past 13 false _ 0 refl ∙ reply_none 0)
    go false = sym (reply_here 13 true _ 0 refl)

pub create_left : (file : List ℕ) (b S M : ℕ) → (create file b S M).answer ≡ 13 → (create file b S M).file ≡ file
unfolding create
create_left file b S M = go (figures_fit (length file) b S M)
  where
    go : (fits : Bool) → (cond {A = Created} fits (record { answer = 0; file = created b S M })
        (record { answer = 13; file = file })).answer ≡ 13
        → (cond {A = Created} fits (record { answer = 0; file = created b S M })
        (record { answer = 13; file = file })).file ≡ file
    go true e = absurd (omega (arith, e))
    go false e = refl

pub create_single : (file : List ℕ) (b S M : ℕ) (o p : Created) → o ≡ create file b S M → p ≡ create file b S M → o ≡ p
create_single file b S M o p eo ep = eo ∙ sym ep

-- ---- the created file is sound

-- a file just made: sound, in state (0, 0), and no bucket holds a ride
pub record Fresh (file : List ℕ) : Type 0 where
  pub bytes : Bytes file
  pub sound : file_sound file ≡ true
  pub start : state_of file ≡ «at» 0 0
  pub empty : (a : ℕ) → a < buckets_of file → rides_of (region_of file a) ≡ []

-- numbers that are bytes, one by one
abbrev AllLow : List ℕ → Type 0
AllLow [] = Unit {0}
AllLow (x ∷ xs) = (x < 256) × AllLow xs

low_bytes : (xs : List ℕ) → AllLow xs → Bytes xs
low_bytes [] low k = omega arith
low_bytes (x ∷ xs) low zero = low.0
low_bytes (x ∷ xs) low (suc k) = low_bytes xs low.1 k

module _ (b S M : ℕ) (fits : Figures (file_length S M) b S M) where
  -- its first 16 bytes, and those behind them
  head : List ℕ
  head = 76 ∷ 70 ∷ 0 ∷ b ∷ 0 ∷ 0 ∷ M % 256 ∷ M / 256 % 256 ∷ S ∷ zeros (16 - first_zero)

  behind : List ℕ
  behind = encode S 0 [] ++ zeros ((M - 1) * (8 + 24 * S))

  is_laid : created b S M ≡ head ++ behind
  unfolding created head behind
  is_laid = ap (λ (l : List ℕ). l ++ (encode S 0 [] ++ zeros ((M - 1) * (8 + 24 * S)))) (header_is b S M)

  most : most_of (head ++ behind) ≡ M
  unfolding head
  most = sym (le_two (head ++ behind) 6) ∙ omega (arith, fits.few_buckets)

  state : state_of (head ++ behind) ≡ «at» 0 0
  unfolding state_of head
  state = λ i. record { level = 0; pointer = (sym (le_two (head ++ behind) 4)) i }

  first_long : length (encode S 0 []) ≡ 8 + 24 * S
  first_long = length_encode S 0 [] tt (omega arith)

  laid_long : length (head ++ behind) ≡ file_length S M
  unfolding head behind
  laid_long = omega (
    arith,
    length-append (encode S 0 []) (zeros ((M - 1) * (8 + 24 * S))),
    first_long,
    length-replicate {A = ℕ} ((M - 1) * (8 + 24 * S)) 0,
    one_region S M fits.some_buckets,
  )

  laid_at : (k : ℕ) → get_or (head ++ behind) (16 + k) 0 ≡ get_or behind k 0
  unfolding head
  laid_at k = get_or-append-add head behind k 0

  fixed : fixed_bytes (head ++ behind) ≡ true
  unfolding head
  fixed = ap all_zero
      (part_seam first_zero (76 ∷ 70 ∷ 0 ∷ b ∷ 0 ∷ 0 ∷ M % 256 ∷ M / 256 % 256 ∷ S ∷ []) (zeros (16 - first_zero))
      behind
      refl)
      ∙ replicate_zero (16 - first_zero)

  one_bucket : buckets first_buckets («at» 0 0) ≡ 1
  one_bucket = buckets_is first_buckets («at» 0 0) ∙ omega (arith, span_is first_buckets 0)

  laid_header : header_sound (head ++ behind) ≡ true
  unfolding head
  laid_header = header_back (head ++ behind) (omega (arith, laid_long)) fixed
      (and_both _ _
      (ap₂ (λ (n m : ℕ). figures_fit n b S m) laid_long most ∙ figures_back (file_length S M) b S M fits)
      (ap₂ state_fits state most
      ∙ state_back («at» 0 0) M (omega (arith, span_is first_buckets 0))
      (omega (arith, one_bucket, fits.some_buckets))))

  -- its first region is an empty bucket of level 0, the others are zero
  first_region : region_of (head ++ behind) 0 ≡ encode S 0 []
  unfolding head behind
  first_region = region_is (head ++ behind) 0 ∙ ap₂ (λ (p n : ℕ). part p n (head ++ behind)) place (sym first_long)
      ∙ part_seam 16 head (encode S 0 []) (zeros ((M - 1) * (8 + 24 * S))) refl
    where
      place : start_of S 0 ≡ 16
      place = omega arith

  other_region : (a : ℕ) → 1 ≤ a → a < M → all_zero (region_of (head ++ behind) a) ≡ true
  unfolding head behind
  other_region a some there = ap all_zero (region_is (head ++ behind) a)
      ∙ zero_all (part (start_of S a) (slot_at S) (head ++ behind)) each
    where
      past : 8 + 24 * S ≤ a * (8 + 24 * S)
      past = omega (arith, mul-le-mul_right (8 + 24 * S) some)

      long : length (part (start_of S a) (slot_at S) (head ++ behind)) ≡ slot_at S
      long = length_part (start_of S a) (slot_at S) (head ++ behind)
          (omega (arith, laid_long, region_within S M a there))

      each : (k : ℕ) → k < length (part (start_of S a) (slot_at S) (head ++ behind))
          → get_or (part (start_of S a) (slot_at S) (head ++ behind)) k 0 ≡ 0
      each k h =
          part_at (start_of S a) (slot_at S) (head ++ behind) k (omega (arith, long))
          ∙ ap (λ (i : ℕ). get_or (head ++ behind) i 0) inside
          ∙ laid_at (8 + 24 * S + (a * (8 + 24 * S) - (8 + 24 * S) + k))
          ∙ ap (λ (i : ℕ). get_or (encode S 0 [] ++ zeros ((M - 1) * (8 + 24 * S)))
          (i + (a * (8 + 24 * S) - (8 + 24 * S) + k)) 0) (sym first_long)
          ∙ get_or-append-add (encode S 0 []) (zeros ((M - 1) * (8 + 24 * S))) (a * (8 + 24 * S) - (8 + 24 * S) + k) 0
          ∙ zeros_at ((M - 1) * (8 + 24 * S)) (a * (8 + 24 * S) - (8 + 24 * S) + k)
        where
          inside : start_of S a + k ≡ 16 + (8 + 24 * S + (a * (8 + 24 * S) - (8 + 24 * S) + k))
          inside = omega (arith, past)

  laid_buckets : buckets_of (head ++ behind) ≡ 1
  unfolding buckets_of
  laid_buckets = ap (buckets first_buckets) state ∙ one_bucket

  first_sound : bucket_sound_in (head ++ behind) 0 ≡ true
  unfolding bucket_sound_in head
  first_sound = ap₂ (λ (s : Image) (r : List ℕ). bucket_sound first_buckets s S 0 r) state first_region
      ∙ empty_sound first_buckets («at» 0 0) S 0 0 (omega (arith, fits.few_slots))
      (level_rest first_buckets («at» 0 0) 0 (omega arith) (omega (arith, span_is first_buckets 0)))

  laid_region : (a : ℕ) → a < M → region_sound (head ++ behind) a ≡ true
  laid_region zero there = region_bucket (head ++ behind) 0 (omega (arith, laid_buckets)) ∙ first_sound
  laid_region (suc a) there = region_past (head ++ behind) (suc a) (omega (arith, laid_buckets))
      ∙ other_region (suc a) (omega arith) there

  -- create gives a sound file
  pub created_sound : file_sound (created b S M) ≡ true
  unfolding file_sound
  created_sound = ap (λ (l : List ℕ). header_sound l && all_below (region_sound l) (most_of l)) is_laid
      ∙ and_both _ _ laid_header
      (all_of (region_sound (head ++ behind)) (most_of (head ++ behind)) (λ a h. laid_region a (omega (arith, most))))

  -- it is bytes, in state (0, 0), and its one bucket holds nothing
  laid_bytes : Bytes (head ++ behind)
  unfolding head behind
  laid_bytes = append_bytes (76 ∷ 70 ∷ 0 ∷ b ∷ 0 ∷ 0 ∷ M % 256 ∷ M / 256 % 256 ∷ S ∷ zeros 7)
      (encode S 0 [] ++ zeros ((M - 1) * (8 + 24 * S)))
      (append_bytes figures_bytes (zeros 7) (low_bytes figures_bytes low) (zeros_bytes 7))
      (append_bytes (encode S 0 []) (zeros ((M - 1) * (8 + 24 * S))) (encode_bytes S 0 [] (omega arith) tt)
      (zeros_bytes ((M - 1) * (8 + 24 * S))))
    where
      figures_bytes : List ℕ
      figures_bytes = 76 ∷ 70 ∷ 0 ∷ b ∷ 0 ∷ 0 ∷ M % 256 ∷ M / 256 % 256 ∷ S ∷ []

      capacity : b < 256
      capacity = omega (arith, fits.few_capacity, fits.few_slots)

      low : AllLow figures_bytes
      low = (
        omega arith,
        (
          omega arith,
          (
            omega arith,
            (
              capacity,
              (
                omega arith,
                (
                  omega arith,
                  (
                    omega arith,
                    (
                      omega arith,
                      (omega (arith, fits.few_slots), tt),
                    ),
                  ),
                ),
              ),
            ),
          ),
        ),
      )

  laid_empty : (a : ℕ) → a < buckets_of (head ++ behind) → rides_of (region_of (head ++ behind) a) ≡ []
  laid_empty zero there = ap rides_of first_region
      ∙ rides_encode S 0 [] tt (omega arith) (omega (arith, fits.few_slots))
  laid_empty (suc a) there = absurd (omega (arith, laid_buckets))

  pub created_fresh : Fresh (created b S M)
  created_fresh = subst Fresh (sym is_laid)
      (record {
        bytes = laid_bytes;
        sound = ap file_sound (sym is_laid) ∙ created_sound;
        start = state;
        empty = laid_empty;
      })

-- and so is whatever create accepts
create_figures : (file : List ℕ) (b S M : ℕ) → figures_fit (length file) b S M ≡ true → Figures (file_length S M) b S M
create_figures file b S M h =
    let f = figures (length file) b S M h in
    record {
      some_slots = f.some_slots;
      few_slots = f.few_slots;
      some_capacity = f.some_capacity;
      few_capacity = f.few_capacity;
      some_buckets = f.some_buckets;
      few_buckets = f.few_buckets;
      whole = refl;
    }

pub create_sound : (file : List ℕ) (b S M : ℕ) → figures_fit (length file) b S M ≡ true
    → file_sound (created b S M) ≡ true
create_sound file b S M h = created_sound b S M (create_figures file b S M h)

pub create_fresh : (file : List ℕ) (b S M : ℕ) → (create file b S M).answer ≡ 0 → Fresh (create file b S M).file
create_fresh file b S M = go (figures_fit (length file) b S M) refl
  where
    go : (fits : Bool) → figures_fit (length file) b S M ≡ fits → (create file b S M).answer ≡ 0
        → Fresh (create file b S M).file
    go true e done = subst Fresh (ap (λ (o : Created). o.file) (create_done file b S M refl (ap not e) refl))
        (created_fresh b S M (create_figures file b S M e))
    go false e done = absurd
        (omega (arith, done, ap (λ (o : Created). o.answer) (create_refused file b S M refl (ap not e))))
