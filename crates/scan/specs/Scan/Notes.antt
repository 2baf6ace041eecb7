-- What a scan notes of the buckets that it has judged: which keys match, as bits at the bucket's number, of as many
-- buckets as the notes have room for.
use Rattle.std.specs.Prelude.{ℕ, ◌+◌, ◌≤◌, ◌<◌, ◌≡◌, true, List, length, get_or, set}
use Rattle.std.proofs.Common.{sym, ap, ◌∙◌, ⊎_elim, arith, length-set, get_or-set_same, get_or-set_other}
use Rattle.std.proofs.Math.Seq.{set_out}
use Rattle.address.specs.Compare.{same}
use Rattle.file.specs.File.{bucket_sound_in}
use Rattle.scan.specs.Scan.{keys_in}
use Rattle.scan.specs.Scan.Bits.{bits_of}

-- The first k buckets are sound, and the bits of their matches stand in the notes.
pub record Noted (file : List ℕ) (lift : ℕ) (notes : List ℕ) (k : ℕ) : Type 0 where
  pub sound : (a : ℕ) → a < k → bucket_sound_in file a ≡ true
  pub bits : (a : ℕ) → a < k → a < length notes → get_or notes a 0 ≡ bits_of lift (keys_in file a)

pub note_none : (file : List ℕ) (lift : ℕ) (notes : List ℕ) → Noted file lift notes 0
note_none file lift notes =
    record { sound = λ a h. absurd (omega arith); bits = λ a h f. absurd (omega arith) }

-- past the end of the notes nothing is written
pub note_past : (notes : List ℕ) (k b : ℕ) → length notes ≤ k → notes ≡ set notes k b
note_past notes k b past = sym (set_out notes k b past)

module _ {file : List ℕ} {lift : ℕ} {notes : List ℕ} {k : ℕ} (so : Noted file lift notes k) where
  pub noted_sound : (a : ℕ) → a < k → bucket_sound_in file a ≡ true
  noted_sound = so.sound

  pub noted_bits : (a : ℕ) → a < k → a < length notes → get_or notes a 0 ≡ bits_of lift (keys_in file a)
  noted_bits = so.bits

  pub noted_fewer : (m : ℕ) → m ≤ k → Noted file lift notes m
  noted_fewer m few = record {
    sound = λ a h. so.sound a (omega arith);
    bits = λ a h f. so.bits a (omega arith) f;
  }

  pub note_more : bucket_sound_in file k ≡ true → (b : ℕ) → b ≡ bits_of lift (keys_in file k)
      → Noted file lift (set notes k b) (k + 1)
  note_more fine b eb = record {
    sound = λ a h. ⊎_elim
        (λ e. ap (bucket_sound_in file) e ∙ fine)
        (λ e. so.sound a (omega (arith, e)))
        (same a k);
    bits = λ a h f. ⊎_elim
        (λ e. ap (λ (n : ℕ). get_or (set notes k b) n 0) e
        ∙ get_or-set_same notes k b 0 (omega (arith, f, e, length-set notes k b)) ∙ eb
        ∙ ap (λ (n : ℕ). bits_of lift (keys_in file n)) (sym e))
        (λ e. get_or-set_other notes k a b 0 e
        ∙ so.bits a (omega (arith, e)) (omega (arith, f, length-set notes k b)))
        (same a k);
  }
