-- Writing over a buffer, one text after another: two texts side by side are one text.
use Rattle.std.specs.Prelude.{ℕ, ◌+◌, ◌≤◌, ◌<◌, ◌≡◌, refl, List, [], ◌∷◌, ◌++◌, length, take, drop, set}
use Rattle.std.proofs.Common.{◌∙◌, sym, ap, append-nil, add-zero, add-one, arith, length-append, take-append-drop}
use Rattle.std.proofs.lemmas.List.{set_split}
use Rattle.std.proofs.Math.Seq.{append_snoc}
use Rattle.layout.specs.Bytes.{edit}
use Rattle.layout.specs.Bytes.Edit.{edit_is, edit_next, length_edit}
use Rattle.lines.specs.Lines.{Wrote}

pub wrote_byte : (at b : ℕ) (bytes : List ℕ) → at < length bytes → Wrote at (b ∷ []) bytes (set bytes at b) (at + 1)
wrote_byte at b bytes h = record {
  place = refl;
  fits = omega arith;
  bytes = one ∙ sym (edit_is at (b ∷ []) bytes);
}
  where
    one : set bytes at b ≡ take at bytes ++ (b ∷ []) ++ drop (at + 1) bytes
    one = set_split bytes at b h ∙ rw (add-one, append_snoc)

pub wrote_none : (at : ℕ) (bytes : List ℕ) → at ≤ length bytes → Wrote at [] bytes bytes at
wrote_none at bytes h = record {
  place = sym (add-zero at);
  fits = h;
  bytes = none ∙ sym (edit_is at [] bytes);
}
  where
    none : bytes ≡ take at bytes ++ [] ++ drop (at + 0) bytes
    none = sym (rw (add-zero, append-nil) (take-append-drop at bytes))

pub wrote_length : {at next : ℕ} {text entry exit : List ℕ} → Wrote at text entry exit next → length exit ≡ length entry
wrote_length {at} {next} {text} {entry} w = ap length w.bytes ∙ length_edit at text entry (omega arith)

pub wrote_both : {at next last : ℕ} {one two entry middle exit : List ℕ}
    → Wrote at one entry middle next → Wrote next two middle exit last → Wrote at (one ++ two) entry exit last
wrote_both {at} {next} {last} {one} {two} {entry} f s = record {
  place = omega (arith, length-append one two);
  fits = omega (arith, wrote_length f);
  bytes = s.bytes
      ∙ ap (λ (m : List ℕ). edit next two m) f.bytes
      ∙ ap (λ (n : ℕ). edit n two (edit at one entry)) f.place
      ∙ edit_next at one two entry (omega (arith, wrote_length f));
}
