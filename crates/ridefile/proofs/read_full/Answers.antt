-- `ridefile::read_full`: what was read so far is within the buffer, and is what the reader has lost; each turn reads
-- more.
use Rattle.std.proofs.Common.{◌≡◌, ℕ, ◌+◌, ◌-◌, ◌≤◌, List, ◌++◌, rules, length, take, sym, ap, ◌∙◌}
use Rattle.std.proofs.Common.{subst, length-take-le}
use Rattle.std.proofs.Math.Seq.{take-append-add}
use Rattle.std.proofs.lemmas.List.{take-append-le}
use Rattle.std.specs.Io.KnownBytes.{Consumes}
use Rattle.std.proofs.KnownBytes.{Consumes-trans}
use borrow.Rule.Slice.PartMut.{put_mid, post_of}
use Rattle.ridefile.proofs.read_full.Goals as goal

-- the first bytes of a buffer into whose middle others were put, up to some of those
filled_more : (at room more : ℕ) (buffer bytes : List ℕ) → at ≤ length buffer → more ≤ length bytes
    → take (at + more) (put_mid at room buffer bytes) ≡ take at buffer ++ take more bytes
filled_more at room more buffer bytes within fits =
    ap (λ (n : ℕ). take (n + more) (put_mid at room buffer bytes)) (sym (length-take-le at buffer within))
    ∙ take-append-add (take at buffer) (bytes ++ post_of at room buffer) more
    ∙ ap (λ (l : List ℕ). take at buffer ++ l) (take-append-le more bytes (post_of at room buffer) fits)

pub loop-filled-preserved : goal.loop-filled-preserved
loop-filled-preserved g c =
    let at = c.loop-filled.filled in
    let whole = filled_more at (length c.loop-filled.buffer - at) c.in-Ok.more c.loop-filled.buffer c.read.new.buf
    c.loop-filled.invariant.1 c.in-Ok.ensures.bound.0 in (
      search rules,
      search rules,
      subst (Consumes _ _) (sym whole)
          (Consumes-trans _ _ _ _ _ c.loop-filled.invariant.2 c.in-Ok.ensures.bytes.0),
    )
