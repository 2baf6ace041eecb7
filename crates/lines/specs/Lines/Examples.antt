-- Lines of document 01, computed from the definitions.
use Prim.Native.Char.{code}
use Rattle.std.specs.Prelude.{ℕ, ◌≡◌, refl, List, [], ◌∷◌}
use Prim.Native.String as Chars
use Prim.Native.String.{String}
use Rattle.lines.specs.Bytes.{letter_i, letter_s}
use Rattle.lines.specs.Lines.{decimal_within, decimal, each_after, joined, unknown_line, heading, answer_line}
use Rattle.lines.specs.Lines.{split_route, split_line, scanned, scan_line}

-- The bytes of an ASCII text.
unfoldable pub bytes_of : String → List ℕ
bytes_of Chars.[] = []
bytes_of (Chars.◌∷◌ c cs) = code c ∷ bytes_of cs

pub record Examples : Type 0 where
  pub number : decimal 18446744073709551615 ≡ bytes_of "18446744073709551615"
  pub splits : split_line 0 0 1 ≡ bytes_of "G 0 0>1\n"
  pub refuses : split_line 10 65535 65535 ≡ bytes_of "G 10 -\n"
  pub inserts : answer_line letter_i 8 (1 ∷ 5 ∷ []) ≡ bytes_of "I 8 1>5\n"
  pub searches : answer_line letter_s 0 (5 ∷ []) ≡ bytes_of "S 0 5\n"
  pub scans : scan_line 0 (0 ∷ 1 ∷ 2 ∷ 4 ∷ 3 ∷ 5 ∷ []) 1 ≡ bytes_of "A 0 0,1,2,4,3,5 1\n"
  pub scanless : scan_line 3 [] 0 ≡ bytes_of "A 3 -\n"
  pub unknown : unknown_line ≡ bytes_of "?\n"

pub examples : Examples
unfolding bytes_of decimal_within decimal each_after joined unknown_line heading answer_line split_route split_line
    scanned
    scan_line
examples = record {
  number = refl;
  splits = refl;
  refuses = refl;
  inserts = refl;
  searches = refl;
  scans = refl;
  scanless = refl;
  unknown = refl;
}
