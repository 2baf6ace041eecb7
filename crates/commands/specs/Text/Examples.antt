-- Command lines of document 01 and lines that it rules out, computed from the definitions.
use Rattle.std.specs.Prelude.{◌-◌, ◌^◌, ◌≡◌, refl, [], ◌∷◌, map, replicate}
use Prim.Native.String.{String}
use Rattle.lines.specs.Lines.Examples.{bytes_of}
use Rattle.commands.specs.Text.{all_digits, no_spare_zero, spelled, value, is_number, longer, pieces, named}
use Rattle.commands.specs.Text.{limit_after, of_numbers, of_fields, command_of}
use Rattle.commands.specs.declared.Command.{Command}
use Rattle.commands.specs.declared.Command.TheVariants.{Split, Insert, Search, Scan, Unknown}

pub read : String → Command
read text = command_of (bytes_of text)

pub record Examples : Type 0 where
  pub split : read "G" ≡ Split
  pub insert : read "I 0 5" ≡ Insert 0 5
  pub search : read "S 9 18446744073709551615" ≡ Search 9 (2 ^ 64 - 1)
  pub scan : read "A 1 4294967295" ≡ Scan 1 (2 ^ 32 - 1)
  pub blank : map read ("" ∷ "\r" ∷ "G " ∷ " G" ∷ "I" ∷ "I 0" ∷ "I 0 " ∷ "I  0 5" ∷ "I 0  5" ∷ "I 0 5 " ∷ [])
      ≡ replicate 10 Unknown
  pub other : map read ("g" ∷ "GG" ∷ "X 0 5" ∷ "I 0 5 6" ∷ "I 00 5" ∷ "I 0 05" ∷ "I +1 5" ∷ "I -1 5" ∷ "I 0 5:" ∷ [])
      ≡ replicate 9 Unknown
  pub large : map read ("I 18446744073709551616 5" ∷ "S 0 18446744073709551616" ∷ "A 1 4294967296" ∷ [])
      ≡ replicate 3 Unknown

pub examples : Examples
unfolding bytes_of read all_digits no_spare_zero spelled value is_number longer pieces named limit_after of_numbers
    of_fields
    command_of
examples = record {
  split = refl;
  insert = refl;
  search = refl;
  scan = refl;
  blank = refl;
  other = refl;
  large = refl;
}
