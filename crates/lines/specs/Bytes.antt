-- The bytes that have a meaning in a line, by name (ASCII).
use Rattle.std.specs.Prelude.{ℕ}

abbrev pub line_feed : ℕ
line_feed = 10

abbrev pub space : ℕ
space = 32

abbrev pub comma : ℕ
comma = 44

abbrev pub dash : ℕ
dash = 45

abbrev pub digit0 : ℕ
digit0 = 48

abbrev pub digit9 : ℕ
digit9 = 57

abbrev pub greater : ℕ
greater = 62

abbrev pub question : ℕ
question = 63

abbrev pub letter_a : ℕ
letter_a = 65

abbrev pub letter_g : ℕ
letter_g = 71

abbrev pub letter_i : ℕ
letter_i = 73

abbrev pub letter_s : ℕ
letter_s = 83
