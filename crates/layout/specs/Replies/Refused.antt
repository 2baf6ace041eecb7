-- The number of each refusal, which is the reply of a call that gives it; a call that is not refused gives 0.
use Rattle.std.specs.Prelude.{ℕ, ◌≡◌, Result, Ok, Err}
use Rattle.std.proofs.Common.{arith}
use Rattle.layout.specs.declared.refused.Refused.{Refused}
use Rattle.layout.specs.declared.refused.Refused.TheVariants.{Table, Client, Record, Header, Ahead, Bucket, Held}
use Rattle.layout.specs.declared.refused.Refused.TheVariants.{Full, NoRoom, Visits, Matches, Figures, Lengths}
use Rattle.layout.specs.declared.refused.Refused.TheVariants.{Threshold}

abbrev pub number : Refused → ℕ
number Table = 2
number Client = 3
number Record = 4
number Header = 5
number Ahead = 6
number Bucket = 7
number Held = 8
number Full = 9
number NoRoom = 10
number Visits = 11
number Matches = 12
number Figures = 13
number Lengths = 14
number Threshold = 15

-- The reply that a result stands for.
abbrev pub given : {A : Type 0} → Result A Refused → ℕ
given (Ok _) = 0
given (Err refused) = number refused

-- no refusal has the number 0
pub number_some : (refused : Refused) → number refused ≡ 0 → ⊥
number_some Table e = omega (arith, e)
number_some Client e = omega (arith, e)
number_some Record e = omega (arith, e)
number_some Header e = omega (arith, e)
number_some Ahead e = omega (arith, e)
number_some Bucket e = omega (arith, e)
number_some Held e = omega (arith, e)
number_some Full e = omega (arith, e)
number_some NoRoom e = omega (arith, e)
number_some Visits e = omega (arith, e)
number_some Matches e = omega (arith, e)
number_some Figures e = omega (arith, e)
number_some Lengths e = omega (arith, e)
number_some Threshold e = omega (arith, e)
