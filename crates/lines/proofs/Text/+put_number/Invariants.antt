-- `lines::Text::put_number` writes the digits of x / 10 by a call of itself, and then the last digit. The measure is x.
use Rattle.lines.proofs.Text.+put_number.Given as goal

abbrev pub decreases-put_number : goal.decreases-put_number
decreases-put_number l = l.x
