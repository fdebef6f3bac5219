-- The measure is the number, which falls to its tenth.
use Rattle.lines.proofs.cursor.+put_decimal.Given as goal

abbrev pub decreases-put_decimal : goal.decreases-put_decimal
decreases-put_decimal l = l.n
