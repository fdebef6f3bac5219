-- `lines::cursor::put_decimal`, which calls itself on a tenth of the number, meets its contract. The measure is the number.
use mathlib.Core.Path.{refl}
use native.Mathlib.Omega.{arith}
use Rattle.lines.proofs.Numbers.{decimal_more}
use Rattle.lines.proofs.Putting.{joined}
use Rattle.lines.proofs.cursor.+put_decimal.Goals as goal

pub returns : goal.returns
returns t c =
    let n = c.args.n in
    rw (decimal_more n (omega arith) (omega arith)) (joined c.put_decimal-next.ensures (record { puts = refl; ends = refl }))
