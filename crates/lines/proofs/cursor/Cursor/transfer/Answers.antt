-- `lines::cursor::Cursor::transfer` meets its contract.
use Rattle.lines.specs.Lines.{transfer_line}
use Rattle.lines.proofs.Putting.{then}
use Rattle.lines.proofs.cursor.Cursor.transfer.Goals as goal

pub returns-clause-puts : goal.returns-clause-puts
unfolding transfer_line
returns-clause-puts c =
    then c.byte.ensures
    (then c.byte-2.ensures
    (then c.pair.ensures
    (then c.byte-3.ensures (then c.pairs.ensures.puts (then c.number.ensures.puts c.byte-4.ensures)))))
