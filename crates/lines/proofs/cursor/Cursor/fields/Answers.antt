-- `lines::cursor::Cursor::fields` meets its contract.
use Rattle.lines.specs.Lines.{fields_line}
use Rattle.lines.proofs.Putting.{then}
use Rattle.lines.proofs.cursor.Cursor.fields.Goals as goal

pub returns-clause-puts : goal.returns-clause-puts
unfolding fields_line
returns-clause-puts c =
    rw (← c.flag_of.ensures)
    (then c.byte.ensures
    (then c.number.ensures.puts
    (then c.number-2.ensures.puts
    (then c.number-3.ensures.puts (then c.number-4.ensures.puts c.byte-2.ensures)))))
