-- `lines::cursor::Cursor::answer` meets its contract.
use Rattle.lines.specs.Lines.{answer_line}
use Rattle.lines.proofs.Putting.{then}
use Rattle.lines.proofs.cursor.Cursor.answer.Goals as goal

pub returns-clause-puts : goal.returns-clause-puts
unfolding answer_line
returns-clause-puts c =
    then c.byte.ensures
    (then c.number.ensures.puts
    (then c.number-2.ensures.puts (then c.number-3.ensures.puts c.byte-2.ensures)))
