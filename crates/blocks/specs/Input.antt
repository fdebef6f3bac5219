-- What is printed for a whole input, from its first byte to its last.
-- SCOPE 10.1: first the lines of the whole records, and then, if bytes are spare, A 14 0 0.
use Rattle.std.specs.Prelude.{cond, List, [], ◌++◌, ℕ}
use Rattle.session.specs.declared.Answer.{Answer}
use Rattle.session.specs.declared.Session.{Session}
use Rattle.session.specs.Bus.{number_of}
use Rattle.session.specs.Machine.{fresh_session}
use Rattle.session.specs.Records.{records_of, is_whole}
use Rattle.session.specs.declared.Outcome.{Outcome}
use Rattle.lines.specs.Lines.{answer_line, fields_line, outcome_line}
use Rattle.blocks.specs.Blocks.{lines_of}

-- A 14 0 0: the line of answer 14
unfoldable pub spare_line : List ℕ
spare_line = answer_line (number_of Answer.SpareBytes) 0 0

-- what comes after the lines of a list's whole records: `spare` where bytes are spare
unfoldable pub after_lines : List ℕ → List ℕ → List ℕ
after_lines spare bytes = cond (is_whole bytes) [] spare

-- the text of bytes that a session meets, where `line` is the line of an outcome
unfoldable pub text_from : (Outcome → List ℕ) → List ℕ → Session → List ℕ → List ℕ
text_from line spare s bytes = lines_of line s (records_of bytes) ++ after_lines spare bytes

-- SCOPE 10.1: what rolltrace prints for the records that it reads into a fresh session
unfoldable pub rolltrace_text : List ℕ → List ℕ
rolltrace_text bytes = text_from outcome_line spare_line fresh_session bytes

-- SCOPE 10.2: what rollfields prints: the driver's fields after each record, and nothing for spare bytes
unfoldable pub rollfields_text : List ℕ → List ℕ
rollfields_text bytes = text_from (λ o. fields_line o.session.driver) [] fresh_session bytes
