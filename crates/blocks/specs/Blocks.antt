-- The lines of records, one after the other, as a program prints them, block by block (SCOPE 10.1).
use Rattle.std.specs.Prelude.{◌≡◌, List, [], ◌∷◌, ◌++◌, ℕ, ◌+◌, ◌*◌, ◌/◌, ◌≤◌, ◌<◌, length, drop}
use Rattle.session.specs.declared.Rules.{Rules}
use Rattle.session.specs.declared.Session.{Session}
use Rattle.session.specs.Records.{Record, records_of}
use Rattle.session.specs.History.{step_def, session_of}
use Rattle.session.specs.declared.Outcome.{Outcome}
use Rattle.session.specs.Given.{outcome_of}
use Rattle.records.specs.Records.{record_in}
use Rattle.lines.specs.Put.{line_room, Put}
use Rattle.blocks.specs.declared.Printout.{Printout}

-- the lines of records, where `line` is the line of an outcome: each record meets the session that the one before it left. SCOPE 2.6: programs go by
-- the current rules
unfoldable pub lines_of : (Outcome → List ℕ) → Session → List Record → List ℕ
lines_of line s [] = []
lines_of line s (r ∷ rs) = line (outcome_of (step_def Rules.Current s r)) ++ lines_of line (session_of (step_def Rules.Current s r)) rs

unfoldable pub session_past : Session → List Record → Session
session_past s [] = s
session_past s (r ∷ rs) = session_past (session_of (step_def Rules.Current s r)) rs

-- the line of one record, and the session after it
pub record OneMore (line_of : Outcome → List ℕ) (p : Printout) (bytes out out' : List ℕ) (r : Printout) : Type 0 where
  pub line : Put out p.count (line_of (outcome_of (step_def Rules.Current p.session (record_in bytes)))) out' r.count
  pub short : r.count ≤ p.count + line_room
  pub session : r.session ≡ session_of (step_def Rules.Current p.session (record_in bytes))

-- the lines of a list stand at the start of the lent bytes, and those after them are as they were
pub record Printed (line_of : Outcome → List ℕ) (s : Session) (bytes out out' : List ℕ) (r : Printout) : Type 0 where
  pub text : out' ≡ lines_of line_of s (records_of bytes) ++ drop r.count out
  pub count : r.count ≡ length (lines_of line_of s (records_of bytes))
  pub session : r.session ≡ session_past s (records_of bytes)

-- the room for the lines of so many bytes of records
abbrev pub text_room : ℕ → ℕ
text_room n = line_room * (n / 8)

-- where the room is too small nothing is done
pub record NotPrinted (s : Session) (out out' : List ℕ) (r : Printout) : Type 0 where
  pub text : out' ≡ out
  pub count : r.count ≡ 0
  pub session : r.session ≡ s

-- room for a line for each whole record is enough
pub record Prints (line_of : Outcome → List ℕ) (s : Session) (bytes out out' : List ℕ) (r : Printout) : Type 0 where
  pub with_room : text_room (length bytes) ≤ length out → Printed line_of s bytes out out' r
  pub without : length out < text_room (length bytes) → NotPrinted s out out' r
  pub fits : r.count ≤ length out'
