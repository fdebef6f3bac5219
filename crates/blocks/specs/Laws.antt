-- What holds of the text of every input.
use Rattle.std.specs.Prelude.{◌≡◌, true, false, List, [], ◌∷◌, ◌++◌, ℕ, ◌*◌, ◌/◌, ◌%◌, length, take}
use Rattle.session.specs.declared.Rules.{Rules}
use Rattle.session.specs.declared.Session.{Session}
use Rattle.session.specs.Bus.{number_of}
use Rattle.session.specs.Machine.{fresh_session}
use Rattle.session.specs.Records.{records_of, is_whole}
use Rattle.session.specs.History.{Got, transfer, answer, refusal, Entry, run_def, session_after}
use Rattle.session.specs.declared.Outcome.{Outcome}
use Rattle.lines.specs.Lines.{transfer_line, answer_line, fields_line, value_of}
use Rattle.blocks.specs.Blocks.{lines_of, session_past}
use Rattle.blocks.specs.Input.{spare_line, text_from, rolltrace_text, rollfields_text}

-- SCOPE 10.1: records are run block by block. Where an input is cut after whole records, its text is the lines before the cut, and then the text of
-- what comes after it, from the session that the records before the cut left
pub record BlocksJoin (line : Outcome → List ℕ) (spare : List ℕ) : Type 0 where
  pub lines : (s : Session) (a b : List ℕ) → length a % 8 ≡ 0
      → lines_of line s (records_of (a ++ b)) ≡ lines_of line s (records_of a) ++ lines_of line (session_past s (records_of a)) (records_of b)
  pub session : (s : Session) (a b : List ℕ) → length a % 8 ≡ 0 → session_past s (records_of (a ++ b)) ≡ session_past (session_past s (records_of a)) (records_of b)
  pub text : (s : Session) (a b : List ℕ) → length a % 8 ≡ 0
      → text_from line spare s (a ++ b) ≡ lines_of line s (records_of a) ++ text_from line spare (session_past s (records_of a)) b

-- the line of what a record got (SCOPE 10.1)
unfoldable pub got_line : Got → List ℕ
got_line (transfer t) = transfer_line t
got_line (answer x n) = answer_line (number_of x) (value_of x) n
got_line (refusal x) = answer_line (number_of x) 0 0

-- the lines of a history in the order of its records: it stands newest first
unfoldable pub history_lines : List Entry → List ℕ
history_lines [] = []
history_lines (e ∷ h) = history_lines h ++ got_line e.got

-- the driver's fields after each record of a history
unfoldable pub history_fields : List Entry → List ℕ
history_fields [] = []
history_fields (e ∷ h) = history_fields h ++ fields_line (session_after Rules.Current fresh_session (e ∷ h)).driver

-- an input without its spare bytes
abbrev pub whole_part : List ℕ → List ℕ
whole_part bytes = take (length bytes / 8 * 8) bytes

-- what is printed tells the history of the list run: demand 3 speaks of that history. Where bytes are spare it is the history of the input
-- without them, since 14 ends the run of the whole input before any record
pub record TellsHistory (bytes : List ℕ) : Type 0 where
  pub whole : is_whole bytes ≡ true → rolltrace_text bytes ≡ history_lines (run_def Rules.Current fresh_session bytes).history
  pub spare : is_whole bytes ≡ false → rolltrace_text bytes ≡ history_lines (run_def Rules.Current fresh_session (whole_part bytes)).history ++ spare_line
  pub whole_fields : is_whole bytes ≡ true → rollfields_text bytes ≡ history_fields (run_def Rules.Current fresh_session bytes).history
  pub spare_fields : is_whole bytes ≡ false → rollfields_text bytes ≡ history_fields (run_def Rules.Current fresh_session (whole_part bytes)).history
  pub part : is_whole (whole_part bytes) ≡ true
