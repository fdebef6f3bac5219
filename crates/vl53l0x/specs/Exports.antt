-- What the exported functions make of the bytes that they are lent.
use Rattle.std.specs.Prelude.{◌≡◌, true, cond, List, ℕ, ◌≤◌, eqb, length}
use Rattle.session.specs.declared.Rules.{Rules}
use Rattle.session.specs.declared.Answer.{Answer}
use Rattle.session.specs.declared.Session.{Session}
use Rattle.session.specs.Bus.{byte, number_of}
use Rattle.session.specs.Machine.{outstanding, ill_formed, waits_now}
use Rattle.session.specs.History.{step_def}
use Rattle.session.specs.declared.Outcome.{Outcome}
use Rattle.session.specs.Given.{outcome_of}
use Rattle.records.specs.Records.{record_in}
use Rattle.layout.specs.Layout.{session_size, outcome_size, session_bytes, is_session, session_of, transfer_bytes, refusal_bytes, outcome_bytes}
use Rattle.layout.specs.RoundTrip.{are_bytes}

-- what a session is given for a record. SCOPE 2.6: here and below by the current rules
unfoldable pub met : List ℕ → List ℕ → Outcome
met session bytes = outcome_of (step_def Rules.Current (session_of session) (record_in bytes))

-- the outcome of a record: 14 where it is not eight bytes, 15 where the session's bytes are none
unfoldable pub step_outcome : List ℕ → List ℕ → List ℕ
step_outcome session bytes =
    cond (eqb (length bytes) 8)
    (cond (is_session session) (outcome_bytes (met session bytes)) (refusal_bytes Answer.IllFormedSession))
    (refusal_bytes Answer.SpareBytes)

-- the session's bytes after it: as they were where there is no room for the outcome, where it is not eight bytes, and where they are no session
unfoldable pub step_session : List ℕ → List ℕ → List ℕ → List ℕ
step_session session bytes outcome =
    cond (eqb (length outcome) outcome_size)
    (cond (eqb (length bytes) 8) (cond (is_session session) (session_bytes (met session bytes).session) session) session)
    session

-- 0 where a fresh session was put, 15 where there are not as many bytes
abbrev pub fresh_number : List ℕ → ℕ
fresh_number session = cond (eqb (length session) session_size) 0 (number_of Answer.IllFormedSession)

-- the transfer that a waiting session has out; 11 where no call waits, 15 where it is ill-formed
unfoldable pub outstanding_bytes : Session → List ℕ
outstanding_bytes s =
    cond (ill_formed Rules.Current s) (refusal_bytes Answer.IllFormedSession)
    (cond (waits_now s) (transfer_bytes (outstanding Rules.Current s)) (refusal_bytes Answer.NoCallWaits))

unfoldable pub outstanding_in : List ℕ → List ℕ
outstanding_in session = cond (is_session session) (outstanding_bytes (session_of session)) (refusal_bytes Answer.IllFormedSession)

-- a record that is refused, with 9 to 15, changes no byte of the session
abbrev pub RefusalKeeps : Type 0
RefusalKeeps =
    (session bytes outcome : List ℕ) → are_bytes session ≡ true
    → 9 ≤ byte 0 (step_outcome session bytes) → byte 0 (step_outcome session bytes) ≤ 15
    → step_session session bytes outcome ≡ session
