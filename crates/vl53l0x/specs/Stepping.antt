-- Records handed in one after the other, as callers in C and Rust do it, and the list run over the same bytes.
use Rattle.std.specs.Prelude.{◌≡◌, true, List, [], ◌∷◌, ℕ, ◌/◌, length}
use Rattle.std.specs.Simd.{first_chunks}
use Rattle.session.specs.declared.Rules.{Rules}
use Rattle.session.specs.declared.Answer.{Answer}
use Rattle.session.specs.Bus.{number_of, values_of}
use Rattle.session.specs.Machine.{fresh_session}
use Rattle.session.specs.Records.{is_whole}
use Rattle.session.specs.History.{Got, transfer, answer, refusal, Entry, Run, run_def}
use Rattle.session.specs.Claim3.{Both3}
use Rattle.layout.specs.Layout.{session_size, outcome_size, placed, session_bytes, is_session, session_of, transfer_bytes, answer_bytes, refusal_bytes}
use Rattle.layout.specs.RoundTrip.{are_bytes}
use Rattle.vl53l0x.specs.Exports.{step_outcome, step_session}

-- what a caller lends again and again: the bytes of a session, and those of an outcome
pub record Lent : Type 0 where
  pub session : List ℕ
  pub outcome : List ℕ

-- what `vl53l0x_fresh` leaves of it, and what `vl53l0x_step` does, word for word as their contracts say
abbrev pub made_fresh : Lent → Lent
made_fresh l = record { session = placed session_size l.session (session_bytes fresh_session); outcome = l.outcome }

abbrev pub stepped : Lent → List ℕ → Lent
stepped l r = record { session = step_session l.session r l.outcome; outcome = placed outcome_size l.outcome (step_outcome l.session r) }

-- SCOPE 8.1: each record meets the session that the one before it left.
-- The session's bytes after the last of them, and what each left in the outcome, in order
abbrev pub session_left : Lent → List (List ℕ) → List ℕ
session_left l [] = l.session
session_left l (r ∷ rs) = session_left (stepped l r) rs

abbrev pub outcomes_left : Lent → List (List ℕ) → List (List ℕ)
outcomes_left l [] = []
outcomes_left l (r ∷ rs) = (stepped l r).outcome ∷ outcomes_left (stepped l r) rs

-- the records of a list, eight bytes each
abbrev pub records_in : List ℕ → List (List ℕ)
records_in bytes = first_chunks 8 (length bytes / 8) bytes

-- what a record got in a history, as the bytes of an outcome
abbrev pub got_bytes : Got → List ℕ
got_bytes (transfer t) = transfer_bytes t
got_bytes (answer x n) = answer_bytes (number_of x) (values_of x) n
got_bytes (refusal x) = refusal_bytes x

-- and of all its records, oldest first, before others
abbrev pub outcomes_of : List Entry → List (List ℕ) → List (List ℕ)
outcomes_of [] later = later
outcomes_of (e ∷ h) later = outcomes_of h (got_bytes e.got ∷ later)

-- stepping shows this run: its session, and what each of its records got
pub record Shows (run : Run) (l : Lent) (bytes : List ℕ) : Type 0 where
  pub session : session_left l (records_in bytes) ≡ session_bytes run.session
  pub outcomes : outcomes_left l (records_in bytes) ≡ outcomes_of run.history []

-- from a session made fresh, over every list of whole records, a caller sees the list run, and demand 3 holds of it
pub record StepsFresh (l : Lent) (bytes : List ℕ) : Type 0 where
  pub shows : Shows (run_def Rules.Current fresh_session bytes) (made_fresh l) bytes
  pub demand_3 : Both3 Rules.Current bytes (run_def Rules.Current fresh_session bytes)

-- the bytes that a caller has to lend and to hand in
pub record Handed (l : Lent) (bytes : List ℕ) : Type 0 where
  pub session_room : length l.session ≡ session_size
  pub outcome_room : length l.outcome ≡ outcome_size
  pub records_whole : is_whole bytes ≡ true
  pub records_are_bytes : are_bytes bytes ≡ true

abbrev pub FreshSteps : Type 0
FreshSteps = (l : Lent) (bytes : List ℕ) → Handed l bytes → StepsFresh l bytes

-- and from any bytes that are a session, where the list run goes through to its end. Where a record meets an ill-formed session it gives back the
-- session as it was given, and a caller who steps has what the records before that one left
abbrev pub AnySteps : Type 0
AnySteps =
    (l : Lent) (bytes : List ℕ) → Handed l bytes → is_session l.session ≡ true → are_bytes l.session ≡ true
    → (run_def Rules.Current (session_of l.session) bytes).answer ≡ Answer.Done 0
    → Shows (run_def Rules.Current (session_of l.session) bytes) l bytes
