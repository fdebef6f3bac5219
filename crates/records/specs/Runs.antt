-- The list run as the code goes through it, and what it returns. That it is the session's `run_def` is proved.
use Rattle.std.specs.Prelude.{◌≡◌, cond, List, [], ◌∷◌, ℕ, ◌+◌, ◌%◌, ◌/◌, ◌≤◌, eqb, length, Option, Some, None, Result, Ok, Err}
use Rattle.std.specs.Option.{option_map, option_and_then, ok_or}
use Rattle.std.specs.Simd.{first_chunks}
use Rattle.session.specs.declared.Rules.{Rules}
use Rattle.session.specs.declared.Session.{Session}
use Rattle.session.specs.declared.Answer.{Answer}
use Rattle.session.specs.Bus.{byte}
use Rattle.session.specs.Machine.{ill_formed}
use Rattle.session.specs.History.{step_def, Counts as CountsOf, Run}
use Rattle.session.specs.Claim3.{Both3}
use Rattle.session.specs.declared.Given.{Given}
use Rattle.session.specs.Given.{outcome_of}
use Rattle.records.specs.declared.Counts.{Counts}
use Rattle.records.specs.declared.ListRun.{ListRun}
use Rattle.records.specs.declared.runs.Progress.{Progress}
use Rattle.records.specs.Records.{record_in}

-- what the code returns of a run: all but its history
unfoldable pub counts_of : CountsOf → Counts
counts_of c = record { calls = c.calls; answers = c.answers; replies = c.replies; transfers = c.transfers; refused = c.refused }

unfoldable pub list_run_of : Run → ListRun
list_run_of run = record { answer = run.answer; session = run.session; counts = counts_of run.counts }

-- demand 3 of a run that starts fresh: there is a history, and with it the run is the list's, and one of which demand 3 holds
pub record RunsFresh (rules : Rules) (bytes : List ℕ) (r : ListRun) : Type 0 where
  pub run : Run
  pub shown : r ≡ list_run_of run
  pub demand_3 : Both3 rules bytes run

-- no count is above n
pub record Room (c : Counts) (n : ℕ) : Type 0 where
  pub calls : c.calls ≤ n
  pub answers : c.answers ≤ n
  pub replies : c.replies ≤ n
  pub transfers : c.transfers ≤ n
  pub refused : c.refused ≤ n

abbrev pub no_counts : Counts
no_counts = record { calls = 0; answers = 0; replies = 0; transfers = 0; refused = 0 }

unfoldable pub one_if : ℕ → ℕ → ℕ
one_if kind wanted = cond (eqb kind wanted) 1 0

-- the counts after a record of a kind; none where the session was ill-formed
unfoldable pub added_to : Counts → ℕ → Given → Option Counts
added_to c kind (Given.Sent t) =
    Some (record {
      calls = c.calls + one_if kind 1;
      answers = c.answers;
      replies = c.replies + one_if kind 2;
      transfers = c.transfers + 1;
      refused = c.refused;
    })
added_to c kind (Given.Answered x n) =
    Some (record {
      calls = c.calls + one_if kind 1;
      answers = c.answers + 1;
      replies = c.replies + one_if kind 2;
      transfers = c.transfers;
      refused = c.refused;
    })
added_to c kind (Given.Refused x) =
    Some (record { calls = c.calls; answers = c.answers; replies = c.replies; transfers = c.transfers; refused = c.refused + 1 })
added_to c kind Given.IllFormed = None

abbrev pub progress_of : Session → Counts → Progress
progress_of s c = record { session = s; counts = c }

-- one record, as eight bytes
unfoldable pub advance : Rules → Progress → List ℕ → Option Progress
advance rules p bs =
    let o = outcome_of (step_def rules p.session (record_in bs)) in
    option_map (progress_of o.session) (added_to p.counts (byte 0 bs) o.given)

abbrev pub starting : Session → Progress
starting s = progress_of s no_counts

-- records one after the other
abbrev pub going : Rules → Progress → List (List ℕ) → Option Progress
going rules p [] = Some p
going rules p (r ∷ rs) = option_and_then (λ q. going rules q rs) (advance rules p r)

-- 14 and 15, or where a run ends
unfoldable pub gone : Rules → Session → List ℕ → Result Progress Answer
gone rules s l =
    cond (eqb (length l % 8) 0)
    (cond (ill_formed rules s) (Err Answer.IllFormedSession) (ok_or (going rules (starting s) (first_chunks 8 (length l / 8) l)) Answer.IllFormedSession))
    (Err Answer.SpareBytes)

-- what a run gives. SCOPE 8.2: 14 and 15 end it with the session as it was given and all counts 0
unfoldable pub finished : Result Progress Answer → Session → ListRun
finished (Ok p) given = record { answer = Answer.Done 0; session = p.session; counts = p.counts }
finished (Err x) given = record { answer = x; session = given; counts = no_counts }
