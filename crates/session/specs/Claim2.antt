-- Demand 2 (SCOPE 1.2): for every session, accepted call and list of replies, the Rust's transfers, the same bytes in the same order, its answer and
-- its fields. Where the Rust panics, the same transfers and then answer 8.
use Rattle.std.specs.Prelude.{◌≡◌, true, List, [], ◌∷◌, ℕ}
use Rattle.session.specs.declared.Rules.{Rules}
use Rattle.session.specs.Bus.{Answer}
use Rattle.session.specs.Machine.{Session, Outcome, sent, answered, refused, broken}
use Rattle.session.specs.Records.{call, reply}
use Rattle.session.specs.Refusals.{rows_under, in_range}
use Rattle.session.specs.Script.{Raw, data_of, Trace, sends, refuses, waits, ends, play}
use Rattle.session.specs.LaterCalls.{rust}
use Rattle.session.specs.History.{step_def, session_of}

-- the session is up, or the call is a bring-up
pub data Ready (s : Session) : ℕ → Type 0 where
  bring_up : Ready s 1
  while_up : {code : ℕ} → s.driver.up ≡ true → Ready s code

-- no call waits, the arguments are in range, and the session is up but for a bring-up
pub record Accepted (rules : Rules) (s : Session) (code a b : ℕ) : Type 0 where
  pub none_waiting : s.code ≡ 0
  pub arguments : in_range code a b (rows_under rules) ≡ true
  pub ready : Ready s code

-- what is seen of an outcome, before what comes after
abbrev pub seen : Outcome → Trace → Trace
seen (sent t s) x = sends t x
seen (answered a n s) x = ends a s.driver
seen (refused a s) x = refuses a x
seen (broken s) x = refuses Answer.IllFormedSession x

-- a session over a list of reply records, as they come
unfoldable pub follows : Rules → List Raw → Session → Trace
follows rules [] s = waits
follows rules (r ∷ rs) s =
    seen (step_def rules s (reply r.failure (data_of r))) (follows rules rs (session_of (step_def rules s (reply r.failure (data_of r)))))

unfoldable pub drive : Rules → List Raw → Outcome → Trace
drive rules rs o = seen o (follows rules rs (session_of o))

-- what is seen of the machine over the replies is what is seen of the Rust: transfers, refused replies, the answer and the fields at its end.
-- A panic of the Rust is its answer 8 with the place
abbrev pub Demand2 : Rules → Session → ℕ → ℕ → ℕ → List Raw → Type 0
Demand2 rules s code a b replies = drive rules replies (step_def rules s (call code a b)) ≡ play (rust rules s.driver code a b) replies
