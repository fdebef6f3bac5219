-- What one record gives a session, the run over a list of records, its history and counts, and the calls of a history with their exchanges.
-- SCOPE 8. Lists of the history stand newest first.
use Rattle.std.specs.Prelude.{cond, false, List, [], ◌∷◌, ℕ, ◌+◌, length, ◌≡◌}
use Rattle.session.specs.declared.Rules.{Rules}
use Rattle.session.specs.Bus.{Transfer, Answer, Reply}
use Rattle.session.specs.Machine.{Session, Outcome, sent, answered, refused, broken, to_reply, ill_formed, reply_def, begin_def, other_def}
use Rattle.session.specs.Records.{Record, call, reply, other, records_of, is_whole}

-- one record meets one session
unfoldable pub step_def : Rules → Session → Record → Outcome
step_def rules s (call code a b) = begin_def rules s code a b
step_def rules s (reply f bs) = reply_def rules s f bs
step_def rules s other = other_def rules s

-- SCOPE 8.3: the history is the records in order, each with what it got: one transfer, its call's answer, or a refusal.
-- An answer stands with the transfers that its call made
pub data Got : Type 0 where
  transfer : Transfer → Got
  answer : Answer → ℕ → Got
  refusal : Answer → Got

pub record Entry : Type 0 where
  pub what : Record
  pub got : Got

-- counts over the history
abbrev pub is_transfer : Got → ℕ
is_transfer (transfer t) = 1
is_transfer (answer x n) = 0
is_transfer (refusal x) = 0

abbrev pub is_answer : Got → ℕ
is_answer (transfer t) = 0
is_answer (answer x n) = 1
is_answer (refusal x) = 0

abbrev pub is_refused : Got → ℕ
is_refused (transfer t) = 0
is_refused (answer x n) = 0
is_refused (refusal x) = 1

-- SCOPE 8.3: an accepted record is one that is not refused
abbrev pub is_accepted : Got → ℕ
is_accepted (transfer t) = 1
is_accepted (answer x n) = 1
is_accepted (refusal x) = 0

abbrev pub is_accepted_call : Record → Got → ℕ
is_accepted_call (call code a b) g = is_accepted g
is_accepted_call (reply f bs) g = 0
is_accepted_call other g = 0

abbrev pub is_accepted_reply : Record → Got → ℕ
is_accepted_reply (call code a b) g = 0
is_accepted_reply (reply f bs) g = is_accepted g
is_accepted_reply other g = 0

abbrev pub calls_in : List Entry → ℕ
calls_in [] = 0
calls_in (e ∷ h) = is_accepted_call e.what e.got + calls_in h

abbrev pub answers_in : List Entry → ℕ
answers_in [] = 0
answers_in (e ∷ h) = is_answer e.got + answers_in h

abbrev pub replies_in : List Entry → ℕ
replies_in [] = 0
replies_in (e ∷ h) = is_accepted_reply e.what e.got + replies_in h

abbrev pub transfers_in : List Entry → ℕ
transfers_in [] = 0
transfers_in (e ∷ h) = is_transfer e.got + transfers_in h

abbrev pub refused_in : List Entry → ℕ
refused_in [] = 0
refused_in (e ∷ h) = is_refused e.got + refused_in h

-- SCOPE 8.1: accepted calls, the answers that these got, accepted replies, transfers, refused records
pub record Counts : Type 0 where
  pub calls : ℕ
  pub answers : ℕ
  pub replies : ℕ
  pub transfers : ℕ
  pub refused : ℕ

abbrev pub counts_of : List Entry → Counts
counts_of h = record { calls = calls_in h; answers = answers_in h; replies = replies_in h; transfers = transfers_in h; refused = refused_in h }

-- what a run returns, with its history
pub record Run : Type 0 where
  pub answer : Answer
  pub session : Session
  pub counts : Counts
  pub history : List Entry

-- SCOPE 8.2: 14 and 15 end the run with the session as it was given and all counts 0, and the history is empty
abbrev pub stopped : Answer → Session → Run
stopped x s = record { answer = x; session = s; counts = counts_of []; history = [] }

abbrev pub taking : Outcome → Session → List Entry → Record → (Session → List Entry → Run) → Run
taking (sent t s) given h r k = k s (record { what = r; got = transfer t } ∷ h)
taking (answered x n s) given h r k = k s (record { what = r; got = answer x n } ∷ h)
taking (refused x s) given h r k = k s (record { what = r; got = refusal x } ∷ h)
taking (broken s) given h r k = stopped Answer.IllFormedSession given

-- SCOPE 8.1: each record meets the session that the one before it left. SCOPE 8.2: 15 met anywhere gives back the session given to the run
unfoldable pub run_from : Rules → Session → List Record → Session → List Entry → Run
run_from rules given [] s h = record { answer = Answer.Done 0; session = s; counts = counts_of h; history = h }
run_from rules given (r ∷ rs) s h = taking (step_def rules s r) given h r (run_from rules given rs)

-- the session is looked at before any record, so also where the list is empty
unfoldable pub run_records : Rules → Session → List Record → Run
run_records rules s rs = cond (ill_formed rules s) (stopped Answer.IllFormedSession s) (run_from rules s rs s [])

-- the list run: 14, 15, then record by record
unfoldable pub run_def : Rules → Session → List ℕ → Run
run_def rules s bytes = cond (is_whole bytes) (run_records rules s (records_of bytes)) (stopped Answer.SpareBytes s)

-- what an outcome shows, and the session that it leaves
abbrev pub got_of : Outcome → Got
got_of (sent t s) = transfer t
got_of (answered x n s) = answer x n
got_of (refused x s) = refusal x
got_of (broken s) = refusal Answer.IllFormedSession

abbrev pub session_of : Outcome → Session
session_of (sent t s) = s
session_of (answered x n s) = s
session_of (refused x s) = s
session_of (broken s) = s

-- the session that the records of a history leave, from a session given
abbrev pub session_after : Rules → Session → List Entry → Session
session_after rules given [] = given
session_after rules given (e ∷ h) = session_of (step_def rules (session_after rules given h) e.what)

-- each record met a session that is not ill-formed, and has what that session gives it
abbrev pub Genuine : Rules → Session → List Entry → Type 0
Genuine rules given [] = Unit {0}
Genuine rules given (e ∷ h) =
    (ill_formed rules (session_after rules given h) ≡ false) × (e.got ≡ got_of (step_def rules (session_after rules given h) e.what)) × Genuine rules given h

-- the records of a history, oldest first, before others
abbrev pub in_order : List Entry → List Record → List Record
in_order [] rs = rs
in_order (e ∷ h) rs = in_order h (e.what ∷ rs)

-- the calls of a history, each with its exchanges: a transfer and the accepted reply to it
pub record Exchange : Type 0 where
  pub sent : Transfer
  pub reply : Reply

abbrev pub by : Transfer → Reply → Exchange
by t r = record { sent = t; reply = r }

-- a call waits with a transfer out, or has ended with an answer and the transfers figure that stands with it
pub data Standing : Type 0 where
  waiting : Transfer → Standing
  ended : Answer → ℕ → Standing

pub record CallRun : Type 0 where
  pub code : ℕ
  pub a : ℕ
  pub b : ℕ
  pub exchanges : List Exchange
  pub standing : Standing

abbrev pub exchanged : CallRun → Standing → Reply → Standing → CallRun
exchanged c (waiting t) r st = record { code = c.code; a = c.a; b = c.b; exchanges = by t r ∷ c.exchanges; standing = st }
exchanged c (ended x n) r st = c

-- SCOPE 8.3: an accepted reply belongs to the last accepted call before it
abbrev pub replied : Reply → Standing → List CallRun → List CallRun
replied r st [] = []
replied r st (c ∷ cs) = exchanged c c.standing r st ∷ cs

abbrev pub joined : Record → Got → List CallRun → List CallRun
joined (call code a b) (transfer t) cs = record { code = code; a = a; b = b; exchanges = []; standing = waiting t } ∷ cs
joined (call code a b) (answer x n) cs = record { code = code; a = a; b = b; exchanges = []; standing = ended x n } ∷ cs
joined (call code a b) (refusal x) cs = cs
joined (reply f bs) (transfer t) cs = replied (to_reply f bs) (waiting t) cs
joined (reply f bs) (answer x n) cs = replied (to_reply f bs) (ended x n) cs
joined (reply f bs) (refusal x) cs = cs
joined other g cs = cs

abbrev pub calls_of : List Entry → List CallRun
calls_of [] = []
calls_of (e ∷ h) = joined e.what e.got (calls_of h)

-- SCOPE 8.3: a waiting call is an accepted one without an answer
abbrev pub is_waiting : Standing → ℕ
is_waiting (waiting t) = 1
is_waiting (ended x n) = 0

abbrev pub waiting_in : List CallRun → ℕ
waiting_in [] = 0
waiting_in (c ∷ cs) = is_waiting c.standing + waiting_in cs

-- SCOPE 8.3: the transfers of a call are those given to its own record and to its replies
abbrev pub transfers_of : CallRun → ℕ
transfers_of c = is_waiting c.standing + length c.exchanges
