-- Demand 3 (SCOPE 1.3): what holds of every list of records that is run from a fresh session. What it says of the calls is read off the bus:
-- from a call's code, the bytes written, the read length, the replies and their order. Exchanges stand newest first.
use Rattle.std.specs.Prelude.{◌≡◌, Bool, true, false, ◌||◌, ◌&&◌, cond, List, [], ◌∷◌, ℕ, zero, suc, ◌+◌, ◌*◌, ◌%◌, ◌≤◌, eqb, T, length, get_or}
use Rattle.session.specs.declared.Rules.{Rules}
use Rattle.session.specs.Bus.{Driver, Transfer, Answer, byte, bytes_of, Reply, bad, good, failure_in, data_in, Condition, number_of, values_of, absent, with_driver_address, with_driver_budget}
use Rattle.session.specs.Machine.{fresh_session}
use Rattle.session.specs.Records.{records_of}
use Rattle.session.specs.Script.{Raw, Trace, sends, refuses, waits, ends, play}
use Rattle.session.specs.RustCalls.{get_measurement_timing_budget}
use Rattle.session.specs.RustBringUp.{method, number}
use Rattle.session.specs.History.{calls_in, answers_in, replies_in, transfers_in, refused_in, Run, session_after, Genuine, in_order, Exchange, by, Standing, waiting, ended, CallRun, calls_of, is_waiting, waiting_in, transfers_of}

-- the exchanges of a call, newest first, that its laws go by: all of them
abbrev pub exchanges_of : CallRun → List Exchange
exchanges_of c = c.exchanges

abbrev pub bytes_are : List ℕ → List ℕ → Bool
bytes_are [] [] = true
bytes_are [] (y ∷ ys) = false
bytes_are (x ∷ xs) [] = false
bytes_are (x ∷ xs) (y ∷ ys) = bytes_are xs ys && eqb x y

-- a transfer writes these bytes
abbrev pub wrote : List ℕ → Transfer → Bool
wrote bs t = bytes_are (bytes_of t) bs

-- a read of one byte at a register
abbrev pub asks : ℕ → Transfer → Bool
asks reg t = wrote (reg ∷ []) t && eqb t.reads 1

-- CEILING. No call has made more transfers than its ceiling (SCOPE 5.1). The claim's numbers and tests are its own: written down again, not the
-- machine's.
unfoldable pub most_in : ℕ → ℕ
most_in code = get_or (0 ∷ 85688 ∷ 1 ∷ 1 ∷ 10 ∷ 6 ∷ 4 ∷ 10003 ∷ 20011 ∷ 7 ∷ 2 ∷ 2 ∷ 5 ∷ 2 ∷ 1 ∷ 6 ∷ 1 ∷ []) code 0

-- SCOPE 2.6: how often a transfer is made at most, by the rules
abbrev pub times_in : Rules → ℕ
times_in Rules.First = 1
times_in Rules.Current = 1

abbrev pub ceiling_in : Rules → ℕ → ℕ
ceiling_in rules code = times_in rules * most_in code

-- beyond the demand: the least transfers of a call answered Done
unfoldable pub floor_in : ℕ → ℕ
floor_in code = get_or (0 ∷ 149 ∷ 1 ∷ 1 ∷ 8 ∷ 6 ∷ 4 ∷ 4 ∷ 13 ∷ 7 ∷ 2 ∷ 2 ∷ 5 ∷ 2 ∷ 1 ∷ 6 ∷ 1 ∷ []) code 0

-- TIMEOUT. A call was answered Timeout exactly if its last accepted replies, 65,535 for the detector wait and 10,000 for the others, were all idle
-- reads of that wait (SCOPE 4.2).
unfoldable pub limit_in : ℕ → Condition → ℕ
limit_in code Condition.DetectorReady = 65535
limit_in code Condition.StatusReady = 10000
limit_in code Condition.Started = 10000

-- the last transfer that is no read of 0x83 is the write 83 00
abbrev pub awaited : List Exchange → Bool
awaited [] = false
awaited (e ∷ es) = cond (asks 0x83 e.sent) (awaited es) (wrote (0x83 ∷ 0x00 ∷ []) e.sent)

-- the calls that wait for the status, for the start
abbrev pub awaits_status : ℕ → Bool
awaits_status code = eqb code 1 || eqb code 7 || eqb code 8

abbrev pub awaits_start : ℕ → Bool
awaits_start code = eqb code 8

-- a transfer, after the exchanges es of its call, is a read of a wait: the plain reads of 0x83 in a bring-up and of 0x13 in call 6 are none
abbrev pub read_of : Condition → ℕ → Transfer → List Exchange → Bool
read_of Condition.DetectorReady code t es = (asks 0x83 t && eqb code 1) && awaited es
read_of Condition.StatusReady code t es = asks 0x13 t && awaits_status code
read_of Condition.Started code t es = asks 0x00 t && awaits_start code

-- SCOPE 4.2: a read of a wait is idle if its reply is no failure and the condition is not met; a failed read is not idle
unfoldable pub unmet : Condition → List ℕ → Bool
unmet Condition.DetectorReady bs = eqb (byte 0 bs) 0
unmet Condition.StatusReady bs = eqb (byte 0 bs % 8) 0
unmet Condition.Started bs = eqb (byte 0 bs % 2) 1

abbrev pub idle_reply : Condition → Reply → Bool
idle_reply x (bad e) = false
idle_reply x (good bs) = unmet x bs

-- how many of the last exchanges, one after the other, are idle reads of a wait
abbrev pub idle_reads : Condition → ℕ → List Exchange → ℕ
idle_reads x code [] = 0
idle_reads x code (e ∷ es) = cond (read_of x code e.sent es && idle_reply x e.reply) (suc (idle_reads x code es)) 0

pub record LimitReached (code : ℕ) (es : List Exchange) : Type 0 where
  pub condition : Condition
  pub reached : limit_in code condition ≤ idle_reads condition code es

abbrev pub is_timeout : Standing → Bool
is_timeout (waiting t) = false
is_timeout (ended x n) = eqb (number_of x) 4

abbrev pub TimeoutRule : CallRun → Type 0
TimeoutRule c =
    (T (is_timeout c.standing) → LimitReached c.code (exchanges_of c))
    × (LimitReached c.code (exchanges_of c) → T (is_timeout c.standing))

-- FAILURE. A failed transfer ended its call at once, unless it was a range read: then the call went on to clear the interrupt, as far as the list
-- has replies for it, and did nothing else.
-- SCOPE 8.3: a range read is the read of the range word in calls 6, 7 and 8
abbrev pub reads_range : ℕ → Bool
reads_range code = eqb code 6 || eqb code 7 || eqb code 8

abbrev pub range_read : ℕ → Transfer → Bool
range_read code t = wrote (0x1E ∷ []) t && reads_range code

-- the failure code of the last range read among the exchanges, 0 where it succeeded or there is none
abbrev pub range_failure : ℕ → List Exchange → ℕ
range_failure code [] = 0
range_failure code (e ∷ es) = cond (range_read code e.sent) (failure_in e.reply) (range_failure code es)

-- SCOPE 5.8: if the clearing fails too, call 6 reports the read's code, calls 7 and 8 the clearing's
abbrev pub reports_read : ℕ → Bool
reports_read code = eqb code 6

abbrev pub reported : ℕ → ℕ → ℕ → ℕ
reported code zero e = e
reported code (suc k) e = cond (reports_read code) (suc k) e

abbrev pub Clears : Transfer → ℕ → Type 0
Clears t b = bytes_of t ≡ 0x0B ∷ b ∷ []

-- after a range read that failed with code k: the exchanges after it, oldest first, and how its call stands
pub data Cleared (code k : ℕ) : List Exchange → Standing → Type 0 where
  first_out : (t : Transfer) → Clears t 0x01 → Cleared code k [] (waiting t)
  first_failed : (t : Transfer) (e n : ℕ) → Clears t 0x01 → Cleared code k (by t (bad e) ∷ []) (ended (Answer.BusError (reported code k (suc e))) n)
  second_out : (t : Transfer) (bs : List ℕ) (u : Transfer) → Clears t 0x01 → Clears u 0x00 → Cleared code k (by t (good bs) ∷ []) (waiting u)
  second_failed : (t : Transfer) (bs : List ℕ) (u : Transfer) (e n : ℕ) → Clears t 0x01 → Clears u 0x00
      → Cleared code k (by t (good bs) ∷ by u (bad e) ∷ []) (ended (Answer.BusError (reported code k (suc e))) n)
  both_good : (t : Transfer) (bs : List ℕ) (u : Transfer) (bs' : List ℕ) (n : ℕ) → Clears t 0x01 → Clears u 0x00
      → Cleared code k (by t (good bs) ∷ by u (good bs') ∷ []) (ended (Answer.BusError k) n)

-- the call has ended with answer 3 and this code
abbrev pub EndedWith : ℕ → Standing → Type 0
EndedWith code (waiting t) = ⊥
EndedWith code (ended x n) = x ≡ Answer.BusError code

abbrev pub If : Bool → Type 0 → Type 0 → Type 0
If true A B = A
If false A B = B

-- one exchange, with the later ones of its call (oldest first), the earlier ones and how the call stands
abbrev pub AfterReply : ℕ → Transfer → Reply → List Exchange → List Exchange → Standing → Type 0
AfterReply code t (good bs) later es st = Unit {0}
AfterReply code t (bad e) later es st =
    If (range_read code t)
    (Cleared code (suc e) later st)
    ((later ≡ []) × EndedWith (reported code (range_failure code es) (suc e)) st)

abbrev pub Failures : ℕ → List Exchange → List Exchange → Standing → Type 0
Failures code later [] st = Unit {0}
Failures code later (e ∷ es) st = AfterReply code e.sent e.reply later es st × Failures code (e ∷ later) es st

abbrev pub FailureRule : CallRun → Type 0
FailureRule c = Failures c.code [] (exchanges_of c) c.standing

-- FIELDS. Whether the session is up, its address, its stop byte and its budget are what SCOPE 6 derives from the history.
-- the register has been read among the exchanges, and the data of the first reply to that
abbrev pub was_read : ℕ → List Exchange → Bool
was_read reg [] = false
was_read reg (e ∷ es) = was_read reg es || wrote (reg ∷ []) e.sent

abbrev pub first_data : ℕ → List Exchange → List ℕ
first_data reg [] = []
first_data reg (e ∷ es) = cond (was_read reg es) (first_data reg es) (cond (wrote (reg ∷ []) e.sent) (data_in e.reply) [])

abbrev pub first_byte : ℕ → ℕ → List Exchange → ℕ
first_byte reg i es = byte i (first_data reg es)

-- a good reply of one byte, of two
abbrev pub good1 : ℕ → Raw
good1 x = record { failure = 0; b₀ = x; b₁ = 0; b₂ = 0; b₃ = 0; b₄ = 0; b₅ = 0 }

abbrev pub good2 : ℕ → ℕ → Raw
good2 x y = record { failure = 0; b₀ = x; b₁ = y; b₂ = 0; b₃ = 0; b₄ = 0; b₅ = 0 }

-- the first six budget replies among the exchanges
abbrev pub first_budget_replies : List Exchange → List Raw
first_budget_replies es =
    good1 (first_byte 0x01 0 es)
    ∷ good2 (first_byte 0x51 0 es) (first_byte 0x51 1 es)
    ∷ good2 (first_byte 0x71 0 es) (first_byte 0x71 1 es)
    ∷ good1 (first_byte 0x50 0 es)
    ∷ good1 (first_byte 0x46 0 es)
    ∷ good1 (first_byte 0x70 0 es)
    ∷ []

-- the value with which a call is answered Done, else 0
abbrev pub done_value : Trace → ℕ
done_value (sends t x) = done_value x
done_value (refuses a x) = done_value x
done_value waits = 0
done_value (ends a d) = cond (eqb (number_of a) 0) (byte 0 (values_of a)) 0

-- SCOPE 6: what call 15 would give: the Rust's function of call 15 over these replies
unfoldable pub value_of_call15 : List Raw → ℕ
value_of_call15 replies = done_value (play (method number absent get_measurement_timing_budget) replies)

abbrev pub budget_of_first : List Exchange → ℕ
budget_of_first es = value_of_call15 (first_budget_replies es)

abbrev pub is_done : Standing → Bool
is_done (waiting t) = false
is_done (ended x n) = eqb (number_of x) 0

abbrev pub values_in : Standing → List ℕ
values_in (waiting t) = []
values_in (ended x n) = values_of x

abbrev pub up_by : ℕ → List Exchange → Driver
up_by a es = record { up = true; address = a; stop = first_byte 0x91 0 es; budget = budget_of_first es }

-- the fields after a call that was answered Done
abbrev pub after_done : ℕ → ℕ → List Exchange → Driver → Driver
after_done code a es d = cond (eqb code 1) (up_by a es) (cond (eqb code 3) (with_driver_address d a) (cond (eqb code 9) (with_driver_budget d a) d))

-- SCOPE 6: up from a bring-up that was answered Done until the next one is begun
abbrev pub is_up : List CallRun → Bool
is_up [] = false
is_up (c ∷ cs) = cond (eqb c.code 1) (is_done c.standing) (is_up cs)

-- SCOPE 6: while the session is not up all three are 0
abbrev pub driver_of : List CallRun → Driver
driver_of [] = absent
driver_of (c ∷ cs) =
    cond (is_up (c ∷ cs)) (cond (is_done c.standing) (after_done c.code c.a (exchanges_of c) (driver_of cs)) (driver_of cs)) absent

-- every accepted call other than a bring-up was begun while up
abbrev pub BegunUp : List CallRun → Type 0
BegunUp [] = Unit {0}
BegunUp (c ∷ cs) = (eqb c.code 1 || is_up cs ≡ true) × BegunUp cs

abbrev pub All : {A : Type 0} → (A → Type 0) → List A → Type 0
All P [] = Unit {0}
All P (c ∷ cs) = P c × All P cs

-- what the demand says of one call
pub record Lawful (rules : Rules) (c : CallRun) : Type 0 where
  pub ceiling : transfers_of c ≤ ceiling_in rules c.code
  pub timeout : TimeoutRule c
  pub failure : FailureRule c

-- SCOPE 1.3, of a run from a fresh session
pub record Demand3 (rules : Rules) (run : Run) : Type 0 where
  -- sum: transfers = accepted replies + waiting calls
  pub sum : transfers_in run.history ≡ replies_in run.history + waiting_in (calls_of run.history)
  -- ceiling, timeout, failure: of each call
  pub calls : All (Lawful rules) (calls_of run.history)
  -- fields
  pub up : run.session.driver.up ≡ is_up (calls_of run.history)
  pub fields : run.session.driver ≡ driver_of (calls_of run.history)

-- BEYOND THE DEMAND.
-- the figure that stands with a call's answer is the number of its transfers
abbrev pub FigureRule : CallRun → Standing → Type 0
FigureRule c (waiting t) = Unit {0}
FigureRule c (ended x n) = n ≡ transfers_of c

-- more of one call: the figure of its answer, call 15's value, and Done is not answered early
pub record LawfulBeyond (c : CallRun) : Type 0 where
  pub figure : FigureRule c c.standing
  pub value : is_done c.standing ≡ true → c.code ≡ 15 → values_in c.standing ≡ budget_of_first (exchanges_of c) ∷ []
  pub floor : is_done c.standing ≡ true → floor_in c.code ≤ transfers_of c

abbrev pub sum_of : (CallRun → ℕ) → List CallRun → ℕ
sum_of f [] = 0
sum_of f (c ∷ cs) = f c + sum_of f cs

abbrev pub replies_of : CallRun → ℕ
replies_of c = length c.exchanges

-- a number of the call that waits, 0 where none does; only the last call can wait
abbrev pub of_waiting : (CallRun → ℕ) → List CallRun → ℕ
of_waiting f [] = 0
of_waiting f (c ∷ cs) = cond (eqb (is_waiting c.standing) 1) (f c) 0

-- what ties the run to its list, and more of its history and its session
pub record Beyond3 (rules : Rules) (bytes : List ℕ) (run : Run) : Type 0 where
  -- the run goes through all records and never meets 15; spare bytes are 14
  pub answer : run.answer ≡ cond (eqb (length bytes % 8) 0) (Answer.Done 0) Answer.SpareBytes
  pub records : in_order run.history [] ≡ cond (eqb (length bytes % 8) 0) (records_of bytes) []
  pub eights : length bytes % 8 ≡ 0 → length bytes ≡ 8 * length run.history
  -- each record has what the definitions of demands 1 and 2 give it, and the session is the one that the last record left
  pub genuine : Genuine rules fresh_session run.history
  pub session : run.session ≡ session_after rules fresh_session run.history
  -- SCOPE 8.1: the five counts are counts over the history, and records = calls + replies + refused
  pub tallied : run.counts
      ≡ record {
        calls = calls_in run.history;
        answers = answers_in run.history;
        replies = replies_in run.history;
        transfers = transfers_in run.history;
        refused = refused_in run.history;
      }
  pub counted : length run.history ≡ calls_in run.history + replies_in run.history + refused_in run.history
  -- every accepted record has its place in a call, and at most one call waits
  pub begun : calls_in run.history ≡ length (calls_of run.history)
  pub answers : calls_in run.history ≡ answers_in run.history + waiting_in (calls_of run.history)
  pub made : transfers_in run.history ≡ sum_of transfers_of (calls_of run.history)
  pub heard : replies_in run.history ≡ sum_of replies_of (calls_of run.history)
  pub one : waiting_in (calls_of run.history) ≤ 1
  pub begun_up : BegunUp (calls_of run.history)
  pub calls : All LawfulBeyond (calls_of run.history)
  pub absent_while_down : is_up (calls_of run.history) ≡ false → run.session.driver ≡ absent
  -- what the session says of the call that waits
  pub code : run.session.code ≡ of_waiting (λ c. c.code) (calls_of run.history)
  pub a : run.session.a ≡ of_waiting (λ c. c.a) (calls_of run.history)
  pub b : run.session.b ≡ of_waiting (λ c. c.b) (calls_of run.history)
  pub transfers : run.session.transfers ≡ of_waiting transfers_of (calls_of run.history)

-- the demand of the run of a list, with what is beyond it
pub record Both3 (rules : Rules) (bytes : List ℕ) (run : Run) : Type 0 where
  pub demand : Demand3 rules run
  pub beyond : Beyond3 rules bytes run

-- in other words: the last n exchanges of a call are there, and each is an idle read of the wait
abbrev pub LastIdle : ℕ → Condition → ℕ → List Exchange → Type 0
LastIdle zero x code es = Unit {0}
LastIdle (suc n) x code [] = ⊥
LastIdle (suc n) x code (e ∷ es) = T (read_of x code e.sent es && idle_reply x e.reply) × LastIdle n x code es

-- a bring-up that is answered Done has made 149 transfers at least, and at most 85,688 for each time that the rules let a transfer be made
abbrev pub BringUpCount : Rules → CallRun → Type 0
BringUpCount rules c = c.code ≡ 1 → is_done c.standing ≡ true → (149 ≤ transfers_of c) × (transfers_of c ≤ times_in rules * 85688)
