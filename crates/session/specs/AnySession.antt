-- What holds of every session that is handed in, also one that no run leaves: a call begins with its own code, arguments and count, and a call that
-- waits goes on in what is left of its script. SCOPE 2.2: arithmetic on the bytes that a session carries gives the first place in the Rust's order
-- there too.
use Rattle.std.specs.Prelude.{◌≡◌, true, false, cond, eqb, get_or, List, [], ◌∷◌, ◌++◌, ℕ, zero, suc, ◌+◌, ◌-◌, ◌*◌, ◌/◌, ◌%◌, ◌≤◌, length, take, drop}
use Rattle.session.specs.declared.Rules.{Rules}
use Rattle.session.specs.Bus.{byte, absent, transfer_of, with_driver_address, with_driver_budget, Driver, Transfer, Answer, Reply, bad, good, wait_limit, idle_on, zero_from, clean_from, number_of}
use Rattle.session.specs.Instructions.{Context, bytes_from, stop_answer, Verdict, onward, leap, stop, test, Op, write, read, wait, range, Final, success, failure, send_of, kept_bytes, kept_failure, kept_budget, read_wins, report_of}
use Rattle.session.specs.Calls.{ops_of, program_of}
use Rattle.session.specs.Machine.{Session, Outcome, sent, answered, refused, broken, resting, context_of, begun, outstanding}
use Rattle.session.specs.Records.{call, reply}
use Rattle.session.specs.History.{step_def}
use Rattle.session.specs.Script.{Script, done, send, on_reply, wait_loop, cut}
use Rattle.session.specs.Refusals.{Underway}
use Rattle.session.specs.RustFn.{Chip, ◌>>◌, Ok}
use Rattle.session.specs.RustClocks.{or_u8, and_u8, spad_count, type_is_aperture, threshold_raw, threshold_mm, limit_contained, limit_word}
use Rattle.session.specs.RustCalls.{start_timed, get_measurement_timing_budget, set_budget_from_reads, set_measurement_timing_budget}
use Rattle.session.specs.RustBringUp.{enable_ref_spads, method, constructed, number, flag, unit, calibration, budget_and_calibration}
use Rattle.session.specs.LaterCalls.{limit_of_raw}
use Rattle.session.specs.Claim1.{chip_address}
use Rattle.session.specs.Claim2.{Accepted}
use Rattle.session.specs.Claim3.{reported}
use Rattle.session.specs.Parts.{Part, part_of, needed, looked_at, sent_from, kept_rows, kept_at, reads_range_at, clears_at, gives_budget}

abbrev pub keeping : Context → Op → Reply → Context
keeping c op r =
    record {
      code = c.code;
      driver = c.driver;
      address = c.address;
      a = c.a;
      b = c.b;
      failed = kept_failure op r c.failed;
      found_budget = kept_budget op r c.carried c.found_budget;
      carried = kept_bytes op r c.carried;
    }

abbrev pub concluded : Final → Driver → Script
concluded (success v d') d = done (Answer.Done v) d'
concluded (failure e) d = done (Answer.BusError e) d

abbrev pub decided : Verdict → ℕ → Context → (ℕ → Script) → Script
decided onward over c k = k zero
decided leap over c k = k over
decided (stop x) over c k = done (stop_answer x) c.driver
decided (test b v w) over c k = cond b (decided v over c k) (decided w over c k)

abbrev pub failing : Context → ℕ → Script
failing c e = done (Answer.BusError (suc e)) c.driver

-- the instructions after the first n of the list
abbrev pub resume : (Context → Final) → ℕ → List Op → Context → Script
resume fin n [] c = concluded (fin c) c.driver
resume fin (suc n) (op ∷ ops) c = resume fin n ops c
resume fin zero (write reg bytes len over after ∷ ops) c =
    send (send_of (write reg bytes len over after) c)
    (λ r. on_reply r (λ e. done (Answer.BusError (report_of (read_wins c.code) c.failed (suc e))) c.driver) (λ bs. decided (after c) over c (λ n. resume fin n ops c)))
resume fin zero (read reg len slot finds over after ∷ ops) c =
    send (send_of (read reg len slot finds over after) c)
    (λ r. on_reply r (failing c)
    (λ bs. decided (after (keeping c (read reg len slot finds over after) (good bs))) over (keeping c (read reg len slot finds over after) (good bs)) (λ n. resume fin n ops (keeping c (read reg len slot finds over after) (good bs)))))
resume fin zero (wait x ∷ ops) c =
    wait_loop (wait_limit c.code x) (send_of (wait x) c) (idle_on x) (failing c) (done Answer.Timeout c.driver) (resume fin zero ops c)
resume fin zero (range reg len slot over ∷ ops) c =
    send (send_of (range reg len slot over) c)
    (λ r. on_reply r (λ e. resume fin over ops (keeping c (range reg len slot over) (bad e))) (λ bs. resume fin zero ops (keeping c (range reg len slot over) (good bs))))

-- the same where the first of them is out, after i idle reads of it
abbrev pub resume_in : (Context → Final) → ℕ → Op → List Op → Context → Script
resume_in fin i (write reg bytes len over after) rest c = resume fin zero (write reg bytes len over after ∷ rest) c
resume_in fin i (read reg len slot finds over after) rest c = resume fin zero (read reg len slot finds over after ∷ rest) c
resume_in fin i (wait w) rest c =
    wait_loop (wait_limit c.code w - i) (send_of (wait w) c) (idle_on w) (failing c) (done Answer.Timeout c.driver) (resume fin zero rest c)
resume_in fin i (range reg len slot over) rest c = resume fin zero (range reg len slot over ∷ rest) c

abbrev pub left_of : (Context → Final) → ℕ → List Op → Context → Script
left_of fin i [] c = concluded (fin c) c.driver
left_of fin i (op ∷ rest) c = resume_in fin i op rest c

-- what is left of the call that a session waits in
abbrev pub left : Rules → Session → Script
left rules s = left_of (program_of rules s.code).final s.idle (drop s.step (ops_of (program_of rules s.code))) (context_of s)

-- a script that has its transfer out hears a reply
abbrev pub hears : Script → Reply → Script
hears (done a d) r = done a d
hears (send t k) r = k r

-- a transfer more of the same call
pub record OneMore (s s' : Session) : Type 0 where
  pub driver : s'.driver ≡ s.driver
  pub code : s'.code ≡ s.code
  pub a : s'.a ≡ s.a
  pub b : s'.b ≡ s.b
  pub transfers : s'.transfers ≡ s.transfers + 1

-- an outcome stands where a script stands: out with a transfer of the same call, or ended with the transfers counted
abbrev pub StandsAt : Rules → Session → Outcome → Script → Type 0
StandsAt rules s (sent t s') x = (x ≡ left rules s') × OneMore s s'
StandsAt rules s (answered a n s') x = (x ≡ done a s'.driver) × (n ≡ s.transfers)
StandsAt rules s (refused a s') x = ⊥
StandsAt rules s (broken s') x = ⊥

-- an accepted call, from any session: its own code and arguments, no transfer made yet, and the script of its instructions from the start
abbrev pub BeginsAt : Rules → Session → ℕ → ℕ → ℕ → Type 0
BeginsAt rules s code a b =
    Accepted rules s code a b
    → StandsAt rules (begun s code a b) (step_def rules s (call code a b))
    (decided ((program_of rules code).entry (context_of (begun s code a b))) (length (program_of rules code).steps) (context_of (begun s code a b)) (λ n. resume (program_of rules code).final n (ops_of (program_of rules code)) (context_of (begun s code a b))))

-- a waiting session that 15 lets pass, also one that no run leaves, stands in the script of its instructions:
-- a reply that is not refused takes both one step on
abbrev pub StepByStep : Rules → Session → ℕ → List ℕ → Type 0
StepByStep rules s f bs =
    Underway rules s
    → zero_from (clean_from f (outstanding rules s).reads) bs ≡ true
    → StandsAt rules s (step_def rules s (reply f bs)) (hears (left rules s) (cut (outstanding rules s) f bs))

-- WHAT IS NEEDED. Parts in which two sessions are the same
abbrev pub AllSame : List Part → Session → Session → Type 0
AllSame [] s s' = Unit {0}
AllSame (p ∷ ps) s s' = (part_of p s ≡ part_of p s') × AllSame ps s s'

-- two sessions at the same place of the same call, which agree on these parts; a bring-up looks at no field of the driver
pub record AgreeOn (ps : List Part) (s s' : Session) : Type 0 where
  pub code : s.code ≡ s'.code
  pub step : s.step ≡ s'.step
  pub idle : s.idle ≡ s'.idle
  pub driver : eqb s.code 1 ≡ false → s.driver ≡ s'.driver
  pub room : length s.carried ≡ length s'.carried
  pub parts : AllSame ps s s'

abbrev pub Agree : Session → Session → Type 0
Agree s s' = AgreeOn (needed s.code s.step) s s'

-- two outcomes with the same transfer and sessions that go on agreeing, or with the same answer and fields; the count of transfers is each one's own
pub data Alike : Outcome → Outcome → Type 0 where
  same_transfer : (t : Transfer) (s s' : Session) → Agree s s' → Alike (sent t s) (sent t s')
  same_answer : (x : Answer) (n n' : ℕ) (s : Session) → Alike (answered x n s) (answered x n' s)
  same_refusal : (x : Answer) (s s' : Session) → Alike (refused x s) (refused x s')

-- a reply depends on the parts that are needed, and on nothing else; so does all that comes after it
abbrev pub DependsOnNeeded : Rules → Session → Session → ℕ → List ℕ → Type 0
DependsOnNeeded rules s s' f bs = Underway rules s → Underway rules s' → Agree s s' → Alike (step_def rules s (reply f bs)) (step_def rules s' (reply f bs))

-- two outcomes of one course: both calls go on at the same step, or both end with an answer of the same number
pub data SameCourse : Outcome → Outcome → Type 0 where
  both_go_on : (t t' : Transfer) (s s' : Session) → s.step ≡ s'.step → s.idle ≡ s'.idle → SameCourse (sent t s) (sent t' s')
  both_end : (x x' : Answer) (n n' : ℕ) (s s' : Session) → number_of x ≡ number_of x' → SameCourse (answered x n s) (answered x' n' s')
  both_refuse : (x : Answer) (s s' : Session) → SameCourse (refused x s) (refused x s')

-- the course looks at the parts of its table, and at nothing else
abbrev pub CourseLooksAt : Rules → Session → Session → ℕ → List ℕ → Type 0
CourseLooksAt rules s s' f bs =
    Underway rules s → Underway rules s' → AgreeOn (looked_at s.code s.step) s s' → SameCourse (step_def rules s (reply f bs)) (step_def rules s' (reply f bs))

-- a call that goes on keeps what it carries but for this
abbrev pub Keeps : Session → ℕ → List ℕ → Outcome → Type 0
Keeps s f bs (sent t s') =
    (s'.carried ≡ cond (eqb f 0) (kept_at s.code s.step kept_rows s.carried bs) s.carried)
    × (s'.failed ≡ cond (reads_range_at s.code s.step) f s.failed)
    × (gives_budget s.code s.step ≡ false → s'.found_budget ≡ s.found_budget)
Keeps s f bs (answered x n s') = Unit {0}
Keeps s f bs (refused x s') = Unit {0}
Keeps s f bs (broken s') = Unit {0}

-- all else stays: the driver, the code, A and B by `OneMore`, the rest by this
abbrev pub KeepsTheRest : Rules → Session → ℕ → List ℕ → Type 0
KeepsTheRest rules s f bs = Underway rules s → Keeps s f bs (step_def rules s (reply f bs))

-- FAILURES. The code that a failed reply ends a call with. SCOPE 5.8: if the clearing fails too, call 6 reports the read's code, calls 7 and 8 the
-- clearing's. The clearing comes after the range read
abbrev pub failure_reported : Session → ℕ → ℕ
failure_reported s f = cond (clears_at s.code s.step) (reported s.code s.failed f) f

-- SCOPE 6: a bring-up that ends so leaves none
abbrev pub fields_left : Session → Driver
fields_left s = cond (eqb s.code 1) absent s.driver

-- a failed reply ends its call at once, except a failed range read
abbrev pub FailureEnds : Rules → Session → ℕ → List ℕ → Type 0
FailureEnds rules s f bs =
    Underway rules s
    → (f ≡ 0 → ⊥)
    → zero_from 0 bs ≡ true
    → reads_range_at s.code s.step ≡ false
    → step_def rules s (reply f bs) ≡ answered (Answer.BusError (failure_reported s f)) s.transfers (resting (fields_left s))

-- a call that is given up: where a failed reply does not end it, a second one with the same code does
abbrev pub GivenUp : Rules → Session → ℕ → List ℕ → List ℕ → Type 0
GivenUp rules s f bs bs' =
    (t : Transfer) (s' : Session) → Underway rules s
    → (f ≡ 0 → ⊥)
    → zero_from 0 bs ≡ true
    → zero_from 0 bs' ≡ true
    → step_def rules s (reply f bs) ≡ sent t s'
    → Underway rules s'
    → step_def rules s' (reply f bs') ≡ answered (Answer.BusError f) s'.transfers (resting (fields_left s'))

-- the transfer that is out is made of its parts, and of nothing else
abbrev pub SentFrom : Rules → Session → Session → Type 0
SentFrom rules s s' = Underway rules s → Underway rules s' → AgreeOn (sent_from s.code s.step) s s' → outstanding rules s ≡ outstanding rules s'

-- SCOPE 4.1: what a write reads back is ignored. A write is a transfer that writes more than its register
abbrev pub IgnoresReadBack : Rules → Session → List ℕ → List ℕ → Type 0
IgnoresReadBack rules s bs bs' =
    Underway rules s → 2 ≤ (outstanding rules s).count
    → zero_from (outstanding rules s).reads bs ≡ true
    → zero_from (outstanding rules s).reads bs' ≡ true
    → step_def rules s (reply 0 bs) ≡ step_def rules s (reply 0 bs')

-- WRITES AND ANSWERS of carried bytes, in the formulas of lib.rs (RustClocks, RustBringUp) and of LaterCalls, for all bytes. Words are sent high
-- byte first
abbrev pub word_sent : ℕ → List ℕ
word_sent w = w / 256 % 256 ∷ w % 256 ∷ []

abbrev pub long_sent : ℕ → List ℕ
long_sent w = w / 16777216 % 256 ∷ w / 65536 % 256 ∷ w / 256 % 256 ∷ w % 256 ∷ []

abbrev pub word_at : ℕ → List ℕ → ℕ
word_at i l = byte i l * 256 + byte (i + 1) l

-- start_continuous: the period, times the oscillator word where that is not 0. A session that no run leaves may carry one that is too long
abbrev pub period_sent : ℕ → ℕ → ℕ
period_sent period osc = cond (eqb osc 0) period (period * osc)

-- set_signal_rate_limit: a session that no run leaves may have a limit out of range
abbrev pub limit_sent : ℕ → ℕ
limit_sent bits = cond (limit_contained bits) (limit_word bits) 0

-- code, step, the bytes that the transfer out writes, and how many it reads back
abbrev pub writes_of : Session → List (ℕ × ℕ × List ℕ × ℕ)
writes_of s =
    (1, 2, 0x89 ∷ or_u8 (byte 2 s.carried) 0x01 ∷ [], 1)
    ∷ (1, 12, 0x60 ∷ or_u8 (byte 2 s.carried) 0x12 ∷ [], 1)
    ∷ (1, 20, 0x83 ∷ or_u8 (byte 2 s.carried) 0x04 ∷ [], 1)
    ∷ (1, 32, 0x83 ∷ and_u8 (byte 2 s.carried) 0xFB ∷ [], 1)
    ∷ (1, 43, 0xB0 ∷ bytes_from 0 6 (enable_ref_spads (spad_count (byte 3 s.carried)) (type_is_aperture (byte 3 s.carried)) (bytes_from 16 6 s.carried)), 6)
    ∷ (1, 126, 0x84 ∷ and_u8 (byte 2 s.carried) 0xEF ∷ [], 1)
    ∷ (3, 0, 0x8A ∷ s.a % 256 ∷ [], 0)
    ∷ (4, 3, 0x91 ∷ s.driver.stop ∷ [], 1)
    ∷ (4, 8, 0x04 ∷ long_sent (period_sent s.a (word_at 8 s.carried)), 1)
    ∷ (4, 9, 0x00 ∷ cond (eqb s.a 0) 0x02 0x04 ∷ [], 1)
    ∷ (8, 3, 0x91 ∷ s.driver.stop ∷ [], 1)
    ∷ (10, 0, 0x0E ∷ word_sent (threshold_raw (s.a % 65536)), 1)
    ∷ (10, 1, 0x0C ∷ word_sent (threshold_raw s.b), 1)
    ∷ (12, 0, 0x0A ∷ get_or (0x04 ∷ 0x01 ∷ 0x02 ∷ 0x03 ∷ []) s.a 0 ∷ [], 1)
    ∷ (12, 2, 0x84 ∷ cond (eqb s.b 0) (and_u8 (byte 2 s.carried) 0xEF) (or_u8 (byte 2 s.carried) 0x10) ∷ [], 1)
    ∷ (14, 0, 0x44 ∷ word_sent (limit_sent s.a), 1)
    ∷ []

abbrev pub EachWrite : Rules → Session → List (ℕ × ℕ × List ℕ × ℕ) → Type 0
EachWrite rules s [] = Unit {0}
EachWrite rules s (r ∷ rs) = (s.code ≡ r.0 → s.step ≡ r.1 → outstanding rules s ≡ transfer_of (chip_address s) r.2 r.3) × EachWrite rules s rs

-- the range word, or the failure code of its read
abbrev pub range_answer : Session → Answer
range_answer s = cond (eqb s.failed 0) (Answer.Done (word_at 4 s.carried)) (Answer.BusError s.failed)

-- code, last step, and the answer and fields that a good reply there gives
abbrev pub answers_of : Session → List ℕ → List (ℕ × ℕ × Answer × Driver)
answers_of s bs =
    (1, 155, Answer.Done 0, record { up = true; address = s.a % 256; stop = byte 1 s.carried; budget = s.found_budget })
    ∷ (2, 0, Answer.Done (byte 0 bs), s.driver)
    ∷ (3, 0, Answer.Done 0, with_driver_address s.driver (s.a % 256))
    ∷ (4, 9, Answer.Done 0, s.driver)
    ∷ (5, 5, Answer.Done 0, s.driver)
    ∷ (6, 3, range_answer s, s.driver)
    ∷ (7, 3, range_answer s, s.driver)
    ∷ (8, 12, range_answer s, s.driver)
    ∷ (9, 6, Answer.Done 0, with_driver_budget s.driver s.a)
    ∷ (10, 1, Answer.Done 0, s.driver)
    ∷ (11, 1, Answer.Done (threshold_mm (word_at 8 s.carried) * 65536 + threshold_mm (word_at 0 bs)), s.driver)
    ∷ (12, 4, Answer.Done 0, s.driver)
    ∷ (13, 1, Answer.Done 0, s.driver)
    ∷ (14, 0, Answer.Done 0, s.driver)
    ∷ (16, 0, Answer.Done (limit_of_raw (word_at 0 bs)), s.driver)
    ∷ []

abbrev pub EachAnswer : Rules → Session → List ℕ → List (ℕ × ℕ × Answer × Driver) → Type 0
EachAnswer rules s bs [] = Unit {0}
EachAnswer rules s bs (r ∷ rs) =
    (s.code ≡ r.0 → s.step ≡ r.1 → step_def rules s (reply 0 bs) ≡ answered r.2 s.transfers (resting r.3)) × EachAnswer rules s bs rs

-- so for every session, also one that no run leaves
abbrev pub CarriedWrites : Rules → Session → Type 0
CarriedWrites rules s = EachWrite rules s (writes_of s)

abbrev pub CarriedAnswers : Rules → Session → List ℕ → Type 0
CarriedAnswers rules s bs = Underway rules s → length s.carried ≡ 24 → zero_from (outstanding rules s).reads bs ≡ true → EachAnswer rules s bs (answers_of s bs)

-- THE BUDGET READS, for all bytes. The six replies that the carried bytes from slot k on are, in the Rust's order
abbrev pub budget_replies : ℕ → List ℕ → List Reply
budget_replies k l =
    good (byte k l ∷ [])
    ∷ good (byte (k + 1) l ∷ byte (k + 2) l ∷ [])
    ∷ good (byte (k + 3) l ∷ byte (k + 4) l ∷ [])
    ∷ good (byte (k + 5) l ∷ [])
    ∷ good (byte (k + 6) l ∷ [])
    ∷ good (byte (k + 7) l ∷ [])
    ∷ []

-- a script after replies; one that has ended hears no more
abbrev pub after_replies : Script → List Reply → Script
after_replies x [] = x
after_replies x (r ∷ rs) = after_replies (hears x r) rs

-- what a bring-up keeps apart: its address, its stop byte, its budget
abbrev pub chip_in : Session → ℕ → Chip
chip_in s budget = record { address = s.a % 256; stop_variable = byte 1 s.carried; measurement_timing_budget_microseconds = budget }

-- a call waits for the budget reply that comes after n others, whose bytes are carried from slot k on; `x` is lib.rs from the first of the six reads on
pub data BudgetReply (rules : Rules) (s : Session) (n : ℕ) : ℕ → Script → Type 0 where
  in_call_15 : s.code ≡ 15 → s.step ≡ n → BudgetReply rules s n 8 (method number s.driver get_measurement_timing_budget)
  in_call_9 : s.code ≡ 9 → s.step ≡ n → BudgetReply rules s n 8 (method flag s.driver (set_budget_from_reads rules s.a))
  in_bring_up : s.code ≡ 1 → s.step ≡ 129 + n → BudgetReply rules s n 8 (constructed (chip_in s 0) (budget_and_calibration rules))
  again_in_bring_up : s.code ≡ 1 → s.step ≡ 136 + n → BudgetReply rules s n 16 (constructed (chip_in s s.found_budget) (set_budget_from_reads rules s.found_budget >> calibration))

-- SCOPE 2.2: the first place in the Rust's order, also on bytes that no run leaves. The reply leads where lib.rs is after the carried bytes as
-- replies and then this one: to its panic if they have one, else to its next read, its word or its answer
abbrev pub FirstPlace : Rules → Session → List ℕ → Type 0
FirstPlace rules s bs =
    (n k : ℕ) (x : Script) → n ≤ 5 → BudgetReply rules s n k x
    → Underway rules s
    → length s.carried ≡ 24
    → zero_from (clean_from 0 (outstanding rules s).reads) bs ≡ true
    → StandsAt rules s (step_def rules s (reply 0 bs)) (after_replies x (take n (budget_replies k s.carried) ++ cut (outstanding rules s) 0 bs ∷ []))

-- a call waits with a final range word out; `x` is lib.rs from the first of the six reads on
pub data WordIsOut (rules : Rules) (s : Session) : ℕ → Script → Type 0 where
  of_call_9 : s.code ≡ 9 → s.step ≡ 6 → WordIsOut rules s 8 (method flag s.driver (set_budget_from_reads rules s.a))
  of_bring_up : s.code ≡ 1 → s.step ≡ 142 → WordIsOut rules s 16 (constructed (chip_in s s.found_budget) (set_budget_from_reads rules s.found_budget >> calibration))

-- where lib.rs writes a word after the carried bytes as replies, that transfer is out
abbrev pub WordOut : Rules → Session → Type 0
WordOut rules s =
    (k : ℕ) (x : Script) (t : Transfer) (f : Reply → Script) → WordIsOut rules s k x
    → length s.carried ≡ 24
    → after_replies x (budget_replies k s.carried) ≡ send t f
    → byte 0 t.written ≡ 0x71
    → outstanding rules s ≡ t

-- a bring-up has written its sequence steps: it goes on as lib.rs sets the budget that is carried, also one below 20,000
abbrev pub StepsWritten : Rules → Session → List ℕ → Type 0
StepsWritten rules s bs =
    s.code ≡ 1 → s.step ≡ 135
    → Underway rules s
    → length s.carried ≡ 24
    → zero_from (clean_from 0 (outstanding rules s).reads) bs ≡ true
    → StandsAt rules s (step_def rules s (reply 0 bs)) (constructed (chip_in s s.found_budget) (set_measurement_timing_budget rules s.found_budget >> calibration))

-- and SCOPE 5.7: period × oscillator word above 32 bits is place 1: call 4, with a period, waits for the oscillator word
abbrev pub FirstPlaceOfPeriod : Rules → Session → List ℕ → Type 0
FirstPlaceOfPeriod rules s bs =
    s.code ≡ 4 → s.step ≡ 7
    → (s.a ≡ 0 → ⊥)
    → Underway rules s
    → length s.carried ≡ 24
    → zero_from (clean_from 0 (outstanding rules s).reads) bs ≡ true
    → StandsAt rules s (step_def rules s (reply 0 bs)) (hears (method unit s.driver (start_timed s.a >> Ok tt)) (cut (outstanding rules s) 0 bs))

-- a call that goes on at a step
abbrev pub GoesOnAt : ℕ → Outcome → Type 0
GoesOnAt k (sent t s') = s'.step ≡ k
GoesOnAt k (answered x n s') = ⊥
GoesOnAt k (refused x s') = ⊥
GoesOnAt k (broken s') = ⊥

-- with no period lib.rs reads no oscillator word; a session that is handed in there goes on, and the product 0 is written
abbrev pub NoPeriod : Rules → Session → List ℕ → Type 0
NoPeriod rules s bs =
    s.code ≡ 4 → s.step ≡ 7 → s.a ≡ 0 → Underway rules s → zero_from (outstanding rules s).reads bs ≡ true → GoesOnAt 8 (step_def rules s (reply 0 bs))
