-- The session, and what each call and each reply gives it: a transfer, an answer or a refusal. SCOPE 9.1, in its order.
use Rattle.std.specs.Prelude.{Bool, true, false, not, ◌||◌, ◌&&◌, cond, List, [], ◌∷◌, ℕ, zero, suc, ◌+◌, ◌%◌, eqb, ltb, leb, length, drop, replicate}
pub use Rattle.session.specs.declared.Session.{Session}
use Rattle.session.specs.Bus.{Driver, Transfer, transfer_of, Answer, Reply, bad, good, Condition, wait_limit, idle_on, absent}
use Rattle.session.specs.declared.Rules.{Rules}
use Rattle.session.specs.Instructions.{Context, stop_answer, Verdict, onward, leap, stop, test, Op, write, read, wait, range, Final, success, failure, send_of, kept_bytes, kept_failure, kept_budget, read_wins, report_of}
use Rattle.session.specs.Steps.{slot}
use Rattle.session.specs.Calls.{Program, ops_of, program_of, ceiling_of, arguments_ok}

pub data Outcome : Type 0 where
  sent : Transfer → Session → Outcome
  -- an answer, the transfers that its call made, and the session that it leaves
  answered : Answer → ℕ → Session → Outcome
  -- a refusal and the session that it keeps; the session itself is ill-formed
  refused : Answer → Session → Outcome
  broken : Session → Outcome

abbrev pub zeros : List ℕ
zeros = replicate 24 0

-- a call that has made no transfer yet, with its code and its arguments; the code 0 is none
abbrev pub calling : Driver → ℕ → ℕ → ℕ → Session
calling d code a b =
    record { driver = d; code = code; a = a; b = b; step = 0; idle = 0; transfers = 0; failed = 0; found_budget = 0; carried = zeros }

-- the same call elsewhere: at a step, after so many idle reads there, with so many transfers made
abbrev pub with_place : ℕ → ℕ → ℕ → Session → Session
with_place step idle transfers s =
    record {
      driver = s.driver;
      code = s.code;
      a = s.a;
      b = s.b;
      step = step;
      idle = idle;
      transfers = transfers;
      failed = s.failed;
      found_budget = s.found_budget;
      carried = s.carried;
    }

-- the same call with other things kept of its replies
abbrev pub with_kept : ℕ → ℕ → List ℕ → Session → Session
with_kept failed found_budget carried s =
    record {
      driver = s.driver;
      code = s.code;
      a = s.a;
      b = s.b;
      step = s.step;
      idle = s.idle;
      transfers = s.transfers;
      failed = failed;
      found_budget = found_budget;
      carried = carried;
    }

-- SCOPE 9.3: at an answer all that a call carried becomes zero
abbrev pub resting : Driver → Session
resting d = calling d 0 0 0

-- SCOPE 2.2: a fresh session is not up, no call waits in it, and all else is zero
abbrev pub fresh_session : Session
fresh_session = resting absent

-- a bring-up's transfers go to its own address
abbrev pub address_of : ℕ → ℕ → Driver → ℕ
address_of code a d = cond (eqb code 1) (a % 256) d.address

-- the fields that a call leaves if it does not succeed: a bring-up leaves none, also one that was handed in with some
abbrev pub held_by : ℕ → Driver → Driver
held_by code d = cond (eqb code 1) absent d

abbrev pub context_of : Session → Context
context_of s =
    record {
      code = s.code;
      driver = held_by s.code s.driver;
      address = address_of s.code s.a s.driver;
      a = s.a;
      b = s.b;
      failed = s.failed;
      found_budget = s.found_budget;
      carried = s.carried;
    }

-- the session with what is kept of a reply
abbrev pub kept_of : Session → Op → Reply → Session
kept_of s op r = with_kept (kept_failure op r s.failed) (kept_budget op r s.carried s.found_budget) (kept_bytes op r s.carried) s

-- one transfer more, at step k, after i idle reads there
abbrev pub sending : ℕ → ℕ → Session → Session
sending k i s = with_place k i (s.transfers + 1) s

abbrev pub answering : Answer → Driver → Session → Outcome
answering x d s = answered x s.transfers (resting d)

-- an end other than success
abbrev pub giving : Answer → Session → Outcome
giving x s = answering x (held_by s.code s.driver) s

abbrev pub conclude : Final → Session → Outcome
conclude (success v d) s = answering (Answer.Done v) d s
conclude (failure e) s = giving (Answer.BusError e) s

-- the instruction that stands first in the list is sent; with none left the call ends
abbrev pub enter : (Context → Final) → List Op → ℕ → Session → Outcome
enter fin [] k s = conclude (fin (context_of s)) s
enter fin (op ∷ rest) k s = sent (send_of op (context_of s)) (sending k 0 s)

unfoldable pub arrive : Program → ℕ → Session → Outcome
arrive p k s = enter p.final (drop k (ops_of p)) k s

-- a verdict on the way to step k
abbrev pub decide : Verdict → Program → ℕ → ℕ → Session → Outcome
decide onward p over k s = arrive p k s
decide leap p over k s = arrive p (k + over) s
decide (stop x) p over k s = giving (stop_answer x) s
decide (test b v w) p over k s = cond b (decide v p over k s) (decide w p over k s)

-- a read of a wait that gives up at `limit` reads.
-- SCOPE 4.2: the idle read that reaches the limit is answered Timeout; a read that meets the condition there goes on
abbrev pub wait_read : ℕ → Condition → Program → Session → List ℕ → Outcome
wait_read limit x p s bs =
    cond (idle_on x bs)
    (cond (ltb (suc s.idle) limit) (sent (send_of (wait x) (context_of s)) (sending s.step (suc s.idle) s)) (giving Answer.Timeout s))
    (arrive p (suc s.step) s)

-- what a reply does to the call that waits at an instruction
abbrev pub react : Op → Program → Session → Reply → Outcome
react (write reg bytes len over after) p s (bad e) = giving (Answer.BusError (report_of (read_wins s.code) s.failed (suc e))) s
react (write reg bytes len over after) p s (good bs) = decide (after (context_of s)) p over (suc s.step) s
react (read reg len slot finds over after) p s (bad e) = giving (Answer.BusError (suc e)) s
react (read reg len slot finds over after) p s (good bs) =
    decide (after (context_of (kept_of s (read reg len slot finds over after) (good bs)))) p over (suc s.step) (kept_of s (read reg len slot finds over after) (good bs))
react (wait x) p s (bad e) = giving (Answer.BusError (suc e)) s
react (wait x) p s (good bs) = wait_read (wait_limit s.code x) x p s bs
react (range reg len slot over) p s (bad e) = arrive p (suc s.step + over) (kept_of s (range reg len slot over) (bad e))
react (range reg len slot over) p s (good bs) = arrive p (suc s.step) (kept_of s (range reg len slot over) (good bs))

-- a reply as a record gives it: the failure code or 0, and six data bytes
abbrev pub to_reply : ℕ → List ℕ → Reply
to_reply zero bs = good bs
to_reply (suc e) bs = bad e

abbrev pub all_zero : List ℕ → Bool
all_zero [] = true
all_zero (x ∷ xs) = eqb x 0 && all_zero xs

-- a byte past the read length, or any byte beside a failure
unfoldable pub stray : Transfer → ℕ → List ℕ → Bool
stray t zero bs = not (all_zero (drop t.reads bs))
stray t (suc e) bs = not (all_zero bs)

abbrev pub on_ops : List Op → Program → Session → ℕ → List ℕ → Outcome
on_ops [] p s f bs = broken s
on_ops (op ∷ rest) p s f bs = cond (stray (send_of op (context_of s)) f bs) (refused Answer.StrayByte s) (react op p s (to_reply f bs))

-- the transfer that a waiting session has out
abbrev pub first_transfer_out : List Op → Context → Transfer
first_transfer_out [] c = transfer_of 0 [] 0
first_transfer_out (op ∷ ops) c = send_of op c

abbrev pub outstanding : Rules → Session → Transfer
outstanding rules s = first_transfer_out (drop s.step (ops_of (program_of rules s.code))) (context_of s)

-- SCOPE 9.2, answer 15 while a call waits: code or arguments that 13 would refuse, call 1 marked up or another not up, a step that is not the
-- call's, idle reads at or over the wait's limit or not 0 outside a wait, transfers 0 or over the ceiling
abbrev pub idle_wrong : ℕ → List Op → ℕ → Bool
idle_wrong code [] i = true
idle_wrong code (write reg bytes len over after ∷ ops) i = not (eqb i 0)
idle_wrong code (read reg len slot finds over after ∷ ops) i = not (eqb i 0)
idle_wrong code (wait x ∷ ops) i = leb (wait_limit code x) i
idle_wrong code (range reg len slot over ∷ ops) i = not (eqb i 0)

abbrev pub up_wrong : ℕ → Bool → Bool
up_wrong code up = cond (eqb code 1) up (not up)

unfoldable pub malformed : Rules → Session → Bool
malformed rules s =
    not (arguments_ok rules s.code s.a s.b)
    || up_wrong s.code s.driver.up
    || idle_wrong s.code (drop s.step (ops_of (program_of rules s.code))) s.idle
    || eqb s.transfers 0
    || ltb (ceiling_of rules s.code) s.transfers

abbrev pub waits_now : Session → Bool
waits_now s = not (eqb s.code 0)

abbrev pub ill_formed : Rules → Session → Bool
ill_formed rules s = waits_now s && malformed rules s

-- a reply: 15, 11, 12, then what the call makes of it
unfoldable pub reply_def : Rules → Session → ℕ → List ℕ → Outcome
reply_def rules s f bs =
    cond (ill_formed rules s) (broken s)
    (cond (not (waits_now s)) (refused Answer.NoCallWaits s)
    (on_ops (drop s.step (ops_of (program_of rules s.code))) (program_of rules s.code) s f bs))

-- a call as it begins; a bring-up leaves none of the fields
abbrev pub begun : Session → ℕ → ℕ → ℕ → Session
begun s code a b = calling (held_by code s.driver) code a b

abbrev pub not_up : ℕ → Bool → Bool
not_up code up = cond (eqb code 1) false (not up)

-- a call: 15, 13, 10, 9, then what its arguments decide: 5, 6, 1 or its first transfer
unfoldable pub begin_def : Rules → Session → ℕ → ℕ → ℕ → Outcome
begin_def rules s code a b =
    cond (ill_formed rules s) (broken s)
    (cond (not (arguments_ok rules code a b)) (refused Answer.IllFormedRecord s)
    (cond (waits_now s) (refused Answer.CallWaits s)
    (cond (not_up code s.driver.up) (refused Answer.NotUp s)
    (decide ((program_of rules code).entry (context_of (begun s code a b))) (program_of rules code) (length (program_of rules code).steps) 0 (begun s code a b)))))

-- a record of no kind: 15, 13
unfoldable pub other_def : Rules → Session → Outcome
other_def rules s = cond (ill_formed rules s) (broken s) (refused Answer.IllFormedRecord s)
