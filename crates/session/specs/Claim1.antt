-- Demand 1 (SCOPE 1.1): every record that meets any session gets one transfer or one numbered answer, and every slice of records the one answer of
-- its run; a refusal makes no transfer and changes neither the session nor a lent byte.
use Rattle.std.specs.Prelude.{◌≡◌, Bool, true, false, ◌||◌, cond, List, [], ◌∷◌, ℕ, ◌%◌, ◌≤◌, eqb, length}
use Rattle.std.proofs.Math.Option.{Option, some, none}
use Rattle.session.specs.declared.Rules.{Rules}
use Rattle.session.specs.Bus.{Transfer, Answer, byte, bytes_of, zero_from, number_of, values_of, absent}
use Rattle.session.specs.Machine.{Session, Outcome, sent, answered, refused, broken, resting, outstanding, ill_formed}
use Rattle.session.specs.Records.{Record, call, records_of}
use Rattle.session.specs.Refusals.{refusals, first_match, Underway, at_once, first_answer}
use Rattle.session.specs.History.{step_def, Entry, calls_in, answers_in, replies_in, transfers_in, refused_in, Run, session_after, Genuine, in_order}

-- SCOPE 4.1: 1 to 7 bytes to be written, and a read length of 0, 1, 2 or 6
abbrev pub is_length : ℕ → Bool
is_length n = eqb n 0 || eqb n 1 || eqb n 2 || eqb n 6

pub record OnTheBus (t : Transfer) : Type 0 where
  pub some_byte : 1 ≤ t.count
  pub at_most_seven : t.count ≤ 7
  pub room : length t.written ≡ 7
  pub rest_zero : zero_from t.count t.written ≡ true
  pub read_length : is_length t.reads ≡ true

-- what a transfer is made of can be read off it
pub record Says (address : ℕ) (bytes : List ℕ) (reads : ℕ) (t : Transfer) : Type 0 where
  pub to : t.address ≡ address
  pub bytes_written : bytes_of t ≡ bytes
  pub then_read : t.reads ≡ reads

-- a bring-up speaks to the address of its record, which is one byte, every other call to the session's
abbrev pub chip_address : Session → ℕ
chip_address s = cond (eqb s.code 1) (s.a % 256) s.driver.address

-- what an outcome is: a transfer that the session then has out, an answer 0 to 8 that leaves nothing carried,
-- or a refusal 9 to 13 or 15 that keeps the session
pub data Single (rules : Rules) (s : Session) : Outcome → Type 0 where
  one_transfer : (t : Transfer) (s' : Session) → OnTheBus t → t.address ≡ chip_address s' → t ≡ outstanding rules s' → Single rules s (sent t s')
  one_answer : (x : Answer) (n : ℕ) (s' : Session) → number_of x ≤ 8 → s' ≡ resting s'.driver → Single rules s (answered x n s')
  one_refusal : (x : Answer) → 9 ≤ number_of x → number_of x ≤ 13 → Single rules s (refused x s)
  ill_formed_session : Single rules s (broken s)

-- the number of a refusal, 0 where an outcome is none
abbrev pub refusal_number : Outcome → ℕ
refusal_number (sent t s) = 0
refusal_number (answered x n s) = 0
refusal_number (refused x s) = number_of x
refusal_number (broken s) = 15

-- the number, the first value and the transfers figure of an answer, none for a transfer
abbrev pub answer_shown : Outcome → Option (ℕ × ℕ × ℕ)
answer_shown (sent t s) = none
answer_shown (answered x n s) = some (number_of x, byte 0 (values_of x), n)
answer_shown (refused x s) = some (number_of x, 0, 0)
answer_shown (broken s) = some (15, 0, 0)

-- a record of one session: what it gets is fixed, and refused exactly by the table of SCOPE 9.1
pub record Demand1 (rules : Rules) (s : Session) (r : Record) : Type 0 where
  pub single : Single rules s (step_def rules s r)
  pub refused : refusal_number (step_def rules s r) ≡ first_match (refusals rules s r)

-- a call that the table does not refuse is answered at once by its rows 5, 6 and the first 1, with no transfer made; else it makes its first transfer
abbrev pub AtOnce : Rules → Session → ℕ → ℕ → ℕ → Type 0
AtOnce rules s code a b = first_match (refusals rules s (call code a b)) ≡ 0 → answer_shown (step_def rules s (call code a b)) ≡ first_answer (at_once code a b)

-- neither a refusal nor 15
abbrev pub Accepts : Outcome → Type 0
Accepts (sent t s) = Unit {0}
Accepts (answered x n s) = Unit {0}
Accepts (refused x s) = ⊥
Accepts (broken s) = ⊥

-- a data byte that is not zero, past the read length or beside a failure
pub data Stray (reads f : ℕ) (bs : List ℕ) : Type 0 where
  past_length : f ≡ 0 → (i : ℕ) → reads ≤ i → (byte i bs ≡ 0 → ⊥) → Stray reads f bs
  beside_failure : (f ≡ 0 → ⊥) → (i : ℕ) → (byte i bs ≡ 0 → ⊥) → Stray reads f bs

-- a reply that is refused with answer 12
pub record Refused12 (rules : Rules) (s : Session) (f : ℕ) (bs : List ℕ) : Type 0 where
  pub underway : Underway rules s
  pub stray : Stray (outstanding rules s).reads f bs

-- a bring-up that ends otherwise than Done leaves no fields, also one that was handed in with some
abbrev pub LeavesNone : Outcome → Type 0
LeavesNone (sent t s) = Unit {0}
LeavesNone (answered x n s) = eqb (number_of x) 0 ≡ false → s.driver ≡ absent
LeavesNone (refused x s) = Unit {0}
LeavesNone (broken s) = Unit {0}

-- SCOPE 8.2: 14 and 15 end the run with the session as it was given and all counts 0
abbrev pub ended_at_once : Answer → Session → Run
ended_at_once x s =
    record { answer = x; session = s; counts = record { calls = 0; answers = 0; replies = 0; transfers = 0; refused = 0 }; history = [] }

-- SCOPE 8.1: at the end stand answer 0, the session and the five counts
abbrev pub completed : Session → List Entry → Run
completed s h =
    record {
      answer = Answer.Done 0;
      session = s;
      counts = record { calls = calls_in h; answers = answers_in h; replies = replies_in h; transfers = transfers_in h; refused = refused_in h };
      history = h;
    }

-- a slice of records, from any session. 14 for spare bytes; 15 if the session is ill-formed at the start or where a record meets it;
-- else every record has what it gets
pub data RunEnds (rules : Rules) (s : Session) (bytes : List ℕ) : Run → Type 0 where
  spare_bytes : (length bytes % 8 ≡ 0 → ⊥) → RunEnds rules s bytes (ended_at_once Answer.SpareBytes s)
  ill_formed_given : length bytes % 8 ≡ 0 → ill_formed rules s ≡ true → RunEnds rules s bytes (ended_at_once Answer.IllFormedSession s)
  ill_formed_met : length bytes % 8 ≡ 0 → (h : List Entry) (r : Record) (rest : List Record) → in_order h (r ∷ rest) ≡ records_of bytes
      → Genuine rules s h → ill_formed rules (session_after rules s h) ≡ true → RunEnds rules s bytes (ended_at_once Answer.IllFormedSession s)
  all_run : length bytes % 8 ≡ 0 → ill_formed rules s ≡ false → (h : List Entry) → in_order h [] ≡ records_of bytes → Genuine rules s h
      → RunEnds rules s bytes (completed (session_after rules s h) h)
