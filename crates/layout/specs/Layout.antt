-- A session and an outcome as bytes of a fixed layout, for callers in other languages. Numbers stand low byte first.
use Rattle.std.specs.Prelude.{Bool, ◌&&◌, cond, List, [], ◌∷◌, ◌++◌, ℕ, zero, suc, ◌+◌, ◌*◌, ◌/◌, ◌%◌, eqb, leb, length, drop, replicate}
use Rattle.session.specs.declared.Driver.{Driver}
use Rattle.session.specs.declared.Session.{Session}
use Rattle.session.specs.declared.Transfer.{Transfer}
use Rattle.session.specs.declared.Answer.{Answer}
use Rattle.session.specs.Bus.{byte, number_of, values_of}
use Rattle.session.specs.Machine.{fresh_session}
use Rattle.session.specs.declared.Given.{Given}
use Rattle.session.specs.declared.Outcome.{Outcome}
use Rattle.lines.specs.Lines.{flag}

-- a number in two bytes, and in four
abbrev pub word_bytes : ℕ → List ℕ
word_bytes x = x % 256 ∷ x / 256 ∷ []

abbrev pub long_bytes : ℕ → List ℕ
long_bytes x = x % 256 ∷ x / 256 % 256 ∷ x / 65536 % 256 ∷ x / 16777216 ∷ []

-- the number in two bytes from i on, and in four
abbrev pub word_at : ℕ → List ℕ → ℕ
word_at i l = byte (i + 1) l * 256 + byte i l

abbrev pub long_at : ℕ → List ℕ → ℕ
long_at i l = byte (i + 3) l * 16777216 + byte (i + 2) l * 65536 + byte (i + 1) l * 256 + byte i l

abbrev pub session_size : ℕ
session_size = 52

-- where the fields of a session stand. A new field is appended to the image, and none of these moves
abbrev pub up_at : ℕ
up_at = 0

abbrev pub address_at : ℕ
address_at = 1

abbrev pub stop_at : ℕ
stop_at = 2

abbrev pub budget_at : ℕ
budget_at = 3

abbrev pub code_at : ℕ
code_at = 7

abbrev pub a_at : ℕ
a_at = 8

abbrev pub b_at : ℕ
b_at = 12

abbrev pub step_at : ℕ
step_at = 14

abbrev pub idle_at : ℕ
idle_at = 15

abbrev pub transfers_at : ℕ
transfers_at = 19

abbrev pub failed_at : ℕ
failed_at = 23

abbrev pub found_budget_at : ℕ
found_budget_at = 24

abbrev pub carried_at : ℕ
carried_at = 28

-- the bytes of a session: what is known of the sensor, the call that waits, and what it has kept
abbrev pub driver_bytes : Driver → List ℕ
driver_bytes d = flag d.up ∷ d.address ∷ d.stop ∷ long_bytes d.budget

abbrev pub waiting_bytes : Session → List ℕ
waiting_bytes s =
    (s.code ∷ long_bytes s.a) ++ word_bytes s.b ++ (s.step ∷ long_bytes s.idle) ++ long_bytes s.transfers

abbrev pub carried_bytes : Session → List ℕ
carried_bytes s = (s.failed ∷ long_bytes s.found_budget) ++ s.carried

unfoldable pub session_bytes : Session → List ℕ
session_bytes s = driver_bytes s.driver ++ waiting_bytes s ++ carried_bytes s

-- bytes that are a session: as many, and the first of them is a flag
unfoldable pub is_session : List ℕ → Bool
is_session l = eqb (length l) session_size && leb (byte up_at l) 1

-- the session that they are
unfoldable pub session_of : List ℕ → Session
session_of l =
    record {
      driver = record { up = eqb (byte up_at l) 1; address = byte address_at l; stop = byte stop_at l; budget = long_at budget_at l };
      code = byte code_at l;
      a = long_at a_at l;
      b = word_at b_at l;
      step = byte step_at l;
      idle = long_at idle_at l;
      transfers = long_at transfers_at l;
      failed = byte failed_at l;
      found_budget = long_at found_budget_at l;
      carried = drop carried_at l;
    }

-- any bytes: those that are no session are read as a fresh one
unfoldable pub session_in : List ℕ → Session
session_in l = cond (is_session l) (session_of l) fresh_session

-- the bytes of an outcome: 255 and the transfer, or the answer's number, its values and the call's transfers
abbrev pub outcome_size : ℕ
outcome_size = 25

abbrev pub transfer_number : ℕ
transfer_number = 255

-- what is returned where no outcome was put
abbrev pub not_put : ℕ
not_put = 254

-- no answer has more values
abbrev pub most_values : ℕ
most_values = 5

-- so many numbers in four bytes each: zeros where there are no more
abbrev pub longs_bytes : ℕ → List ℕ → List ℕ
longs_bytes zero xs = []
longs_bytes (suc n) [] = long_bytes 0 ++ longs_bytes n []
longs_bytes (suc n) (x ∷ xs) = long_bytes x ++ longs_bytes n xs

-- a transfer is followed by 14 zeros
unfoldable pub transfer_bytes : Transfer → List ℕ
transfer_bytes t = (transfer_number ∷ t.address ∷ t.count ∷ t.written) ++ (t.reads ∷ replicate 14 0)

unfoldable pub answer_bytes : ℕ → List ℕ → ℕ → List ℕ
answer_bytes number values transfers = (number ∷ longs_bytes most_values values) ++ long_bytes transfers

-- a refusal has no value, and no call made transfers for it
abbrev pub refusal_bytes : Answer → List ℕ
refusal_bytes x = answer_bytes (number_of x) [] 0

unfoldable pub given_bytes : Given → List ℕ
given_bytes (Given.Sent t) = transfer_bytes t
given_bytes (Given.Answered x n) = answer_bytes (number_of x) (values_of x) n
given_bytes (Given.Refused x) = refusal_bytes x
given_bytes Given.IllFormed = refusal_bytes Answer.IllFormedSession

abbrev pub outcome_bytes : Outcome → List ℕ
outcome_bytes o = given_bytes o.given

-- what stands in lent bytes after it was put there: they stay as they were where they are not as many
abbrev pub placed : ℕ → List ℕ → List ℕ → List ℕ
placed size was image = cond (eqb (length was) size) image was

-- the number of an outcome, or that it was not put
abbrev pub placed_number : List ℕ → List ℕ → ℕ
placed_number was image = cond (eqb (length was) outcome_size) (byte 0 image) not_put
