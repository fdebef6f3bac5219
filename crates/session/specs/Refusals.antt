-- The refusals of SCOPE 9.1 and SCOPE 9.2, in plain numbers: conditions with their answers, and the first that holds decides.
-- Its ranges, limits, lengths and ceilings are written down again here: with the machine it shares only what a session and a record are.
use Rattle.std.specs.Prelude.{◌≡◌, Bool, true, false, not, ◌||◌, ◌&&◌, cond, List, [], ◌∷◌, ◌++◌, ℕ, ◌*◌, eqb, ltb, leb}
use Rattle.std.proofs.Math.Option.{Option, some, none}
use Rattle.std.specs.Float.{binary32}
use Rattle.std.specs.Float.Ieee.{round, of_bits, le}
use Rattle.session.specs.Bus.{zero_from, clean_from}
use Rattle.session.specs.declared.Rules.{Rules}
use Rattle.session.specs.declared.Session.{Session}
use Rattle.session.specs.Records.{Record, call, reply, other}

-- a call by its code: the greatest A and B and the most transfers (SCOPE 5.1), how many steps it has, which of them are waits, each with its limit
-- (SCOPE 4.2), and which read another length than 1, each with that length
pub record Row : Type 0 where
  pub code : ℕ
  pub greatest_a : ℕ
  pub greatest_b : ℕ
  pub steps : ℕ
  pub ceiling : ℕ
  pub waits : List (ℕ × ℕ)
  pub lengths : List (ℕ × ℕ)

abbrev pub row : ℕ → ℕ → ℕ → ℕ → ℕ → List (ℕ × ℕ) → List (ℕ × ℕ) → Row
row code a b steps ceiling waits lengths =
    record { code = code; greatest_a = a; greatest_b = b; steps = steps; ceiling = ceiling; waits = waits; lengths = lengths }

unfoldable pub call_rows : List Row
call_rows =
    row 1 255 0 156 85688 ((26, 65535) ∷ (145, 10000) ∷ (151, 10000) ∷ []) ((37, 6) ∷ (43, 6) ∷ (130, 2) ∷ (131, 2) ∷ (137, 2) ∷ (138, 2) ∷ [])
    ∷ row 2 0 0 1 1 [] []
    ∷ row 3 255 0 1 1 [] ((0, 0) ∷ [])
    ∷ row 4 4294967295 0 10 10 [] ((7, 2) ∷ [])
    ∷ row 5 0 0 6 6 [] []
    ∷ row 6 0 0 4 4 [] ((1, 2) ∷ [])
    ∷ row 7 0 0 4 10003 ((0, 10000) ∷ []) ((1, 2) ∷ [])
    ∷ row 8 0 0 13 20011 ((8, 10000) ∷ (9, 10000) ∷ []) ((10, 2) ∷ [])
    ∷ row 9 4294967295 0 7 7 [] ((1, 2) ∷ (2, 2) ∷ [])
    ∷ row 10 65535 65535 2 2 [] []
    ∷ row 11 0 0 2 2 [] ((0, 2) ∷ (1, 2) ∷ [])
    ∷ row 12 3 1 5 5 [] []
    ∷ row 13 0 0 2 2 [] []
    ∷ row 14 4294967295 0 1 1 [] []
    ∷ row 15 0 0 6 6 [] ((1, 2) ∷ (2, 2) ∷ [])
    ∷ []

-- SCOPE 5.1: the calls that lib.rs does not have
abbrev pub later_rows : List Row
later_rows = row 16 0 0 1 1 [] ((0, 2) ∷ []) ∷ []

-- SCOPE 2.6: the calls that the rules have, and how often each of their transfers is made at most
abbrev pub rows_under : Rules → List Row
rows_under Rules.First = call_rows
rows_under Rules.Current = call_rows ++ later_rows

abbrev pub times_under : Rules → ℕ
times_under Rules.First = 1
times_under Rules.Current = 1

-- SCOPE 5.1; a code without a row is no call's
abbrev pub in_range : ℕ → ℕ → ℕ → List Row → Bool
in_range code a b [] = false
in_range code a b (r ∷ rs) = cond (eqb code r.code) (leb a r.greatest_a && leb b r.greatest_b) (in_range code a b rs)

abbrev pub row_of : ℕ → List Row → Row
row_of code [] = row 0 0 0 0 0 [] []
row_of code (r ∷ rs) = cond (eqb code r.code) r (row_of code rs)

-- the number beside a step, else another
abbrev pub beside : ℕ → List (ℕ × ℕ) → ℕ → ℕ
beside step [] n = n
beside step (x ∷ xs) n = cond (eqb step x.0) x.1 (beside step xs n)

-- the limit of the wait at a step, or 0 where it is no wait
abbrev pub limit_at : Row → ℕ → ℕ
limit_at r step = beside step r.waits 0

-- the read length of the transfer at a step
abbrev pub length_at : Row → ℕ → ℕ
length_at r step = beside step r.lengths 1

-- a call waits
abbrev pub busy : Session → Bool
busy s = not (eqb s.code 0)

-- idle reads: below the limit in a wait, 0 outside
abbrev pub idle_bad : ℕ → ℕ → Bool
idle_bad limit idle = cond (eqb limit 0) (not (eqb idle 0)) (leb limit idle)

-- the session itself, while a call waits
abbrev pub of_session : Rules → Session → List (Bool × ℕ)
of_session rules s =
    (busy s && not (in_range s.code s.a s.b (rows_under rules)), 15)
    ∷ (busy s && (eqb s.code 1 && s.driver.up), 15)
    ∷ (busy s && (not (eqb s.code 1) && not s.driver.up), 15)
    ∷ (busy s && leb (row_of s.code (rows_under rules)).steps s.step, 15)
    ∷ (busy s && idle_bad (limit_at (row_of s.code (rows_under rules)) s.step) s.idle, 15)
    ∷ (busy s && eqb s.transfers 0, 15)
    ∷ (busy s && ltb (times_under rules * (row_of s.code (rows_under rules)).ceiling) s.transfers, 15)
    ∷ []

-- what the record itself meets
abbrev pub for_record : Rules → Session → Record → List (Bool × ℕ)
for_record rules s (call code a b) =
    (not (in_range code a b (rows_under rules)), 13)
    ∷ (busy s, 10)
    ∷ (not (eqb code 1) && not s.driver.up, 9)
    ∷ []
for_record rules s (reply f bs) =
    (not (busy s), 11)
    ∷ (not (zero_from (clean_from f (length_at (row_of s.code (rows_under rules)) s.step)) bs), 12)
    ∷ []
for_record rules s other = (true, 13) ∷ []

abbrev pub refusals : Rules → Session → Record → List (Bool × ℕ)
refusals rules s r = of_session rules s ++ for_record rules s r

-- 0 where no condition holds: the record is accepted
abbrev pub first_match : List (Bool × ℕ) → ℕ
first_match [] = 0
first_match (x ∷ xs) = cond x.0 x.1 (first_match xs)

-- a call waits, and nothing in the table is against its session: a reply is judged by its own bytes
pub record Underway (rules : Rules) (s : Session) : Type 0 where
  pub waiting : busy s ≡ true
  pub sound : first_match (of_session rules s) ≡ 0

-- SCOPE 9.3: 5, 6 and the first 1 are answers of an accepted call that makes no transfer: condition, answer, value
abbrev pub at_once : ℕ → ℕ → ℕ → List (Bool × ℕ × ℕ)
at_once code a b =
    (eqb code 3 && (ltb a 0x08 || ltb 0x77 a), 5, a)
    ∷ (eqb code 10 && (ltb b a || (ltb 8190 a || ltb 8190 b)), 6, 0)
    ∷ (eqb code 9 && ltb a 20000, 1, 0)
    ∷ (eqb code 14 && not (le (round binary32 false 0 1) (of_bits binary32 a) && le (of_bits binary32 a) (round binary32 false 51199 100)), 1, 0)
    ∷ []

-- none where the call makes a transfer
abbrev pub first_answer : List (Bool × ℕ × ℕ) → Option (ℕ × ℕ × ℕ)
first_answer [] = none
first_answer (x ∷ xs) = cond x.0 (some (x.1, x.2, 0)) (first_answer xs)
