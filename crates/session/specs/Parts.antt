-- What a waiting session carries, in parts, and tables by call and step: what is needed of it, what the course looks at, what is sent, what is kept.
-- SCOPE 2.2: while a call waits the session carries its arguments and, raw, the reply bytes that are still needed. The tables are the claim's own,
-- and not the machine's.
use Rattle.std.specs.Prelude.{Bool, ◌||◌, ◌&&◌, cond, eqb, leb, List, [], ◌∷◌, ◌++◌, ℕ, zero, suc, ◌+◌}
use Rattle.std.proofs.lemmas.List.Edits.{sets}
use Rattle.session.specs.Bus.{byte}
use Rattle.session.specs.Instructions.{bytes_from}
use Rattle.session.specs.Machine.{Session}

-- a part of what a session carries
pub data Part : Type 0 where
  -- the byte in a slot
  byte_in : ℕ → Part
  -- a byte of the range word, which counts where its read did not fail
  range_byte_in : ℕ → Part
  failure_code budget_found argument_a argument_b : Part

abbrev pub part_of : Part → Session → ℕ
part_of (byte_in i) s = byte i s.carried
part_of (range_byte_in i) s = cond (eqb s.failed 0) (byte i s.carried) 0
part_of failure_code s = s.failed
part_of budget_found s = s.found_budget
part_of argument_a s = s.a
part_of argument_b s = s.b

abbrev pub bytes_in : ℕ → ℕ → List Part
bytes_in i zero = []
bytes_in i (suc n) = byte_in i ∷ bytes_in (suc i) n

-- a call's code, a first and a last of its steps, and parts
abbrev pub Rows : Type 0
Rows = List (ℕ × ℕ × ℕ × List Part)

-- six budget reads from a step on, whose bytes are carried from slot k on: each is needed up to the last
abbrev pub budget_rows : ℕ → ℕ → ℕ → Rows
budget_rows code first k =
    (code, first + 1, first + 5, bytes_in k 1)
    ∷ (code, first + 2, first + 5, bytes_in (k + 1) 2)
    ∷ (code, first + 3, first + 5, bytes_in (k + 3) 2)
    ∷ (code, first + 4, first + 5, bytes_in (k + 5) 1)
    ∷ (code, first + 5, first + 5, bytes_in (k + 6) 1)
    ∷ []

-- a range word, from the step after its read to the last
abbrev pub range_row : ℕ → ℕ → ℕ × ℕ × ℕ × List Part
range_row code first = (code, first, first + 1, failure_code ∷ range_byte_in 4 ∷ range_byte_in 5 ∷ [])

-- what a reply at a step, and all that comes after it, may depend on. Slots: 1 the stop byte, 3 the byte of 0x92, 4 the range word,
-- 8 the first budget replies and the low threshold, 16 the map and then the second budget replies
unfoldable pub needed_rows : Rows
needed_rows =
    (1, 0, 155, argument_a ∷ [])
    ∷ (1, 8, 155, bytes_in 1 1)
    ∷ (1, 29, 42, bytes_in 3 1)
    ∷ (1, 38, 42, bytes_in 16 6)
    ∷ (1, 135, 155, budget_found ∷ [])
    ∷ budget_rows 1 129 8
    ++ budget_rows 1 136 16
    ++ (3, 0, 0, argument_a ∷ [])
    ∷ (4, 0, 8, argument_a ∷ [])
    ∷ range_row 6 2
    ∷ range_row 7 2
    ∷ range_row 8 11
    ∷ (9, 0, 6, argument_a ∷ [])
    ∷ budget_rows 9 0 8
    ++ (10, 0, 0, argument_b ∷ [])
    ∷ (11, 1, 1, bytes_in 8 2)
    ∷ (12, 0, 1, argument_b ∷ [])
    ∷ budget_rows 15 0 8

-- what the course of a call looks at when a reply is good: whether it goes on, and to which step, or the number of its answer
unfoldable pub course_rows : Rows
course_rows =
    (1, 135, 135, budget_found ∷ [])
    ∷ (1, 141, 141, budget_found ∷ [])
    ∷ budget_rows 1 129 8
    ++ budget_rows 1 136 16
    ++ (4, 6, 7, argument_a ∷ [])
    ∷ (6, 3, 3, failure_code ∷ [])
    ∷ (7, 3, 3, failure_code ∷ [])
    ∷ (8, 12, 12, failure_code ∷ [])
    ∷ (9, 5, 5, argument_a ∷ [])
    ∷ budget_rows 9 0 8
    ++ budget_rows 15 0 8

-- what the transfer that is out at a step is made of
unfoldable pub sent_rows : Rows
sent_rows =
    (1, 0, 155, argument_a ∷ [])
    ∷ (1, 2, 2, bytes_in 2 1)
    ∷ (1, 12, 12, bytes_in 2 1)
    ∷ (1, 20, 20, bytes_in 2 1)
    ∷ (1, 32, 32, bytes_in 2 1)
    ∷ (1, 43, 43, byte_in 3 ∷ bytes_in 16 6)
    ∷ (1, 126, 126, bytes_in 2 1)
    ∷ (1, 142, 142, budget_found ∷ bytes_in 16 8)
    ∷ (3, 0, 0, argument_a ∷ [])
    ∷ (4, 8, 9, argument_a ∷ [])
    ∷ (4, 8, 8, bytes_in 8 2)
    ∷ (9, 6, 6, argument_a ∷ bytes_in 8 8)
    ∷ (10, 0, 0, argument_a ∷ [])
    ∷ (10, 1, 1, argument_b ∷ [])
    ∷ (12, 0, 0, argument_a ∷ [])
    ∷ (12, 2, 2, argument_b ∷ bytes_in 2 1)
    ∷ (14, 0, 0, argument_a ∷ [])
    ∷ []

abbrev pub parts_at : ℕ → ℕ → Rows → List Part
parts_at code step [] = []
parts_at code step (r ∷ rs) = cond (eqb r.0 code && (leb r.1 step && leb step r.2)) (r.3 ++ parts_at code step rs) (parts_at code step rs)

abbrev pub needed : ℕ → ℕ → List Part
needed code step = parts_at code step needed_rows

abbrev pub looked_at : ℕ → ℕ → List Part
looked_at code step = parts_at code step course_rows

abbrev pub sent_from : ℕ → ℕ → List Part
sent_from code step = parts_at code step sent_rows

-- six budget reads: code, step, slot of the reply's bytes, and how many
abbrev pub budget_kept : ℕ → ℕ → ℕ → List (ℕ × ℕ × ℕ × ℕ)
budget_kept code first k =
    (code, first, k, 1)
    ∷ (code, first + 1, k + 1, 2)
    ∷ (code, first + 2, k + 3, 2)
    ∷ (code, first + 3, k + 5, 1)
    ∷ (code, first + 4, k + 6, 1)
    ∷ (code, first + 5, k + 7, 1)
    ∷ []

-- where the bytes of a good reply are kept
unfoldable pub kept_rows : List (ℕ × ℕ × ℕ × ℕ)
kept_rows =
    (1, 0, 0, 1)
    ∷ (1, 1, 2, 1)
    ∷ (1, 7, 1, 1)
    ∷ (1, 11, 2, 1)
    ∷ (1, 19, 2, 1)
    ∷ (1, 28, 3, 1)
    ∷ (1, 31, 2, 1)
    ∷ (1, 37, 16, 6)
    ∷ (1, 125, 2, 1)
    ∷ budget_kept 1 129 8
    ++ budget_kept 1 136 16
    ++ (2, 0, 0, 1)
    ∷ (4, 7, 8, 2)
    ∷ (6, 0, 2, 1)
    ∷ (6, 1, 4, 2)
    ∷ (7, 1, 4, 2)
    ∷ (8, 10, 4, 2)
    ∷ budget_kept 9 0 8
    ++ (11, 0, 8, 2)
    ∷ (11, 1, 10, 2)
    ∷ (12, 1, 2, 1)
    ∷ budget_kept 15 0 8
    ++ (16, 0, 8, 2)
    ∷ []

abbrev pub kept_at : ℕ → ℕ → List (ℕ × ℕ × ℕ × ℕ) → List ℕ → List ℕ → List ℕ
kept_at code step [] l bs = l
kept_at code step (r ∷ rs) l bs = cond (eqb r.0 code && eqb r.1 step) (sets l r.2 (bytes_from 0 r.3 bs)) (kept_at code step rs l bs)

-- the range reads
abbrev pub reads_range_at : ℕ → ℕ → Bool
reads_range_at code step = (eqb code 6 && eqb step 1) || (eqb code 7 && eqb step 1) || (eqb code 8 && eqb step 10)

-- the clearing after the range read of a call that reports the read's code
abbrev pub clears_at : ℕ → ℕ → Bool
clears_at code step = eqb code 6 && leb 2 step

-- the sixth budget read of calls 1 and 15, which finds the budget: it is kept too
abbrev pub gives_budget : ℕ → ℕ → Bool
gives_budget code step = (eqb code 1 && eqb step 134) || (eqb code 15 && eqb step 5)
