-- What the Rust did over a list of records, and the run of the definitions read into the same form.
use Rattle.std.specs.Prelude.{List, [], ◌∷◌, ◌++◌, map, ◌≡◌, ℕ, eqb, get_or}
use Rattle.session.specs.declared.Rules.{Rules}
use Rattle.session.specs.Bus.{bytes_of, number_of, values_of}
use Rattle.session.specs.declared.Session.{Session}
use Rattle.session.specs.Machine.{resting}
use Rattle.session.specs.History.{Got, transfer, answer, refusal, Entry, Run, run_def}

-- the driver's fields before and after: up or not, address, stop byte, budget; and each record's eight bytes with what they led to
pub record Trace : Type 0 where
  pub before : List ℕ
  pub steps : List (List ℕ × List ℕ)
  pub after : List ℕ

-- a session with these fields, in which no call waits
abbrev pub holding : List ℕ → Session
holding fields =
    resting (record { up = eqb (get_or fields 0 0) 1; address = get_or fields 1 0; stop = get_or fields 2 0; budget = get_or fields 3 0 })

abbrev pub bytes_in : List (List ℕ × List ℕ) → List ℕ
bytes_in [] = []
bytes_in (x ∷ xs) = x.0 ++ bytes_in xs

abbrev pub lines_in : List (List ℕ × List ℕ) → List (List ℕ)
lines_in [] = []
lines_in (x ∷ xs) = x.1 ∷ lines_in xs

-- a transfer: 0, address, written bytes, read length; an answer: 1, number, value, transfers of its call; a refusal: 2, number
abbrev pub line_of : Got → List ℕ
line_of (transfer t) = 0 ∷ t.address ∷ bytes_of t ++ t.reads ∷ []
line_of (answer x n) = 1 ∷ number_of x ∷ values_of x ++ n ∷ []
line_of (refusal x) = 2 ∷ number_of x ∷ []

-- a history's lines, oldest first, before others
abbrev pub lines_of : List Entry → List (List ℕ) → List (List ℕ)
lines_of [] ls = ls
lines_of (e ∷ h) ls = lines_of h (line_of e.got ∷ ls)

-- what is seen of a run
pub record Seen : Type 0 where
  pub lines : List (List ℕ)
  pub session : Session

abbrev pub seen_of : Run → Seen
seen_of r = record { lines = lines_of r.history []; session = r.session }

abbrev pub by_definitions : Rules → Trace → Seen
by_definitions rules t = seen_of (run_def rules (holding t.before) (bytes_in t.steps))

abbrev pub by_rust : Trace → Seen
by_rust t = record { lines = lines_in t.steps; session = holding t.after }

abbrev pub AgreeBy : Rules → List Trace → Type 0
AgreeBy rules ts = map (by_definitions rules) ts ≡ map by_rust ts

-- by the first rules: the traces are of lib.rs as it is
abbrev pub Agree : List Trace → Type 0
Agree ts = AgreeBy Rules.First ts
