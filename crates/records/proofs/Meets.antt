-- The run of the code is the run of the definitions.
use mathlib.Core.Path.{◌≡◌, refl, ◌∙◌, ap}
use mathlib.Core.Bool.{Bool, true, false}
use mathlib.Core.List.{List, [], ◌∷◌}
use Prim.Native.Nat.{ℕ, ◌%◌}
use lib.ListN.{length}
use lib.Dec.{eqb}
use Rattle.session.specs.declared.Rules.{Rules}
use Rattle.session.specs.declared.Session.{Session}
use Rattle.session.specs.declared.Answer.{Answer}
use Rattle.session.specs.Machine.{Outcome as Result, sent, answered, refused, broken, ill_formed, fresh_session}
use Rattle.session.specs.Records.{record_of, records_of}
use Rattle.session.specs.History.{step_def, transfer, answer, refusal, Entry, stopped, taking, run_from, run_records, run_def}
use Rattle.session.proofs.Demand3.{demand_3}
use Rattle.session.specs.Given.{outcome_of}
use Rattle.std.proofs.Common.{Option, Ok, Err, cond, ◌/◌}
use Rattle.std.specs.Option.{option_map, option_and_then, ok_or}
use Rattle.std.specs.Simd.{first_chunks}
use Rattle.records.specs.declared.Counts.{Counts}
use Rattle.records.specs.declared.ListRun.{ListRun}
use Rattle.records.specs.Records.{record_in}
use Rattle.records.specs.Runs.{counts_of, list_run_of, RunsFresh, added_to, progress_of, advance, starting, going, gone, finished}
use Rattle.records.proofs.Counting.{kept, added}
use Rattle.records.proofs.Chunks.{chunks, chunked}

-- the rest of a list, from any session and history
abbrev Goes : Rules → Session → List ℕ → Type 0
Goes rules given l =
    (s : Session) (h : List Entry)
    → finished (ok_or (going rules (progress_of s (kept h)) (chunks l)) Answer.IllFormedSession) given ≡ list_run_of (run_from rules given (records_of l) s h)

shown : (rules : Rules) (given s : Session) (h : List Entry) → finished (Ok (progress_of s (kept h))) given ≡ list_run_of (run_from rules given [] s h)
unfolding finished list_run_of run_from
shown rules given s h = refl

-- a record, by what it gets, and the rest
module _ (rules : Rules) (given : Session) (k x b₂ b₃ b₄ b₅ b₆ b₇ : ℕ) (l : List ℕ) (rest : Goes rules given l) (h : List Entry) where
  -- after a record
  abbrev then : Session → Option Counts → ListRun
  then s o = finished (ok_or (option_and_then (λ q. going rules q (chunks l)) (option_map (progress_of s) o)) Answer.IllFormedSession) given

  one : (o : Result) → then (outcome_of o).session (added_to (kept h) k (outcome_of o).given) ≡ list_run_of (taking o given h (record_of k x b₂ b₃ b₄ b₅ b₆ b₇) (run_from rules given (records_of l)))
  unfolding outcome_of added_to finished list_run_of counts_of
  one (sent t s) = ap (then s) (added k x b₂ b₃ b₄ b₅ b₆ b₇ (transfer t) h) ∙ rest s _
  one (answered y n s) = ap (then s) (added k x b₂ b₃ b₄ b₅ b₆ b₇ (answer y n) h) ∙ rest s _
  one (refused y s) = ap (then s) (added k x b₂ b₃ b₄ b₅ b₆ b₇ (refusal y) h) ∙ rest s _
  one (broken s) = refl

goes : (rules : Rules) (given : Session) (l : List ℕ) → Goes rules given l
unfolding advance record_in records_of run_from
goes rules given [] s h = shown rules given s h
goes rules given (a₀ ∷ []) s h = shown rules given s h
goes rules given (a₀ ∷ a₁ ∷ []) s h = shown rules given s h
goes rules given (a₀ ∷ a₁ ∷ a₂ ∷ []) s h = shown rules given s h
goes rules given (a₀ ∷ a₁ ∷ a₂ ∷ a₃ ∷ []) s h = shown rules given s h
goes rules given (a₀ ∷ a₁ ∷ a₂ ∷ a₃ ∷ a₄ ∷ []) s h = shown rules given s h
goes rules given (a₀ ∷ a₁ ∷ a₂ ∷ a₃ ∷ a₄ ∷ a₅ ∷ []) s h = shown rules given s h
goes rules given (a₀ ∷ a₁ ∷ a₂ ∷ a₃ ∷ a₄ ∷ a₅ ∷ a₆ ∷ []) s h = shown rules given s h
goes rules given (a₀ ∷ a₁ ∷ a₂ ∷ a₃ ∷ a₄ ∷ a₅ ∷ a₆ ∷ a₇ ∷ l) s h = one rules given a₀ a₁ a₂ a₃ a₄ a₅ a₆ a₇ l (goes rules given l) h (step_def rules s (record_of a₀ a₁ a₂ a₃ a₄ a₅ a₆ a₇))

-- the whole run, by its tests
pub runs : (rules : Rules) (s : Session) (l : List ℕ) → finished (gone rules s l) s ≡ list_run_of (run_def rules s l)
unfolding gone run_def run_records finished list_run_of counts_of
runs rules s l = at (eqb (length l % 8) 0) (ill_formed rules s)
  where
    at : (w i : Bool)
        → finished (cond w (cond i (Err Answer.IllFormedSession) (ok_or (going rules (starting s) (first_chunks 8 (length l / 8) l)) Answer.IllFormedSession)) (Err Answer.SpareBytes)) s
        ≡ list_run_of (cond w (cond i (stopped Answer.IllFormedSession s) (run_from rules s (records_of l) s [])) (stopped Answer.SpareBytes s))
    at true true = refl
    at true false = rw (chunked l) (goes rules s l s [])
    at false i = refl

pub fresh_run : (rules : Rules) (l : List ℕ) (s : Session) (r : ListRun) → r ≡ list_run_of (run_def rules s l) → s ≡ fresh_session → RunsFresh rules l r
fresh_run rules l s r e f = record { run = run_def rules fresh_session l; shown = rw f at e; demand_3 = demand_3 rules l }
