-- A refusal changes no byte of the session: it keeps the session, and a session that was read is written back as its bytes.
use mathlib.Core.Path.{◌≡◌, refl, sym, ap, ◌∙◌}
use mathlib.Core.Bool.{Bool, true, false, cond}
use mathlib.Core.List.{List}
use Prim.Native.Nat.{ℕ, ◌≤◌}
use native.Mathlib.Omega.{arith}
use lib.Dec.{eqb}
use lib.ListN.{length}
use Rattle.session.specs.declared.Rules.{Rules}
use Rattle.session.specs.declared.Answer.{Answer}
use Rattle.session.specs.declared.Session.{Session}
use Rattle.session.specs.Bus.{byte}
use Rattle.session.specs.Claim1.{Single, one_transfer, one_answer, one_refusal, ill_formed_session}
use Rattle.session.specs.Machine.{Outcome as Result}
use Rattle.session.specs.History.{step_def}
use Rattle.session.proofs.Demand1.{demand_1}
use Rattle.session.specs.Given.{outcome_of}
use Rattle.records.specs.Records.{record_in}
use Rattle.layout.specs.Layout.{outcome_size, session_bytes, is_session, session_of, session_in, transfer_bytes, answer_bytes, refusal_bytes, given_bytes, outcome_bytes}
use Rattle.layout.specs.RoundTrip.{are_bytes}
use Rattle.layout.proofs.RoundTrip.{round_trip}
use Rattle.vl53l0x.specs.Exports.{met, step_outcome, step_session, RefusalKeeps}

-- what is neither a transfer nor an answer of a call leaves the session
kept : (s : Session) (o : Result) → Single Rules.Current s o → 9 ≤ byte 0 (outcome_bytes (outcome_of o)) → byte 0 (outcome_bytes (outcome_of o)) ≤ 15 → (outcome_of o).session ≡ s
unfolding outcome_of given_bytes transfer_bytes answer_bytes
kept s _ (one_transfer t s' _ _ _) low high = absurd (omega (arith, high))
kept s _ (one_answer x n s' most _) low high = absurd (omega (arith, low, most))
kept s _ (one_refusal x _ _) low high = refl
kept s _ ill_formed_session low high = refl

back : (session : List ℕ) → are_bytes session ≡ true → is_session session ≡ true → session_bytes (session_of session) ≡ session
unfolding session_in
back session are is = ap session_bytes (sym (rw is refl)) ∙ round_trip.write_back session are is

-- by the tests that the outcome and the session are picked with
pub refusal_keeps : RefusalKeeps
unfolding step_outcome step_session met
refusal_keeps session bytes outcome are =
    by_tests (is_session session) (λ e. e) (eqb (length bytes) 8) (eqb (length outcome) outcome_size)
  where
    by_tests : (t : Bool) → (t ≡ true → is_session session ≡ true) → (p q : Bool)
        → 9 ≤ byte 0 (cond p (cond t (outcome_bytes (outcome_of (step_def Rules.Current (session_of session) (record_in bytes)))) (refusal_bytes Answer.IllFormedSession)) (refusal_bytes Answer.SpareBytes))
        → byte 0 (cond p (cond t (outcome_bytes (outcome_of (step_def Rules.Current (session_of session) (record_in bytes)))) (refusal_bytes Answer.IllFormedSession)) (refusal_bytes Answer.SpareBytes)) ≤ 15
        → cond q (cond p (cond t (session_bytes (outcome_of (step_def Rules.Current (session_of session) (record_in bytes))).session) session) session) session ≡ session
    by_tests true is true true low high =
        ap session_bytes (kept (session_of session) (step_def Rules.Current (session_of session) (record_in bytes)) (demand_1 Rules.Current (session_of session) (record_in bytes)).single low high)
        ∙ back session are (is refl)
    by_tests true is true false low high = refl
    by_tests true is false true low high = refl
    by_tests true is false false low high = refl
    by_tests false is true true low high = refl
    by_tests false is true false low high = refl
    by_tests false is false true low high = refl
    by_tests false is false false low high = refl
