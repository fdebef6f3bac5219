-- Stepping through records shows what the list run does.
use mathlib.Core.Path.{◌≡◌, refl, ap, ◌∙◌}
use mathlib.Core.Bool.{Bool, true, false, cond}
use mathlib.Core.List.{List, [], ◌∷◌, ◌++◌, map}
use Prim.Native.Nat.{ℕ, ◌+◌, ◌<◌}
use native.Mathlib.Omega.{arith}
use lib.Dec.{ltb}
use lib.ListN.{length, drop, length-drop}
use Rattle.session.specs.declared.Rules.{Rules}
use Rattle.session.specs.declared.Session.{Session}
use Rattle.session.specs.declared.Answer.{Answer}
use Rattle.session.specs.Bus.{values_of}
use Rattle.session.specs.Machine.{Outcome, sent, answered, refused, broken, ill_formed, fresh_session}
use Rattle.session.specs.Records.{records_of, is_whole}
use Rattle.session.specs.History.{step_def, transfer, answer, refusal, Entry, Run, stopped, taking, run_from, run_records, run_def, got_of, session_of as left_by}
use Rattle.session.specs.Claim1.{Single, one_transfer, one_answer, one_refusal, ill_formed_session}
use Rattle.ground.proofs.Facts.{both}
use Rattle.session.proofs.Demand1.{demand_1}
use Rattle.session.proofs.Demand3.{demand_3}
use Rattle.session.specs.Given.{outcome_of}
use Rattle.records.specs.Records.{record_in}
use Rattle.records.proofs.Chunks.{chunks, chunked, records_chunked}
use Rattle.layout.specs.Layout.{outcome_size, most_values, budget_at, a_at, b_at, idle_at, transfers_at, found_budget_at, long_at, session_bytes, is_session, session_of, session_in, transfer_bytes, answer_bytes, given_bytes, outcome_bytes}
use Rattle.layout.specs.RoundTrip.{Fits, are_bytes}
use Rattle.layout.proofs.Images.{sized, longs_length}
use Rattle.layout.proofs.RoundTrip.{round_trip, below}
use Rattle.vl53l0x.specs.Exports.{met, step_outcome, step_session}
use Rattle.vl53l0x.specs.Stepping.{Lent, stepped, session_left, outcomes_left, records_in, got_bytes, outcomes_of, Shows, FreshSteps, AnySteps}
use Rattle.vl53l0x.proofs.Fitting.{step_fits}

-- records of eight bytes
abbrev Eights : List (List ℕ) → Type 0
Eights [] = Unit {0}
Eights (r ∷ rs) = (length r ≡ 8) × (are_bytes r ≡ true) × Eights rs

split : (a b : List ℕ) → are_bytes (a ++ b) ≡ true → (are_bytes a ≡ true) × (are_bytes b ≡ true)
split [] b h = (refl, h)
split (x ∷ a) b h =
    let q = both (ltb x 256) (are_bytes (a ++ b)) h in
    let t = split a b q.1 in
    (rw (q.0, t.0) refl, t.1)

eights : (l : List ℕ) → are_bytes l ≡ true → Eights (chunks l)
eights [] h = tt
eights (a ∷ []) h = tt
eights (a ∷ b ∷ []) h = tt
eights (a ∷ b ∷ c ∷ []) h = tt
eights (a ∷ b ∷ c ∷ d ∷ []) h = tt
eights (a ∷ b ∷ c ∷ d ∷ e ∷ []) h = tt
eights (a ∷ b ∷ c ∷ d ∷ e ∷ f ∷ []) h = tt
eights (a ∷ b ∷ c ∷ d ∷ e ∷ f ∷ g ∷ []) h = tt
eights (a ∷ b ∷ c ∷ d ∷ e ∷ f ∷ g ∷ k ∷ l) h =
    let q = split (a ∷ b ∷ c ∷ d ∷ e ∷ f ∷ g ∷ k ∷ []) l h in
    (refl, q.0, eights l q.1)

-- the bytes of an outcome are what its record got, and as many as an outcome has
got_is : (o : Outcome) → outcome_bytes (outcome_of o) ≡ got_bytes (got_of o)
unfolding outcome_of given_bytes
got_is (sent t s) = refl
got_is (answered x n s) = refl
got_is (refused x s) = refl
got_is (broken s) = refl

all_there : (s : Session) (o : Outcome) → Single Rules.Current s o → length (got_bytes (got_of o)) ≡ outcome_size
unfolding transfer_bytes answer_bytes
all_there s _ (one_transfer t s' bus to is) = simp lib.ListN.length-append (rw bus.room refl)
all_there s _ (one_answer x n s' most r) = simp lib.ListN.length-append (rw (longs_length most_values (values_of x)) refl)
all_there s _ (one_refusal x low high) = refl
all_there s _ ill_formed_session = refl

left_is : (o : Outcome) → (outcome_of o).session ≡ left_by o
unfolding outcome_of
left_is (sent t s) = refl
left_is (answered x n s) = refl
left_is (refused x s) = refl
left_is (broken s) = refl

-- one step, from a session's bytes
module _ (s : Session) (fits : Fits s) (out r : List ℕ) (room : length out ≡ outcome_size) (eight : length r ≡ 8) where
  read : session_of (session_bytes s) ≡ s
  unfolding session_in
  read = rw (round_trip.is_a_session s fits) at (round_trip.read_back s fits)

  one_session : step_session (session_bytes s) r out ≡ session_bytes (left_by (step_def Rules.Current s (record_in r)))
  unfolding step_session met
  one_session = rw (room, eight, round_trip.is_a_session s fits, read) (ap session_bytes (left_is (step_def Rules.Current s (record_in r))))

  one_outcome : step_outcome (session_bytes s) r ≡ got_bytes (got_of (step_def Rules.Current s (record_in r)))
  unfolding step_outcome met
  one_outcome = rw (eight, round_trip.is_a_session s fits, read) (got_is (step_def Rules.Current s (record_in r)))

  one_step : stepped (record { session = session_bytes s; outcome = out }) r
      ≡ record { session = session_bytes (left_by (step_def Rules.Current s (record_in r))); outcome = got_bytes (got_of (step_def Rules.Current s (record_in r))) }
  one_step = rw (one_session, one_outcome, room) refl

-- the rest of a list, from any session and history, where no record meets an ill-formed session
record Along (run : Run) (l : Lent) (rs : List (List ℕ)) (h : List Entry) : Type 0 where
  session : session_left l rs ≡ session_bytes run.session
  outcomes : outcomes_of h (outcomes_left l rs) ≡ outcomes_of run.history []

-- what one record leaves of what was lent
abbrev lent_by : Outcome → Lent
lent_by o = record { session = session_bytes (left_by o); outcome = got_bytes (got_of o) }

abbrev Onward : Session → List (List ℕ) → Type 0
Onward given rs =
    (s : Session) (h : List Entry) (out : List ℕ) → Fits s → length out ≡ outcome_size
    → (run_from Rules.Current given (map record_in rs) s h).answer ≡ Answer.Done 0
    → Along (run_from Rules.Current given (map record_in rs) s h) (record { session = session_bytes s; outcome = out }) rs h

along : (given : Session) (rs : List (List ℕ)) → Eights rs → Onward given rs
unfolding run_from
along given [] e s h out fits room done = record { session = refl; outcomes = refl }
along given (r ∷ rs) e s h out fits room done =
    let o = step_def Rules.Current s (record_in r) in
    let q = one_step s fits out r room e.0 in
    let n = go o (step_fits s r fits e.1) (all_there s o (demand_1 Rules.Current s (record_in r)).single) done (along given rs e.2) in
    record {
      session = ap (λ (l : Lent). session_left l rs) q ∙ n.session;
      outcomes = ap (λ (l : Lent). outcomes_of h (l.outcome ∷ outcomes_left l rs)) q ∙ n.outcomes;
    }
  where
    go : (o : Outcome) → Fits (left_by o) → length (got_bytes (got_of o)) ≡ outcome_size
        → (taking o given h (record_in r) (run_from Rules.Current given (map record_in rs))).answer ≡ Answer.Done 0
        → Onward given rs
        → Along (taking o given h (record_in r) (run_from Rules.Current given (map record_in rs))) (lent_by o) rs (record { what = record_in r; got = got_of o } ∷ h)
    go (sent t s') f n d k = k s' (record { what = record_in r; got = transfer t } ∷ h) (got_bytes (transfer t)) f n d
    go (answered x m s') f n d k = k s' (record { what = record_in r; got = answer x m } ∷ h) (got_bytes (answer x m)) f n d
    go (refused x s') f n d k = k s' (record { what = record_in r; got = refusal x } ∷ h) (got_bytes (refusal x)) f n d
    go (broken s') f n d k = cc

-- the whole run, from any session whose numbers fit
from_session : (s : Session) (out bytes : List ℕ) → Fits s → length out ≡ outcome_size → is_whole bytes ≡ true → are_bytes bytes ≡ true
    → (run_def Rules.Current s bytes).answer ≡ Answer.Done 0 → Shows (run_def Rules.Current s bytes) (record { session = session_bytes s; outcome = out }) bytes
unfolding run_def run_records
from_session s out bytes fits room whole are done = rw whole (by_test (ill_formed Rules.Current s) (rw whole at done))
  where
    by_test : (t : Bool) → (cond t (stopped Answer.IllFormedSession s) (run_from Rules.Current s (records_of bytes) s [])).answer ≡ Answer.Done 0
        → Shows (cond t (stopped Answer.IllFormedSession s) (run_from Rules.Current s (records_of bytes) s [])) (record { session = session_bytes s; outcome = out }) bytes
    by_test true d = cc
    by_test false d =
        let e = records_chunked bytes in
        let a = along s (records_in bytes) (rw (chunked bytes) (eights bytes are)) s [] out fits room (rw e d) in
        record { session = a.session ∙ ap (λ rs. session_bytes (run_from Rules.Current s rs s []).session) e; outcomes = a.outcomes ∙ ap (λ rs. outcomes_of (run_from Rules.Current s rs s []).history []) e }

-- bytes that are a session have numbers that fit
read_fits : (l : List ℕ) → is_session l ≡ true → are_bytes l ≡ true → Fits (session_of l)
unfolding session_of
read_fits l is are =
    record {
      budget = long budget_at;
      a = long a_at;
      b = omega (arith, below l b_at are, below l (b_at + 1) are);
      idle = long idle_at;
      transfers = long transfers_at;
      found_budget = long found_budget_at;
      carried = rw length-drop (omega (arith, sized l is));
    }
  where
    long : (i : ℕ) → long_at i l < 4294967296
    long i = omega (arith, below l i are, below l (i + 1) are, below l (i + 2) are, below l (i + 3) are)

pub any_steps : AnySteps
unfolding session_in
any_steps l bytes h is are done =
    let e : session_bytes (session_of l.session) ≡ l.session = rw is at (round_trip.write_back l.session are is) in
    rw e at (from_session (session_of l.session) l.outcome bytes (read_fits l.session is are) h.outcome_room h.records_whole h.records_are_bytes done)

fresh_fits : Fits fresh_session
fresh_fits =
    record { budget = omega arith; a = omega arith; b = omega arith; idle = omega arith; transfers = omega arith; found_budget = omega arith; carried = refl }

pub fresh_steps : FreshSteps
fresh_steps l bytes h =
    let d = demand_3 Rules.Current bytes in
    record {
      shows = rw h.session_room (from_session fresh_session l.outcome bytes fresh_fits h.outcome_room h.records_whole h.records_are_bytes (rw h.records_whole at d.beyond.answer));
      demand_3 = d;
    }
