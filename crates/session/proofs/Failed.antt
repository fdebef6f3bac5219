-- A failed reply ends its call, except a failed range read, in every waiting session.
use mathlib.Core.Path.{◌≡◌, refl, sym, ap, ◌∙◌}
use mathlib.Core.Bool.{Bool, true, false, not, ◌&&◌, cond}
use mathlib.Core.List.{List, [], ◌∷◌}
use Prim.Native.Nat.{ℕ, zero, suc, ◌+◌}
use lib.Dec.{eqb, leb}
use lib.ListN.{drop}
use Rattle.session.specs.declared.Rules.{Rules}
use Rattle.session.specs.Bus.{Answer, Transfer, bad}
use Rattle.session.specs.Instructions.{Context, Final, success, failure, Op, write, read, wait, range, send_of, report_of}
use Rattle.session.specs.Steps.{op_of}
use Rattle.session.specs.Calls.{tuning, programs, ops_of, program_of}
use Rattle.session.specs.Machine.{Session, Outcome, sent, answered, refused, broken, resting, context_of, kept_of, sending, conclude, enter, arrive, react, stray}
use Rattle.session.specs.Records.{reply}
use Rattle.session.specs.History.{step_def}
use Rattle.session.specs.Claim3.{reports_read, reported}
use Rattle.session.specs.Parts.{reads_range_at}
use Rattle.session.specs.AnySession.{failure_reported, fields_left, FailureEnds, GivenUp}
use Rattle.ground.proofs.Facts.{both, clash, untrue}
use Rattle.session.proofs.Table.{of_test}
use Rattle.session.proofs.Refused.{sound_of}
use Rattle.session.proofs.Shape.{is_range, over_of, same_bool, same_bool_lem}
use Rattle.session.proofs.Cut.{stray_is}
use Rattle.session.proofs.Pairs.{StepTest, walk, walk_at, instruction_there, met_at}
use Rattle.session.proofs.React.{report_is}

abbrev is_write : Op → Bool
is_write (write reg bytes len over after) = true
is_write (read reg len slot finds over after) = false
is_write (wait w) = false
is_write (range reg len slot over) = false

-- the range reads are where the claim says, and of call 6 all that is written comes after its own
abbrev failed_ok : ℕ → StepTest
failed_ok code k i is = same_bool (reads_range_at code k) (is_range (op_of i)) && same_bool (eqb code 6 && leb 2 k) (eqb code 6 && is_write (op_of i))

all_ok : (rules : Rules) (code : ℕ) → walk (failed_ok code) 0 (program_of rules code).steps ≡ true
unfolding programs tuning
all_ok rules = of_test rules (λ k p. walk (failed_ok k) 0 p.steps) (λ k. refl) refl

-- what a write, and what a read, reports
written : (b : Bool) (code failed e : ℕ) → eqb code 6 ≡ b → report_of b failed (suc e) ≡ cond (b && true) (reported code failed (suc e)) (suc e)
written true code failed e h = ap (λ t. report_of t failed (suc e)) (sym h) ∙ report_is code failed (suc e)
written false code failed e h = refl

unwritten : (b : Bool) (x y : ℕ) → y ≡ cond (b && false) x y
unwritten true x y = refl
unwritten false x y = refl

pub failure_ends : (rules : Rules) (s : Session) (f : ℕ) (bs : List ℕ) → FailureEnds rules s f bs
failure_ends rules s zero bs u h z r = absurd (h refl)
failure_ends rules s (suc e) bs u h z r =
    instruction_there rules s (sound_of rules s u).1 (λ i is at.
    let t = both (same_bool (reads_range_at s.code s.step) (is_range (op_of i))) _ (walk_at (failed_ok s.code) (program_of rules s.code).steps s.step i is (all_ok rules s.code) at) in
    let n : stray (send_of (op_of i) (context_of s)) (suc e) bs ≡ false = stray_is (send_of (op_of i) (context_of s)) (suc e) bs ∙ ap not z in
    met_at rules s s.code s.step i is (suc e) bs refl refl u at
    ∙ rw n (go (op_of i) (sym r ∙ same_bool_lem _ _ t.0) (same_bool_lem _ _ t.1)))
  where
    ends : ℕ → Outcome
    ends x = answered (Answer.BusError x) s.transfers (resting (fields_left s))

    go : (op : Op) → false ≡ is_range op → eqb s.code 6 && leb 2 s.step ≡ eqb s.code 6 && is_write op
        → react op (program_of rules s.code) s (bad e) ≡ ends (failure_reported s (suc e))
    go (write reg bytes len over after) q w =
        ap ends (written (eqb s.code 6) s.code s.failed e refl ∙ ap (λ b. cond b (reported s.code s.failed (suc e)) (suc e)) (sym w))
    go (read reg len slot finds over after) q w = ap ends (unwritten (eqb s.code 6) (reported s.code s.failed (suc e)) (suc e) ∙ ap (λ b. cond b (reported s.code s.failed (suc e)) (suc e)) (sym w))
    go (wait x) q w = ap ends (unwritten (eqb s.code 6) (reported s.code s.failed (suc e)) (suc e) ∙ ap (λ b. cond b (reported s.code s.failed (suc e)) (suc e)) (sym w))
    go (range reg len slot over) q w = untrue q

-- no range read comes after a failed range read
abbrev after_ok : ℕ → StepTest
after_ok code k i is = not (reads_range_at code k && reads_range_at code (suc k + over_of (op_of i)))

none_follows : (rules : Rules) (code : ℕ) → walk (after_ok code) 0 (program_of rules code).steps ≡ true
unfolding programs tuning
none_follows rules = of_test rules (λ k p. walk (after_ok k) 0 p.steps) (λ k. refl) refl

not_both : (b : Bool) → not (true && b) ≡ true → b ≡ false
not_both true h = untrue h
not_both false h = refl

abbrev after : Outcome → Session → Session
after (sent t s) d = s
after (answered x n s) d = d
after (refused x s) d = d
after (broken s) d = d

-- what is out after a failed range read
next_out : (fin : Context → Final) (l : List Op) (k : ℕ) (s s' : Session) (t : Transfer) → enter fin l k s ≡ sent t s' → s' ≡ sending k 0 s
next_out fin [] k s s' t h = concludes (fin (context_of s)) h
  where
    concludes : (v : Final) → conclude v s ≡ sent t s' → s' ≡ sending k 0 s
    concludes (success v d) h = clash cc
    concludes (failure e) h = clash cc
next_out fin (op ∷ ops) k s s' t h = ap (λ o. after o s) (sym h)

one_code : (b : Bool) (code f : ℕ) → cond b (reported code f f) f ≡ f
one_code true code zero = refl
one_code true code (suc f) = same (reports_read code)
  where
    same : (c : Bool) → cond c (suc f) (suc f) ≡ suc f
    same true = refl
    same false = refl
one_code false code f = refl

pub given_up : (rules : Rules) (s : Session) (f : ℕ) (bs bs' : List ℕ) → GivenUp rules s f bs bs'
unfolding arrive
given_up rules s zero bs bs' t s' u h z z' e u' = absurd (h refl)
given_up rules s (suc c) bs bs' t s' u h z z' e u' = go (reads_range_at s.code s.step) refl
  where
    ends : Session → ℕ → Outcome
    ends s x = answered (Answer.BusError x) s.transfers (resting (fields_left s))

    reached : (op : Op) → true ≡ is_range op → react op (program_of rules s.code) s (bad c) ≡ sent t s'
        → (s'.code ≡ s.code) × (s'.step ≡ suc s.step + over_of op) × (s'.failed ≡ suc c)
    reached (write reg bytes len over after) q e = untrue (sym q)
    reached (read reg len slot finds over after) q e = untrue (sym q)
    reached (wait w) q e = untrue (sym q)
    reached (range reg len slot over) q e =
        let k : ℕ = suc s.step + over in
        let u : Session = kept_of s (range reg len slot over) (bad c) in
        let at : s' ≡ sending k 0 u = next_out (program_of rules s.code).final (drop k (ops_of (program_of rules s.code))) k u s' t e in
        (ap (λ (x : Session). x.code) at, ap (λ (x : Session). x.step) at, ap (λ (x : Session). x.failed) at)

    ended : (k : ℕ) → (s'.code ≡ s.code) × (s'.step ≡ k) × (s'.failed ≡ suc c) → reads_range_at s.code k ≡ false → step_def rules s' (reply (suc c) bs') ≡ ends s' (suc c)
    ended k e r =
        let e' : reads_range_at s'.code s'.step ≡ false = rw (e.0, e.1) r in
        failure_ends rules s' (suc c) bs' u' h z' e'
        ∙ ap (ends s') (ap (λ (n : ℕ). cond (eqb s'.code 6 && leb 2 s'.step) (reported s'.code n (suc c)) (suc c)) e.2 ∙ one_code (eqb s'.code 6 && leb 2 s'.step) s'.code (suc c))

    go : (b : Bool) → reads_range_at s.code s.step ≡ b → step_def rules s' (reply (suc c) bs') ≡ ends s' (suc c)
    go false r = clash (cc (failure_ends rules s (suc c) bs u h z r, e))
    go true r =
        instruction_there rules s (sound_of rules s u).1 (λ i is at.
        let q = both (same_bool (reads_range_at s.code s.step) (is_range (op_of i))) _ (walk_at (failed_ok s.code) (program_of rules s.code).steps s.step i is (all_ok rules s.code) at) in
        let n : stray (send_of (op_of i) (context_of s)) (suc c) bs ≡ false = stray_is (send_of (op_of i) (context_of s)) (suc c) bs ∙ ap not z in
        let l : not (reads_range_at s.code s.step && reads_range_at s.code (suc s.step + over_of (op_of i))) ≡ true = walk_at (after_ok s.code) (program_of rules s.code).steps s.step i is (none_follows rules s.code) at in
        ended (suc s.step + over_of (op_of i)) (reached (op_of i) (sym r ∙ same_bool_lem _ _ q.0) (rw n at (sym (met_at rules s s.code s.step i is (suc c) bs refl refl u at) ∙ e))) (not_both _ (rw r at l)))
