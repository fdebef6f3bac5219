-- One record gives one transfer, one answer or one refusal, and a refusal keeps the session.
use mathlib.Core.Path.{◌≡◌, refl, sym, ap}
use mathlib.Core.Bool.{not}
use mathlib.Core.List.{List, [], ◌∷◌}
use Prim.Native.Nat.{ℕ, suc, ◌+◌, ◌≤◌}
use native.Mathlib.Bridge.{le_by_compare, IsLe}
use lib.Dec.{ltb}
use lib.ListN.{drop, length}
use Rattle.session.specs.declared.Rules.{Rules}
use Rattle.session.specs.Bus.{Answer, Reply, bad, good, wait_limit, idle_on, number_of}
use Rattle.session.specs.Instructions.{Stop, declines, wrong_device, wrong_address, wrong_argument, unready, panics, stop_answer, Verdict, onward, leap, stop, test, Op, write, read, wait, range, Final, success, failure, send_of, read_wins, report_of}
use Rattle.session.specs.Steps.{slot}
use Rattle.session.specs.Calls.{ops_of, program_of, arguments_ok}
use Rattle.session.specs.Machine.{Session, context_of, kept_of, sending, giving, conclude, enter, arrive, decide, react, to_reply, stray, on_ops, first_transfer_out, waits_now, ill_formed, reply_def, begun, not_up, begin_def, other_def}
use Rattle.session.specs.Records.{Record, call, reply, other}
use Rattle.session.specs.History.{step_def}
use Rattle.session.specs.Claim1.{Single, one_transfer, one_answer, one_refusal, ill_formed_session}
use Rattle.ground.proofs.Facts.{cond_case}
use Rattle.session.proofs.Sized.{sent_to, on_the_bus}

-- the answers that end a call
stop_answers : (x : Stop) → number_of (stop_answer x) ≤ 8
unfolding IsLe
stop_answers declines = le_by_compare _ _ tt
stop_answers (wrong_device b) = le_by_compare _ _ tt
stop_answers (wrong_address a) = le_by_compare _ _ tt
stop_answers wrong_argument = le_by_compare _ _ tt
stop_answers unready = le_by_compare _ _ tt
stop_answers (panics p) = le_by_compare _ _ tt

module _ (rules : Rules) (s : Session) where
  gives : (x : Answer) (t : Session) → number_of x ≤ 8 → Single rules s (giving x t)
  gives x t h = one_answer x t.transfers _ h refl

  fails : (e : ℕ) (t : Session) → Single rules s (giving (Answer.BusError e) t)
  unfolding IsLe
  fails e t = gives (Answer.BusError e) t (le_by_compare _ _ tt)

  concludes : (f : Final) (t : Session) → Single rules s (conclude f t)
  unfolding IsLe
  concludes (success v d) t = one_answer (Answer.Done v) t.transfers _ (le_by_compare _ _ tt) refl
  concludes (failure e) t = fails e t

  arrives : (k : ℕ) (t : Session) → Single rules s (arrive (program_of rules t.code) k t)
  unfolding arrive
  arrives k t = go (drop k (ops_of (program_of rules t.code))) refl
    where
      go : (l : List Op) → drop k (ops_of (program_of rules t.code)) ≡ l → Single rules s (enter (program_of rules t.code).final l k t)
      go [] e = concludes ((program_of rules t.code).final (context_of t)) t
      go (op ∷ rest) e = one_transfer _ (sending k 0 t) (on_the_bus rules t.code k op rest (context_of t) e) (sent_to op (context_of t)) (ap (λ l. first_transfer_out l (context_of t)) (sym e))

  decides : (v : Verdict) (over k : ℕ) (t : Session) → Single rules s (decide v (program_of rules t.code) over k t)
  decides onward over k t = arrives k t
  decides leap over k t = arrives (k + over) t
  decides (stop x) over k t = gives (stop_answer x) t (stop_answers x)
  decides (test b v w) over k t = cond_case (Single rules s) b (λ e. decides v over k t) (λ e. decides w over k t)

  reacts : (op : Op) (rest : List Op) (t : Session) (r : Reply) → drop t.step (ops_of (program_of rules t.code)) ≡ op ∷ rest → Single rules s (react op (program_of rules t.code) t r)
  unfolding IsLe
  reacts (write reg bytes len over after) rest t (bad e) at = fails (report_of (read_wins t.code) t.failed (suc e)) t
  reacts (write reg bytes len over after) rest t (good bs) at = decides (after (context_of t)) over (suc t.step) t
  reacts (read reg len slot finds over after) rest t (bad e) at = fails (suc e) t
  reacts (read reg len slot finds over after) rest t (good bs) at =
      decides (after (context_of (kept_of t (read reg len slot finds over after) (good bs)))) over (suc t.step) (kept_of t (read reg len slot finds over after) (good bs))
  reacts (wait w) rest t (bad e) at = fails (suc e) t
  reacts (wait w) rest t (good bs) at =
      cond_case (Single rules s) (idle_on w bs)
      (λ e. cond_case (Single rules s) (ltb (suc t.idle) (wait_limit t.code w))
      (λ h. one_transfer _ (sending t.step (suc t.idle) t) (on_the_bus rules t.code t.step (wait w) rest (context_of t) at) refl (ap (λ l. first_transfer_out l (context_of t)) (sym at)))
      (λ h. gives Answer.Timeout t (le_by_compare _ _ tt)))
      (λ e. arrives (suc t.step) t)
  reacts (range reg len slot over) rest t (bad e) at = arrives (suc t.step + over) (kept_of t (range reg len slot over) (bad e))
  reacts (range reg len slot over) rest t (good bs) at = arrives (suc t.step) (kept_of t (range reg len slot over) (good bs))

  pub single : (r : Record) → Single rules s (step_def rules s r)
  unfolding step_def begin_def reply_def other_def IsLe
  single (call code a b) =
      cond_case (Single rules s) (ill_formed rules s) (λ e. ill_formed_session)
      (λ e. cond_case (Single rules s) (not (arguments_ok rules code a b)) (λ e₁. one_refusal Answer.IllFormedRecord (le_by_compare _ _ tt) (le_by_compare _ _ tt))
      (λ e₁. cond_case (Single rules s) (waits_now s) (λ e₂. one_refusal Answer.CallWaits (le_by_compare _ _ tt) (le_by_compare _ _ tt))
      (λ e₂. cond_case (Single rules s) (not_up code s.driver.up) (λ e₃. one_refusal Answer.NotUp (le_by_compare _ _ tt) (le_by_compare _ _ tt))
      (λ e₃. decides ((program_of rules code).entry (context_of (begun s code a b))) (length (program_of rules code).steps) 0 (begun s code a b)))))
  single (reply f bs) =
      cond_case (Single rules s) (ill_formed rules s) (λ e. ill_formed_session)
      (λ e. cond_case (Single rules s) (not (waits_now s)) (λ e₁. one_refusal Answer.NoCallWaits (le_by_compare _ _ tt) (le_by_compare _ _ tt))
      (λ e₁. go (drop s.step (ops_of (program_of rules s.code))) refl))
    where
      go : (l : List Op) → drop s.step (ops_of (program_of rules s.code)) ≡ l → Single rules s (on_ops l (program_of rules s.code) s f bs)
      go [] e = ill_formed_session
      go (op ∷ rest) e =
          cond_case (Single rules s) (stray (send_of op (context_of s)) f bs) (λ h. one_refusal Answer.StrayByte (le_by_compare _ _ tt) (le_by_compare _ _ tt))
          (λ h. reacts op rest s (to_reply f bs) e)
  single other = cond_case (Single rules s) (ill_formed rules s) (λ e. ill_formed_session) (λ e. one_refusal Answer.IllFormedRecord (le_by_compare _ _ tt) (le_by_compare _ _ tt))
