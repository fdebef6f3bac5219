-- Every waiting session that 15 lets pass stands in the script that is left of its call, and a reply takes both one step on.
use mathlib.Core.Path.{◌≡◌, refl, sym, ap, subst, ◌∙◌}
use mathlib.Core.Bool.{Bool, true, false, not, cond}
use mathlib.Core.List.{List, [], ◌∷◌}
use Prim.Native.Nat.{ℕ, zero, suc, ◌+◌, ◌-◌, ◌≤◌, ◌<◌}
use native.Mathlib.Omega.{arith}
use borrow.Author.Tests.{leb-false, ltb-true, ltb-false}
use lib.Dec.{ltb}
use lib.ListN.{drop, length}
use lib.Seq.{drop-drop}
use Rattle.session.specs.declared.Rules.{Rules}
use Rattle.session.specs.Bus.{Answer, Reply, bad, good, zero_from, clean_from, Condition, wait_limit, idle_on}
use Rattle.session.specs.Instructions.{stop_answer, Verdict, onward, leap, stop, test, Op, write, read, wait, range, Final, success, failure, send_of, read_wins, report_of}
use Rattle.session.specs.Calls.{ops_of, program_of}
use Rattle.session.specs.Machine.{Session, Outcome, sent, context_of, kept_of, sending, giving, conclude, enter, arrive, decide, react, stray, on_ops, first_transfer_out, idle_wrong, reply_def, begun, begin_def}
use Rattle.session.specs.History.{step_def}
use Rattle.session.specs.Script.{Script, done, wait_loop, cut}
use Rattle.session.specs.AnySession.{concluded, decided, failing, resume, resume_in, left_of, hears, OneMore, StandsAt, BeginsAt, StepByStep}
use Rattle.ground.proofs.Facts.{drop_next, untrue}
use Rattle.session.proofs.Cut.{stray_is, react_cut}
use Rattle.session.proofs.Strays.{sound_step}
use Rattle.session.proofs.Refused.{sound_of}
use Rattle.session.proofs.AcceptedIff.{range_is, ready_ok}
use Rattle.session.proofs.Scripts.{resume_first, resume_skip}

-- the same call with as many transfers
pub record Alike (s t : Session) : Type 0 where
  driver : t.driver ≡ s.driver
  code : t.code ≡ s.code
  a : t.a ≡ s.a
  b : t.b ≡ s.b
  transfers : t.transfers ≡ s.transfers

pub alike : (s : Session) → Alike s s
alike s = record { driver = refl; code = refl; a = refl; b = refl; transfers = refl }

one_more : (s t : Session) (k i : ℕ) → Alike s t → OneMore s (sending k i t)
one_more s t k i q = record { driver = q.driver; code = q.code; a = q.a; b = q.b; transfers = ap (λ n. n + 1) q.transfers }

module _ (rules : Rules) (s : Session) where
  gives_stands : (x : Answer) (t : Session) → Alike s t → StandsAt rules s (giving x t) (done x (context_of t).driver)
  gives_stands x t q = (refl, q.transfers)

  concludes_stands : (f : Final) (t : Session) → Alike s t → StandsAt rules s (conclude f t) (concluded f (context_of t).driver)
  concludes_stands (success v d) t q = (refl, q.transfers)
  concludes_stands (failure e) t q = (refl, q.transfers)

  arrives_stands : (k : ℕ) (t : Session) → Alike s t
      → StandsAt rules s (arrive (program_of rules t.code) k t) (resume (program_of rules t.code).final zero (drop k (ops_of (program_of rules t.code))) (context_of t))
  unfolding arrive
  arrives_stands k t q = go (drop k (ops_of (program_of rules t.code))) refl
    where
      go : (l : List Op) → drop k (ops_of (program_of rules t.code)) ≡ l
          → StandsAt rules s (enter (program_of rules t.code).final l k t) (resume (program_of rules t.code).final zero l (context_of t))
      go [] e = concludes_stands ((program_of rules t.code).final (context_of t)) t q
      go (op ∷ rest) e = (
        sym (resume_first (program_of rules t.code).final op rest (context_of t)) ∙ ap (λ l. left_of (program_of rules t.code).final 0 l (context_of t)) (sym e),
        one_more s t k 0 q,
      )

  branch : (b : Bool) (o o' : Outcome) (x x' : Script) → StandsAt rules s o x → StandsAt rules s o' x' → StandsAt rules s (cond b o o') (cond b x x')
  branch true o o' x x' p q = p
  branch false o o' x x' p q = q

  -- over some of the instructions that are left
  leaps_stands : (over k : ℕ) (t : Session) (rest : List Op) → Alike s t → drop k (ops_of (program_of rules t.code)) ≡ rest
      → StandsAt rules s (arrive (program_of rules t.code) (k + over) t) (resume (program_of rules t.code).final over rest (context_of t))
  leaps_stands over k t rest q e =
      subst (λ x. StandsAt rules s (arrive (program_of rules t.code) (k + over) t) x)
      (ap (λ l. resume (program_of rules t.code).final zero l (context_of t)) (sym (drop-drop over k (ops_of (program_of rules t.code))) ∙ ap (drop over) e)
      ∙ sym (resume_skip (program_of rules t.code).final over rest (context_of t)))
      (arrives_stands (k + over) t q)

  pub decides_stands : (v : Verdict) (over k : ℕ) (t : Session) (rest : List Op) → Alike s t → drop k (ops_of (program_of rules t.code)) ≡ rest
      → StandsAt rules s (decide v (program_of rules t.code) over k t) (decided v over (context_of t) (λ n. resume (program_of rules t.code).final n rest (context_of t)))
  decides_stands onward over k t rest q e =
      subst (λ l. StandsAt rules s (arrive (program_of rules t.code) k t) (resume (program_of rules t.code).final zero l (context_of t))) e (arrives_stands k t q)
  decides_stands leap over k t rest q e = leaps_stands over k t rest q e
  decides_stands (stop x) over k t rest q e = gives_stands (stop_answer x) t q
  decides_stands (test b v w) over k t rest q e =
      branch b (decide v (program_of rules t.code) over k t) (decide w (program_of rules t.code) over k t)
      (decided v over (context_of t) (λ n. resume (program_of rules t.code).final n rest (context_of t)))
      (decided w over (context_of t) (λ n. resume (program_of rules t.code).final n rest (context_of t)))
      (decides_stands v over k t rest q e) (decides_stands w over k t rest q e)

  -- the read of a wait, with m reads after it
  waits_stands : (w : Condition) (rest : List Op) (bs : List ℕ) (m : ℕ) → drop s.step (ops_of (program_of rules s.code)) ≡ wait w ∷ rest
      → wait_limit s.code w - s.idle ≡ suc m
      → StandsAt rules s (react (wait w) (program_of rules s.code) s (good bs))
      (hears (wait_loop (suc m) (send_of (wait w) (context_of s)) (idle_on w) (failing (context_of s)) (done Answer.Timeout (context_of s).driver) (resume (program_of rules s.code).final zero rest (context_of s))) (good bs))
  unfolding wait_loop
  waits_stands w rest bs m at e = go (idle_on w bs)
    where
      on : Script
      on = resume (program_of rules s.code).final zero rest (context_of s)

      reads : ℕ → Script
      reads n = wait_loop n (send_of (wait w) (context_of s)) (idle_on w) (failing (context_of s)) (done Answer.Timeout (context_of s).driver) on

      again : (t : Bool) → ltb (suc s.idle) (wait_limit s.code w) ≡ t
          → StandsAt rules s (cond t (sent (send_of (wait w) (context_of s)) (sending s.step (suc s.idle) s)) (giving Answer.Timeout s)) (reads m)
      again true h =
          let lt : suc s.idle < wait_limit s.code w = ltb-true (suc s.idle) (wait_limit s.code w) h in
          let hm : m ≡ wait_limit s.code w - suc s.idle = omega arith in
          (ap reads hm ∙ ap (λ l. left_of (program_of rules s.code).final (suc s.idle) l (context_of s)) (sym at), one_more s s s.step (suc s.idle) (alike s))
      again false h =
          let ge : wait_limit s.code w ≤ suc s.idle = ltb-false (suc s.idle) (wait_limit s.code w) h in
          let hm : 0 ≡ m = omega arith in
          subst (λ n. StandsAt rules s (giving Answer.Timeout s) (reads n)) hm (gives_stands Answer.Timeout s (alike s))

      go : (t : Bool)
          → StandsAt rules s
          (cond t (cond (ltb (suc s.idle) (wait_limit s.code w)) (sent (send_of (wait w) (context_of s)) (sending s.step (suc s.idle) s)) (giving Answer.Timeout s)) (arrive (program_of rules s.code) (suc s.step) s))
          (elim t [ true ↦ reads m | false ↦ on ])
      go true = again (ltb (suc s.idle) (wait_limit s.code w)) refl
      go false =
          subst (λ l. StandsAt rules s (arrive (program_of rules s.code) (suc s.step) s) (resume (program_of rules s.code).final zero l (context_of s)))
          (drop_next s.step (ops_of (program_of rules s.code)) at) (arrives_stands (suc s.step) s (alike s))

  wait_stands : (w : Condition) (rest : List Op) (r : Reply) (n : ℕ) → drop s.step (ops_of (program_of rules s.code)) ≡ wait w ∷ rest
      → wait_limit s.code w - s.idle ≡ n → s.idle < wait_limit s.code w
      → StandsAt rules s (react (wait w) (program_of rules s.code) s r)
      (hears (wait_loop n (send_of (wait w) (context_of s)) (idle_on w) (failing (context_of s)) (done Answer.Timeout (context_of s).driver) (resume (program_of rules s.code).final zero rest (context_of s))) r)
  unfolding wait_loop
  wait_stands w rest r zero at e h = absurd (omega arith)
  wait_stands w rest (bad k) (suc m) at e h = gives_stands (Answer.BusError (suc k)) s (alike s)
  wait_stands w rest (good bs) (suc m) at e h = waits_stands w rest bs m at e

  pub reacts_stands : (op : Op) (rest : List Op) (r : Reply) → drop s.step (ops_of (program_of rules s.code)) ≡ op ∷ rest → idle_wrong s.code (op ∷ rest) s.idle ≡ false
      → StandsAt rules s (react op (program_of rules s.code) s r) (hears (resume_in (program_of rules s.code).final s.idle op rest (context_of s)) r)
  reacts_stands (write reg bytes len over after) rest (bad e) at h = gives_stands (Answer.BusError (report_of (read_wins s.code) s.failed (suc e))) s (alike s)
  reacts_stands (write reg bytes len over after) rest (good bs) at h =
      decides_stands (after (context_of s)) over (suc s.step) s rest (alike s) (drop_next s.step (ops_of (program_of rules s.code)) at)
  reacts_stands (read reg len slot finds over after) rest (bad e) at h = gives_stands (Answer.BusError (suc e)) s (alike s)
  reacts_stands (read reg len slot finds over after) rest (good bs) at h =
      let t : Session = kept_of s (read reg len slot finds over after) (good bs) in
      decides_stands (after (context_of t)) over (suc s.step) t rest (record { driver = refl; code = refl; a = refl; b = refl; transfers = refl }) (drop_next s.step (ops_of (program_of rules s.code)) at)
  reacts_stands (wait w) rest r at h = wait_stands w rest r (wait_limit s.code w - s.idle) at refl (leb-false (wait_limit s.code w) s.idle h)
  reacts_stands (range reg len slot over) rest (bad e) at h =
      let t : Session = kept_of s (range reg len slot over) (bad e) in
      leaps_stands over (suc s.step) t rest (record { driver = refl; code = refl; a = refl; b = refl; transfers = refl }) (drop_next s.step (ops_of (program_of rules s.code)) at)
  reacts_stands (range reg len slot over) rest (good bs) at h =
      let t : Session = kept_of s (range reg len slot over) (good bs) in
      subst (λ l. StandsAt rules s (arrive (program_of rules s.code) (suc s.step) t) (resume (program_of rules s.code).final zero l (context_of t)))
      (drop_next s.step (ops_of (program_of rules s.code)) at) (arrives_stands (suc s.step) t (record { driver = refl; code = refl; a = refl; b = refl; transfers = refl }))

pub step_by_step : (rules : Rules) (s : Session) (f : ℕ) (bs : List ℕ) → StepByStep rules s f bs
unfolding reply_def step_def
step_by_step rules s f bs u c =
    let q = sound_of rules s u in
    rw (q.0, q.1) (go (drop s.step (ops_of (program_of rules s.code))) refl (sound_step rules s q.1) c)
  where
    go : (l : List Op) → drop s.step (ops_of (program_of rules s.code)) ≡ l → idle_wrong s.code l s.idle ≡ false
        → zero_from (clean_from f (first_transfer_out l (context_of s)).reads) bs ≡ true
        → StandsAt rules s (on_ops l (program_of rules s.code) s f bs) (hears (left_of (program_of rules s.code).final s.idle l (context_of s)) (cut (first_transfer_out l (context_of s)) f bs))
    go [] e h z = untrue (sym h)
    go (op ∷ rest) e h z =
        let n : stray (send_of op (context_of s)) f bs ≡ false = stray_is (send_of op (context_of s)) f bs ∙ ap not z in
        rw (n, react_cut op (program_of rules s.code) s f bs) (reacts_stands rules s op rest (cut (send_of op (context_of s)) f bs) e h)

pub begins_at : (rules : Rules) (s : Session) (code a b : ℕ) → BeginsAt rules s code a b
unfolding begin_def step_def
begins_at rules s code a b c =
    rw (c.none_waiting, range_is rules code a b ∙ c.arguments, ready_ok s code c.ready)
    (decides_stands rules (begun s code a b) ((program_of rules code).entry (context_of (begun s code a b))) (length (program_of rules code).steps) 0 (begun s code a b) (ops_of (program_of rules code)) (alike (begun s code a b)) refl)
