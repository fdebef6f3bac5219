-- What a call that goes on can give: never a refusal; and a bring-up that does not succeed leaves no fields.
use mathlib.Core.Path.{◌≡◌, refl}
use mathlib.Core.Bool.{not}
use mathlib.Core.List.{List, [], ◌∷◌}
use Prim.Native.Nat.{ℕ, suc}
use lib.Dec.{ltb}
use lib.ListN.{drop}
use Rattle.session.specs.declared.Rules.{Rules}
use Rattle.session.specs.Bus.{Driver, Transfer, Answer, Reply, bad, good, wait_limit, idle_on}
use Rattle.session.specs.Instructions.{Context, Verdict, onward, leap, stop, test, Op, write, read, wait, range, Final, success, failure, send_of}
use Rattle.session.specs.Calls.{Program, ops_of, program_of}
use Rattle.session.specs.Machine.{Session, Outcome, sent, answered, resting, context_of, kept_of, giving, conclude, enter, arrive, decide, react, to_reply, stray, on_ops, waits_now, ill_formed, reply_def}
use Rattle.session.specs.Claim1.{Accepts, LeavesNone}
use Rattle.ground.proofs.Facts.{cond_case, clash}

-- a property of what a call gives, for every session of the call
module _ (P : Outcome → Type 0) (code : ℕ)
    (out : (t : Transfer) (s : Session) → P (sent t s))
    (done : (v n : ℕ) (d : Driver) → P (answered (Answer.Done v) n (resting d)))
    (end : (x : Answer) (s : Session) → s.code ≡ code → P (giving x s)) where
  conclude_all : (f : Final) (x : Session) → x.code ≡ code → P (conclude f x)
  conclude_all (success v d) x e = done v _ d
  conclude_all (failure k) x e = end _ x e

  enter_all : (fin : Context → Final) (l : List Op) (k : ℕ) (x : Session) → x.code ≡ code → P (enter fin l k x)
  enter_all fin [] k x e = conclude_all (fin (context_of x)) x e
  enter_all fin (op ∷ l) k x e = out _ _

  arrive_all : (p : Program) (k : ℕ) (x : Session) → x.code ≡ code → P (arrive p k x)
  unfolding arrive
  arrive_all p k x e = enter_all p.final (drop k (ops_of p)) k x e

  pub decide_all : (v : Verdict) (p : Program) (over k : ℕ) (x : Session) → x.code ≡ code → P (decide v p over k x)
  decide_all onward p over k x e = arrive_all p k x e
  decide_all leap p over k x e = arrive_all p _ x e
  decide_all (stop y) p over k x e = end _ x e
  decide_all (test b v w) p over k x e = cond_case P b (λ h. decide_all v p over k x e) (λ h. decide_all w p over k x e)

  pub react_all : (op : Op) (p : Program) (x : Session) (r : Reply) → x.code ≡ code → P (react op p x r)
  react_all (write reg bytes len over after) p x (bad k) e = end _ x e
  react_all (write reg bytes len over after) p x (good bs) e = decide_all (after (context_of x)) p over (suc x.step) x e
  react_all (read reg len slot finds over after) p x (bad k) e = end _ x e
  react_all (read reg len slot finds over after) p x (good bs) e =
      decide_all (after (context_of (kept_of x (read reg len slot finds over after) (good bs)))) p over (suc x.step) (kept_of x (read reg len slot finds over after) (good bs)) e
  react_all (wait w) p x (bad k) e = end _ x e
  react_all (wait w) p x (good bs) e =
      cond_case P (idle_on w bs) (λ h. cond_case P (ltb (suc x.idle) (wait_limit x.code w)) (λ h'. out _ _) (λ h'. end _ x e)) (λ h. arrive_all p _ x e)
  react_all (range reg len slot over) p x (bad k) e = arrive_all p _ _ e
  react_all (range reg len slot over) p x (good bs) e = arrive_all p _ _ e

pub decide_accepts : (v : Verdict) (p : Program) (over k : ℕ) (x : Session) → Accepts (decide v p over k x)
decide_accepts v p over k x = decide_all Accepts x.code (λ t s. tt) (λ v n d. tt) (λ y s e. tt) v p over k x refl

pub react_accepts : (op : Op) (p : Program) (x : Session) (r : Reply) → Accepts (react op p x r)
react_accepts op p x r = react_all Accepts x.code (λ t s. tt) (λ v n d. tt) (λ y s e. tt) op p x r refl

-- a bring-up that waits, handed in with any fields
pub bring_up_leaves_none : (rules : Rules) (s : Session) (f : ℕ) (bs : List ℕ) → s.code ≡ 1 → LeavesNone (reply_def rules s f bs)
unfolding reply_def
bring_up_leaves_none rules s f bs e =
    cond_case LeavesNone (ill_formed rules s) (λ h. tt)
    (λ h. cond_case LeavesNone (not (waits_now s)) (λ h. tt) (λ h. go (drop s.step (ops_of (program_of rules s.code)))))
  where
    go : (l : List Op) → LeavesNone (on_ops l (program_of rules s.code) s f bs)
    go [] = tt
    go (op ∷ l) =
        cond_case LeavesNone (stray (send_of op (context_of s)) f bs) (λ h. tt)
        (λ h. react_all LeavesNone 1 (λ t x. tt) (λ v n d q. clash cc)
        (λ y x q z. rw q) op (program_of rules s.code) s (to_reply f bs) e)
