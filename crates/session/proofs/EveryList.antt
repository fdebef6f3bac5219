-- The machine is the script of its instructions, on every list of replies.
use mathlib.Core.Path.{◌≡◌, refl, sym, ap, ◌∙◌}
use mathlib.Core.Bool.{Bool, true, false, not, cond}
use mathlib.Core.List.{List, [], ◌∷◌}
use Prim.Native.Nat.{ℕ, zero, suc, ◌-◌, ◌≤◌}
use native.Mathlib.Omega.{arith}
use Rattle.session.specs.declared.Rules.{Rules}
use Rattle.session.specs.Bus.{Transfer, Answer, Reply, wait_limit, idle_on}
use Rattle.session.specs.Instructions.{Context, Op, write, read, wait, range, Final, send_of}
use Rattle.session.specs.Calls.{program_of}
use Rattle.session.specs.Machine.{Session, Outcome, sent, answered, refused, broken, context_of, react, to_reply, stray, reply_def}
use Rattle.session.specs.History.{step_def}
use Rattle.session.specs.Script.{Script, done, send, wait_loop, Raw, data_of, is_clean, cut, Trace, sends, refuses, waits, shown, heard, play}
use Rattle.session.specs.AnySession.{failing, resume, resume_in, left, hears, StandsAt}
use Rattle.session.specs.Claim2.{follows, drive}
use Rattle.session.proofs.Good.{code_test, Good, good_sound, wait_left, GoodOut, react_goes}
use Rattle.session.proofs.Cut.{stray_is, react_cut}
use Rattle.session.proofs.Scripts.{HasReads, first_shown}
use Rattle.session.proofs.OneStep.{reacts_stands}

abbrev fin_of : Rules → Session → Context → Final
fin_of rules s = (program_of rules s.code).final

-- a reply record is taken, or refused while the transfer stays out
abbrev taken : Transfer → Raw → Trace → Trace → Trace
taken t r x y = cond (is_clean t r) x (refuses Answer.StrayByte y)

-- a waiting session and the script of what is left
abbrev pub Claim : Rules → List Raw → Type 0
Claim rules rs = (s : Session) (op : Op) (rest : List Op) → Good rules s op rest → follows rules rs s ≡ heard (left rules s) rs

left_is : (rules : Rules) (s : Session) (op : Op) (rest : List Op) → Good rules s op rest → left rules s ≡ resume_in (fin_of rules s) s.idle op rest (context_of s)
left_is rules s op rest g = rw g.at

has_reads : (rules : Rules) (s : Session) (op : Op) (rest : List Op) → Good rules s op rest → HasReads s.code s.idle op
has_reads rules s (write reg bytes len over after) rest g = tt
has_reads rules s (read reg len slot finds over after) rest g = tt
has_reads rules s (wait w) rest g = wait_left rules s w rest g
has_reads rules s (range reg len slot over) rest g = tt

-- an outcome is seen as the script where it stands
pub stands_same : (rules : Rules) (rs : List Raw) → Claim rules rs → (s : Session) (o : Outcome) (x : Script) → StandsAt rules s o x → GoodOut rules o → drive rules rs o ≡ play x rs
unfolding drive play
stands_same rules rs claim s (sent t s') x (e, m) g =
    let y : Trace = heard (left rules s') rs in
    ap (sends t) (claim s' g.op g.rest g.good)
    ∙ ap (λ u. sends u y) g.is
    ∙ sym (first_shown (fin_of rules s') s'.idle g.op g.rest (context_of s') y (has_reads rules s' g.op g.rest g.good))
    ∙ ap (λ z. shown z y) (sym (left_is rules s' g.op g.rest g.good))
    ∙ ap (λ z. play z rs) (sym e)
stands_same rules rs claim s (answered a n s') x (e, m) g = ap (λ z. play z rs) (sym e)
stands_same rules rs claim s (refused a s') x h g = absurd h
stands_same rules rs claim s (broken s') x h g = absurd h

reply_is : (rules : Rules) (s : Session) (op : Op) (rest : List Op) (f : ℕ) (bs : List ℕ) → Good rules s op rest
    → reply_def rules s f bs ≡ cond (stray (send_of op (context_of s)) f bs) (refused Answer.StrayByte s) (react op (program_of rules s.code) s (to_reply f bs))
unfolding reply_def
reply_is rules s op rest f bs g = rw (code_test rules s.code s.a s.b g.args, good_sound rules s op rest g, g.at)

-- with no reply the call waits
out : (x : Script) → waits ≡ heard x []
unfolding heard
out (done a d) = refl
out (send t k) = refl

-- with a reply record, clean or not
into : (fin : Context → Final) (i : ℕ) (op : Op) (rest : List Op) (c : Context) (r : Raw) (rs : List Raw) → HasReads c.code i op
    → heard (resume_in fin i op rest c) (r ∷ rs)
    ≡ taken (send_of op c) r (play (hears (resume_in fin i op rest c) (cut (send_of op c) r.failure (data_of r))) rs) (heard (resume_in fin i op rest c) rs)
unfolding heard play wait_loop
into fin i (write reg bytes len over after) rest c r rs h = refl
into fin i (read reg len slot finds over after) rest c r rs h = refl
into fin i (wait w) rest c r rs h = go (wait_limit c.code w - i) (omega (arith, h))
  where
    go : (n : ℕ) → 1 ≤ n
        → (let x = wait_loop n (send_of (wait w) c) (idle_on w) (failing c) (done Answer.Timeout c.driver) (resume fin zero rest c) in
        heard x (r ∷ rs) ≡ taken (send_of (wait w) c) r (play (hears x (cut (send_of (wait w) c) r.failure (data_of r))) rs) (heard x rs))
    go zero k = absurd (omega arith)
    go (suc n) k = refl
into fin i (range reg len slot over) rest c r rs h = refl

taking : (rules : Rules) (rs : List Raw) (s : Session) (t : Transfer) (r : Raw) (o : Outcome) (x y : Trace) → drive rules rs o ≡ x → follows rules rs s ≡ y
    → drive rules rs (cond (not (is_clean t r)) (refused Answer.StrayByte s) o) ≡ taken t r x y
unfolding drive
taking rules rs s t r o x y e f = go (is_clean t r)
  where
    go : (b : Bool) → drive rules rs (cond (not b) (refused Answer.StrayByte s) o) ≡ cond b x (refuses Answer.StrayByte y)
    go true = e
    go false = ap (refuses Answer.StrayByte) f

pub every_list : (rules : Rules) (rs : List Raw) → Claim rules rs
unfolding follows drive step_def
every_list rules [] s op rest g = out (left rules s)
every_list rules (r ∷ rs) s op rest g =
    let t : Transfer = send_of op (context_of s) in
    let x : Reply = cut t r.failure (data_of r) in
    ap (drive rules rs)
    (reply_is rules s op rest r.failure (data_of r) g
    ∙ ap (λ b. cond b (refused Answer.StrayByte s) (react op (program_of rules s.code) s (to_reply r.failure (data_of r)))) (stray_is t r.failure (data_of r))
    ∙ ap (λ o. cond (not (is_clean t r)) (refused Answer.StrayByte s) o) (react_cut op (program_of rules s.code) s r.failure (data_of r)))
    ∙ taking rules rs s t r (react op (program_of rules s.code) s x) _ _
    (stands_same rules rs (every_list rules rs) s (react op (program_of rules s.code) s x) (hears (resume_in (fin_of rules s) s.idle op rest (context_of s)) x) (reacts_stands rules s op rest x g.at g.quiet) (react_goes rules s op rest x g))
    (every_list rules rs s op rest g ∙ ap (λ z. heard z rs) (left_is rules s op rest g))
    ∙ sym (into (fin_of rules s) s.idle op rest (context_of s) r rs (has_reads rules s op rest g))
    ∙ ap (λ z. heard z (r ∷ rs)) (sym (left_is rules s op rest g))
