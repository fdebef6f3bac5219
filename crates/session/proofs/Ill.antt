-- A record is answered 15 exactly where the session is ill-formed.
use mathlib.Core.Path.{◌≡◌, refl, sym}
use mathlib.Core.Bool.{true, false, not}
use mathlib.Core.List.{List, [], ◌∷◌}
use borrow.Author.Tests.{not-false}
use lib.ListN.{drop, length}
use Rattle.session.specs.declared.Rules.{Rules}
use Rattle.session.specs.Instructions.{Op, send_of}
use Rattle.session.specs.Calls.{ops_of, program_of, arguments_ok}
use Rattle.session.specs.Machine.{Session, Outcome, sent, answered, refused, broken, context_of, to_reply, stray, on_ops, idle_wrong, malformed, waits_now, ill_formed, reply_def, begun, not_up, begin_def, other_def}
use Rattle.session.specs.Records.{Record, call, reply, other}
use Rattle.session.specs.History.{step_def}
use Rattle.ground.proofs.Facts.{cond_case, untrue}
use Rattle.session.proofs.Accepts.{decide_all, react_all}
use Rattle.session.proofs.Strays.{sound_step}

abbrev pub IllOf : Rules → Session → Outcome → Type 0
IllOf rules s (sent t s') = ill_formed rules s ≡ false
IllOf rules s (answered x n s') = ill_formed rules s ≡ false
IllOf rules s (refused x s') = ill_formed rules s ≡ false
IllOf rules s (broken s') = ill_formed rules s ≡ true

pub ill_is : (rules : Rules) (s : Session) (r : Record) → IllOf rules s (step_def rules s r)
unfolding step_def begin_def reply_def other_def
ill_is rules s (call code a b) =
    cond_case (IllOf rules s) (ill_formed rules s) (λ e. e)
    (λ e. cond_case (IllOf rules s) (not (arguments_ok rules code a b)) (λ e₁. e)
    (λ e₁. cond_case (IllOf rules s) (waits_now s) (λ e₂. e)
    (λ e₂. cond_case (IllOf rules s) (not_up code s.driver.up) (λ e₃. e)
    (λ e₃. decide_all (IllOf rules s) code (λ t x. e) (λ v n d. e) (λ y x q. e) ((program_of rules code).entry (context_of (begun s code a b))) (program_of rules code) (length (program_of rules code).steps) 0 (begun s code a b) refl))))
ill_is rules s (reply f bs) =
    cond_case (IllOf rules s) (ill_formed rules s) (λ e. e)
    (λ e. cond_case (IllOf rules s) (not (waits_now s)) (λ e₁. e)
    (λ e₁. go e (drop s.step (ops_of (program_of rules s.code))) (sound_step rules s (sound e (not-false (waits_now s) e₁)))))
  where
    sound : ill_formed rules s ≡ false → waits_now s ≡ true → malformed rules s ≡ false
    sound e w = rw w at e

    go : ill_formed rules s ≡ false → (l : List Op) → idle_wrong s.code l s.idle ≡ false → IllOf rules s (on_ops l (program_of rules s.code) s f bs)
    go e [] h = untrue (sym h)
    go e (op ∷ l) h =
        cond_case (IllOf rules s) (stray (send_of op (context_of s)) f bs) (λ q. e)
        (λ q. react_all (IllOf rules s) s.code (λ t x. e) (λ v n d. e) (λ y x z. e) op (program_of rules s.code) s (to_reply f bs) refl)
ill_is rules s other = cond_case (IllOf rules s) (ill_formed rules s) (λ e. e) (λ e. e)
