-- What a call and a reply give, by their tests.
use mathlib.Core.Path.{◌≡◌, refl, sym, ◌∙◌, subst}
use mathlib.Core.Bool.{Bool, true, false, cond}
use mathlib.Core.List.{List}
use Prim.Native.Nat.{ℕ, zero, suc}
use native.Mathlib.Omega.{arith}
use borrow.Author.Tests.{ne_eqb}
use lib.ListN.{length}
use Rattle.session.specs.declared.Rules.{Rules}
use Rattle.session.specs.declared.Instruction.{Instruction}
use Rattle.session.specs.declared.Session.{Session}
use Rattle.session.specs.declared.Transfer.{Transfer}
use Rattle.session.specs.declared.Answer.{Answer}
use Rattle.session.specs.Instructions.{Context, Op, write, read, wait, range, send_of}
use Rattle.session.specs.Steps.{op_of}
use Rattle.session.specs.Calls.{program_of}
use Rattle.ground.proofs.Facts.{both}
use Rattle.std.specs.Prelude.{None, Some}
use Rattle.session.specs.Machine.{refused, broken, react, to_reply, context_of, stray, waits_now, malformed, ill_formed, begun, reply_def}
use Rattle.session.proofs.Unchanged.{steps_alike, entry_alike}
use Rattle.calls.specs.Calls.{instruction_at, steps_in}
use Rattle.programs.specs.Programs.{entry_of}
use Rattle.shapes.specs.declared.Shape.{Shape}
use Rattle.shapes.specs.Shapes.{shape_of, settled}
use Rattle.checks.specs.Sound.{Sound, ill_formed_at, stray_in}
use Rattle.reactions.specs.Reactions.{move_of, action_of, acting}
use Rattle.reactions.proofs.Meets.{goes_by}
use Rattle.driver.specs.Replies.{launching, outstanding_of}
use Rattle.checks.proofs.Places.{ill_is, at_step, step_sound}

-- what the arguments of a call decide
pub launches : (rules : Rules) (s : Session) → acting (action_of rules (move_of (settled (entry_of s.code (context_of s))) (steps_in s.code) 0) Instruction.Nowhere s) s ≡ launching rules s
unfolding launching entry_of steps_in
launches rules s =
    rw (← (steps_alike rules s.code), ← (entry_alike rules s.code))
    (goes_by rules ((program_of rules s.code).entry (context_of s)) (length (program_of rules s.code).steps) 0 Instruction.Nowhere s)

-- the bytes of a reply, by the read length of the shape
reads_of : (op : Op) (c : Context) → (send_of op c).reads ≡ (shape_of op).reads
unfolding shape_of
reads_of (write reg bytes len over after) c = refl
reads_of (read reg len slot finds over after) c = refl
reads_of (wait x) c = refl
reads_of (range reg len slot over) c = refl

stray_is : (t : Transfer) (f : ℕ) (bs : List ℕ) → stray t f bs ≡ stray_in t.reads f bs
unfolding stray stray_in
stray_is t zero bs = refl
stray_is t (suc e) bs = refl

pub sound_begun : (s : Session) (code a b : ℕ) (r : Session) → r ≡ begun s code a b → Sound r
sound_begun s code a b r e = subst Sound (sym e) (record { transfers = omega arith })

-- 15, and what is left where it is not given
waits : (s : Session) → (s.code ≡ 0 → ⊥) → waits_now s ≡ true
waits s n = rw (ne_eqb s.code 0 n) refl

pub waiting_sound : (rules : Rules) (s : Session) → ill_formed rules s ≡ false → (s.code ≡ 0 → ⊥) → malformed rules s ≡ false
waiting_sound rules s h n = rw (waits s n) at h

pub reply_broken : (rules : Rules) (s : Session) (f : ℕ) (bs : List ℕ) → ill_formed rules s ≡ true → broken s ≡ reply_def rules s f bs
unfolding reply_def
reply_broken rules s f bs h = sym (rw h refl)

-- at the instruction that the session stands at: 15, 12, and what the call makes of a reply
module _ (rules : Rules) (s : Session) (i : Instruction) (x : Shape) (i_is : i ≡ instruction_at rules s.code s.step) (x_is : x ≡ shape_of (op_of i)) where
  pub ill_value : (b : Bool) → b ≡ ill_formed_at rules x.kind s → ill_formed rules s ≡ b
  ill_value b e = sym (ill_is rules s) ∙ sym (rw (x_is, i_is) at e)

  pub reply_on : (f : ℕ) (bs : List ℕ) (b : Bool) → ill_formed rules s ≡ false → (s.code ≡ 0 → ⊥) → b ≡ stray_in x.reads f bs
      → cond b (refused Answer.StrayByte s) (react (op_of i) (program_of rules s.code) s (to_reply f bs)) ≡ reply_def rules s f bs
  unfolding reply_def
  reply_on f bs b h n e =
      sym
      (rw (h, waits s n)
      (rw (at_step rules s.code s.step (step_sound rules s (waiting_sound rules s h n)))
      (rw (stray_is (send_of (op_of (instruction_at rules s.code s.step)) (context_of s)) f bs)
      (rw (reads_of (op_of (instruction_at rules s.code s.step)) (context_of s))
      (rw (e, x_is, i_is) refl)))))

-- the transfer that is out
pub out_ill : (rules : Rules) (s : Session) → ill_formed rules s ≡ true → None ≡ outstanding_of rules s
unfolding outstanding_of
out_ill rules s h = let q = both (waits_now s) (malformed rules s) h in sym (rw (q.0, q.1) refl)

pub out_sent : (rules : Rules) (s : Session) → ill_formed rules s ≡ false → (s.code ≡ 0 → ⊥) → Some (send_of (op_of (instruction_at rules s.code s.step)) (context_of s)) ≡ outstanding_of rules s
unfolding outstanding_of
out_sent rules s h n =
    let m = waiting_sound rules s h n in
    sym (rw (waits s n, m) (rw (at_step rules s.code s.step (step_sound rules s m)) refl))
