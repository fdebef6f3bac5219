-- Where a session stands: the instruction at its step is the machine's, and what 15 has tested holds.
use mathlib.Core.Path.{◌≡◌, refl, sym, subst, ◌∙◌}
use mathlib.Core.Bool.{Bool, true, false, not, ◌||◌, ◌&&◌}
use mathlib.Core.List.{List, [], ◌∷◌, map}
use Prim.Native.Nat.{ℕ, zero, suc, ◌≤◌, ◌<◌}
use native.Mathlib.Nat.{le_of_suc-le-suc, not-suc-le-zero, le_trans}
use borrow.Author.Tests.{leb-true, leb-false, ltb-false}
use lib.Dec.{eqb, ltb, leb}
use lib.ListN.{length, get_or, drop}
use Rattle.std.specs.List.{list_any}
use Rattle.session.specs.declared.Rules.{Rules}
use Rattle.session.specs.declared.Instruction.{Instruction}
use Rattle.session.specs.declared.Session.{Session}
use Rattle.session.specs.Instructions.{Op, write, read, wait, range}
use Rattle.session.specs.Steps.{op_of}
use Rattle.session.specs.Calls.{ops_of, program_of, top_code, ceiling_of, arguments_ok}
use Rattle.session.specs.Machine.{all_zero, idle_wrong, up_wrong, malformed, ill_formed}
use Rattle.ground.proofs.Facts.{or_parts, untrue}
use Rattle.session.proofs.Unchanged.{steps_alike, greatest_a_alike, greatest_b_alike}
use Rattle.session.proofs.Strays.{sound_step}
use Rattle.calls.specs.Calls.{step_of, instruction_at, steps_in}
use Rattle.calls.proofs.Programs.{ceiling_fits, ceiling_is}
use Rattle.shapes.specs.Shapes.{shape_of}
use Rattle.checks.specs.Sound.{Sound, idle_bad, kind_at, idle_at_step, malformed_at, ill_formed_at}

module _ (f : Instruction → Op) where
  mapped_at : (l : List Instruction) (k : ℕ) (d : Instruction) → k < length l → drop k (map f l) ≡ f (get_or l k d) ∷ drop (suc k) (map f l)
  mapped_at [] k d h = absurd (not-suc-le-zero h)
  mapped_at (x ∷ l) zero d h = refl
  mapped_at (x ∷ l) (suc k) d h = mapped_at l k d (le_of_suc-le-suc h)

  mapped_past : (l : List Instruction) (k : ℕ) → length l ≤ k → drop k (map f l) ≡ []
  mapped_past [] zero h = refl
  mapped_past [] (suc k) h = refl
  mapped_past (x ∷ l) zero h = absurd (not-suc-le-zero h)
  mapped_past (x ∷ l) (suc k) h = mapped_past l k (le_of_suc-le-suc h)

-- arguments as the code tests them
pub arguments_are : (rules : Rules) (code a b : ℕ)
    → (leb 1 code && leb code (top_code rules)) && (leb a (program_of Rules.Current code).greatest_a && leb b (program_of Rules.Current code).greatest_b) ≡ arguments_ok rules code a b
unfolding arguments_ok
arguments_are rules code a b = rw (greatest_a_alike rules code, greatest_b_alike rules code) refl

pub at_step : (rules : Rules) (code k : ℕ) → k < steps_in code → drop k (ops_of (program_of rules code)) ≡ op_of (instruction_at rules code k) ∷ drop (suc k) (ops_of (program_of rules code))
unfolding instruction_at step_of steps_in
at_step rules code k h = mapped_at op_of (program_of rules code).steps k Instruction.Nowhere (rw (steps_alike rules code) h)

pub past_end : (rules : Rules) (code k : ℕ) → steps_in code ≤ k → drop k (ops_of (program_of rules code)) ≡ []
unfolding steps_in
past_end rules code k h = mapped_past op_of (program_of rules code).steps k (rw (steps_alike rules code) h)

-- idle reads against the instruction
limit_is : (code i : ℕ) (op : Op) (rest : List Op) → idle_bad code (shape_of op).kind i ≡ idle_wrong code (op ∷ rest) i
unfolding idle_bad shape_of
limit_is code i (write reg bytes len over after) rest = refl
limit_is code i (read reg len slot finds over after) rest = refl
limit_is code i (wait x) rest = refl
limit_is code i (range reg len slot over) rest = refl

idle_is : (rules : Rules) (code step i : ℕ)
    → idle_at_step code step (shape_of (op_of (instruction_at rules code step))).kind i ≡ idle_wrong code (drop step (ops_of (program_of rules code))) i
unfolding idle_at_step
idle_is rules code step i = at (leb (steps_in code) step) refl
  where
    at : (b : Bool) → leb (steps_in code) step ≡ b
        → b || idle_bad code (shape_of (op_of (instruction_at rules code step))).kind i ≡ idle_wrong code (drop step (ops_of (program_of rules code))) i
    at true e = sym (rw (past_end rules code step (leb-true _ _ e)) refl)
    at false e = rw (at_step rules code step (leb-false _ _ e)) (limit_is code i (op_of (instruction_at rules code step)) (drop (suc step) (ops_of (program_of rules code))))

-- the kind of the instruction that a session stands at decides as the machine does
pub ill_is : (rules : Rules) (s : Session) → ill_formed_at rules (kind_at rules s) s ≡ ill_formed rules s
unfolding malformed_at malformed
ill_is rules s = rw (idle_is rules s.code s.step s.idle) refl

-- the transfers of a call can be counted
ceiling_small : (rules : Rules) (code : ℕ) → ceiling_of rules code ≤ 4294967294
ceiling_small rules code = subst (λ n. n ≤ 4294967294) (ceiling_is rules code) (ceiling_fits rules code)

-- what 15 has tested
transfers_sound : (rules : Rules) (s : Session) → malformed rules s ≡ false → s.transfers ≤ ceiling_of rules s.code
unfolding malformed
transfers_sound rules s h =
    let o : Bool = not (arguments_ok rules s.code s.a s.b) in
    let u : Bool = up_wrong s.code s.driver.up in
    let i : Bool = idle_wrong s.code (drop s.step (ops_of (program_of rules s.code))) s.idle in
    let z : Bool = eqb s.transfers 0 in
    ltb-false _ _ (or_parts (((o || u) || i) || z) (ltb (ceiling_of rules s.code) s.transfers) h).1

pub well_formed : (rules : Rules) (s : Session) → malformed rules s ≡ false → Sound s
well_formed rules s h = record { transfers = le_trans (transfers_sound rules s h) (ceiling_small rules s.code) }

pub step_sound : (rules : Rules) (s : Session) → malformed rules s ≡ false → s.step < steps_in s.code
step_sound rules s h = at (leb (steps_in s.code) s.step) refl
  where
    at : (b : Bool) → leb (steps_in s.code) s.step ≡ b → s.step < steps_in s.code
    at true e = untrue (sym (sound_step rules s h) ∙ rw (past_end rules s.code s.step (leb-true _ _ e)) refl)
    at false e = leb-false _ _ e

-- a byte that is not zero
pub any_set : (l : List ℕ) → list_any (λ b. not (eqb b 0)) l ≡ not (all_zero l)
any_set [] = refl
any_set (x ∷ l) = at (any_set l) (eqb x 0)
  where
    at : list_any (λ b. not (eqb b 0)) l ≡ not (all_zero l) → (t : Bool) → not t || list_any (λ b. not (eqb b 0)) l ≡ not (t && all_zero l)
    at e true = e
    at e false = refl
