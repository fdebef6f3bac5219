-- Facts that the proofs of single functions cite.
use mathlib.Core.Path.{◌≡◌, refl}
use mathlib.Core.Bool.{not, cond, ◌&&◌}
use Prim.Native.Nat.{ℕ, zero, suc, ◌*◌, ◌≤◌}
use native.Mathlib.Omega.{arith}
use borrow.Author.Tests.{le-ltb, ne_eqb}
use lib.Dec.{eqb, ltb}
use Rattle.session.specs.declared.Instruction.{Instruction}
use Rattle.session.specs.declared.Session.{Session}
use Rattle.session.specs.declared.Answer.{Answer}
use Rattle.session.specs.Instructions.{timing_slot}
use Rattle.session.specs.Steps.{op_of, slot_word, timed_period}
use Rattle.session.specs.Machine.{context_of}
use Rattle.shapes.specs.declared.Verdict.{Verdict}
use Rattle.shapes.specs.Shapes.{settled, verdict_of}
use Rattle.verdicts.specs.Verdicts.{timed_verdict}

timed_case : (a w period : ℕ) → a ≤ 4294967295 → period ≡ cond (eqb w 0) a (a * w)
    → cond (ltb 4294967295 period) (Verdict.Stop (Answer.Panic 1)) Verdict.Onward
    ≡ cond (not (eqb w 0) && ltb 4294967295 (a * w)) (Verdict.Stop (Answer.Panic 1)) Verdict.Onward
timed_case a zero period h e = rw e (rw (le-ltb 4294967295 a h) refl)
timed_case a (suc w) period h e =
    let n : suc w ≡ 0 → ⊥ = λ z. omega arith in
    rw e (rw (ne_eqb (suc w) 0 n) refl)

-- a period that is not timed fits 32 bits
pub timed_is : (s : Session) (period : ℕ) → s.a ≤ 4294967295 → period ≡ timed_period (context_of s)
    → timed_verdict period ≡ settled (verdict_of (op_of Instruction.ReadOscillator) (context_of s))
unfolding timed_verdict settled
timed_is s period h e = timed_case s.a (slot_word timing_slot (context_of s)) period h e
