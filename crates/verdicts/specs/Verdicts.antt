-- The verdicts of the instructions that have one of their own.
use Rattle.std.specs.Prelude.{not, cond, ℕ, ◌%◌, eqb, ltb}
use Rattle.session.specs.declared.Answer.{Answer}
use Rattle.session.specs.Instructions.{wrong_device, unready, Verdict as Rule, onward, leap, stop, test}
use Rattle.budget.specs.Budget.{too_short}
use Rattle.shapes.specs.declared.Verdict.{Verdict}

abbrev pub identified : ℕ → Rule
identified b = test (eqb b 0xEE) onward (stop (wrong_device b))

abbrev pub prepared : ℕ → Rule
prepared period = test (not (eqb period 0)) onward leap

abbrev pub ready : ℕ → Rule
ready status = test (eqb (status % 8) 0) (stop unready) onward

abbrev pub steps_written : ℕ → Rule
steps_written found_budget = test (too_short found_budget) leap onward

unfoldable pub timed_verdict : ℕ → Verdict
timed_verdict period = cond (ltb 4294967295 period) (Verdict.Stop (Answer.Panic 1)) Verdict.Onward
