-- The final range's time is bounded, and the sum fits 32 bits.
use Rattle.std.proofs.Common.{◌≡◌, ◌≤◌, arith}
use Rattle.budget.specs.Sums.{budget_sum}
use Rattle.budget.proofs.Bounds.{final_le, budget_fits}
use Rattle.budget.proofs.sums.budget_sum.Goals as goal

pub overflow_add-last : goal.overflow_add-last
overflow_add-last c =
    let h : c.time_in-last.result.0 ≤ 4294967 = rw (c.time_in-last.ensures, c.final_time.ensures) (final_le c.args.r) in
    record { fits = omega arith }

pub overflow_cast-result : goal.overflow_cast-result
unfolding budget_sum
overflow_cast-result c =
    let e : c.step_sum-sum.result ≡ (budget_sum c.args.r).0 = simp (c.step_sum-sum.ensures, c.time_in-last.ensures, c.final_time.ensures, c.time_in-pre.ensures, c.pre_time.ensures, c.time_in-msrc.ensures, c.msrc_time.ensures, c.sequence_step_enables-on.ensures) in
    record { fits = rw e (budget_fits c.args.r) }
