-- The sum fits 32 bits.
use Rattle.std.proofs.Common.{◌≡◌}
use Rattle.budget.specs.Sums.{used_sum}
use Rattle.budget.proofs.Bounds.{used_fits}
use Rattle.budget.proofs.sums.used_sum.Goals as goal

pub overflow_cast-result : goal.overflow_cast-result
unfolding used_sum
overflow_cast-result c =
    let e : c.step_sum-sum.result ≡ (used_sum c.args.r c.args.dss).0 = simp (c.step_sum-sum.ensures, c.time_in-pre.ensures, c.pre_time.ensures, c.time_in-msrc.ensures, c.msrc_time.ensures, c.sequence_step_enables-on.ensures) in
    record { fits = rw e (used_fits c.args.r c.args.dss) }
