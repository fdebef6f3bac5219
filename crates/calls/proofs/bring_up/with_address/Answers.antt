-- `calls::bring_up::with_address` meets its contract.
use Rattle.std.proofs.Common.{sym, ◌∙◌, arith}
use Rattle.session.specs.Calls.{tuning}
use Rattle.calls.specs.Parts.{before_tuning, from_tuning}
use Rattle.calls.proofs.Steps.{in_first, in_second}
use Rattle.calls.proofs.bring_up.with_address.Goals as goal

pub returns-then-step-lt44 : goal.returns-then-step-lt44
unfolding tuning
returns-then-step-lt44 c = c.in_order.ensures ∙ sym (in_first before_tuning (from_tuning c.args.dss) c.args.step (omega arith))

pub returns-else-step-lt44 : goal.returns-else-step-lt44
unfolding tuning
returns-else-step-lt44 c = c.from_tuning.ensures ∙ sym (in_second before_tuning (from_tuning c.args.dss) c.args.step (omega arith))
