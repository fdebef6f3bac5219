-- `calls::bring_up::from_tuning` meets its contract.
use Rattle.std.proofs.Common.{sym, ◌∙◌, arith}
use Rattle.session.specs.Calls.{rows, tuning}
use Rattle.calls.specs.Parts.{from_gpio}
use Rattle.calls.proofs.Steps.{in_first, in_second}
use Rattle.calls.proofs.bring_up.from_tuning.Goals as goal

pub returns-then-step-lt80 : goal.returns-then-step-lt80
unfolding tuning
returns-then-step-lt80 c = c.load_tuning_settings.ensures ∙ sym (in_first (rows tuning) (from_gpio c.args.dss) c.args.step (omega arith))

pub returns-else-step-lt80 : goal.returns-else-step-lt80
unfolding tuning
returns-else-step-lt80 c = c.from_gpio.ensures ∙ sym (in_second (rows tuning) (from_gpio c.args.dss) c.args.step (omega arith))
