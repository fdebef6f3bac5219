-- `records::one::step` meets its contract.
use mathlib.Core.Path.{◌∙◌, ap}
use Rattle.session.specs.History.{step_def}
use Rattle.session.specs.Given.{outcome_of}
use Rattle.records.specs.Records.{record_in}
use Rattle.records.proofs.Decoded.{meant_shown}
use Rattle.records.proofs.one.step.Goals as goal

pub returns : goal.returns
returns c =
    c.carry_out.ensures
    ∙ ap outcome_of ((rw c.from.ensures at c.decision_of.ensures) ∙ ap (step_def c.args.rules c.args.s) (meant_shown (record_in c.args.«record»)))
