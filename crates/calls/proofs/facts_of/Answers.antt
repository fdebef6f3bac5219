-- `calls::facts_of` meets its contract.
use Rattle.std.proofs.Common.{ℕ, ap, ◌∙◌}
use Rattle.calls.specs.declared.Facts.{Facts}
use Rattle.calls.specs.Calls.{steps_in, facts_of}
use Rattle.calls.proofs.Programs.{facts_are}
use Rattle.calls.proofs.facts_of.Goals as goal

pub returns : goal.returns
unfolding facts_of steps_in
returns c =
    let named : ℕ × ℕ × ℕ × ℕ → Facts = λ x. record { steps = x.0; greatest_a = x.1; greatest_b = x.2; ceiling = x.3 } in
    ap named (c.looked_up-steps.ensures ∙ facts_are c.args.code)
