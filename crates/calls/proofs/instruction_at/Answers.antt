-- `calls::instruction_at` meets its contract.
use Rattle.std.proofs.Common.{ap, ◌∙◌}
use Rattle.session.specs.Calls.{bring_up_steps, programs, program_of}
use Rattle.calls.specs.Calls.{step_of, instruction_at}
use Rattle.calls.proofs.instruction_at.Goals as goal

pub returns-in-1 : goal.returns-in-1
unfolding instruction_at program_of programs
returns-in-1 c = rw c.in-1.is (c.with_address.ensures ∙ ap (λ d. step_of (bring_up_steps d) c.args.step) c.dss_term_of.ensures)
