-- What the code looks up of a call by its code, and of its instructions at a step. Each is read off the session's definition of the call.
-- By the rules go its instructions, its ceiling and whether there is a call; the rest is one for all rules (proofs/Unchanged of crate session), and is read
-- off the current ones.
use Rattle.std.specs.Prelude.{List, ℕ, length, get_or}
use Rattle.session.specs.declared.Rules.{Rules}
use Rattle.session.specs.declared.Instruction.{Instruction}
use Rattle.session.specs.Calls.{program_of}
use Rattle.calls.specs.declared.Facts.{Facts}

unfoldable pub steps_in : ℕ → ℕ
steps_in code = length (program_of Rules.Current code).steps

-- SCOPE 5.1
unfoldable pub facts_of : ℕ → Facts
facts_of code =
    record {
      steps = steps_in code;
      greatest_a = (program_of Rules.Current code).greatest_a;
      greatest_b = (program_of Rules.Current code).greatest_b;
      ceiling = (program_of Rules.Current code).ceiling;
    }

-- the step of a list; past its end there is none
unfoldable pub step_of : List Instruction → ℕ → Instruction
step_of l i = get_or l i Instruction.Nowhere

-- the instruction at which a call with this code stands at a step
unfoldable pub instruction_at : Rules → ℕ → ℕ → Instruction
instruction_at rules code step = step_of (program_of rules code).steps step
