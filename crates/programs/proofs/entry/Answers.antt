-- `programs::entry` meets its contract.
use mathlib.Core.Path.{ap, sym}
use Rattle.session.specs.Machine.{context_of}
use Rattle.shapes.specs.Shapes.{settled}
use Rattle.programs.proofs.Laws.{enters}
use Rattle.programs.proofs.entry.Goals as goal

-- the code is none of those that have an arm
pub returns-in_default : goal.returns-in_default
unfolding settled
returns-in_default c =
    let other = c.in_default.in_default-own.rest in
    ap settled (sym (enters c.args.code (context_of c.args.s) other.0.0.0.1 other.0.0.1 other.0.1 other.1))
