-- `programs::final_of` meets its contract.
use Rattle.std.proofs.Common.{Ok, ap}
use Rattle.session.specs.Calls.{program_of, programs}
use Rattle.programs.specs.Programs.{final_of}
use Rattle.programs.proofs.final_of.Goals as goal

pub returns-in-2 : goal.returns-in-2
unfolding final_of program_of programs
returns-in-2 c = rw c.in-2.is (ap Ok c.finishes.ensures)
