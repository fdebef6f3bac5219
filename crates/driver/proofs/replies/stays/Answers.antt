-- `driver::replies::stays` meets its contract.
use Rattle.ground.proofs.Facts.{untrue}
use mathlib.Core.Path.{sym, ◌∙◌}
use Rattle.driver.proofs.replies.stays.Goals as goal

pub invariant_of-result : goal.invariant_of-result
invariant_of-result c = record { sound_if = λ e. untrue (sym c.requires ∙ e) }
