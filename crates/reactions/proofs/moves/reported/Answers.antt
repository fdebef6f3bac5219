-- `reactions::moves::reported` meets its contract.
use Rattle.reactions.specs.Reactions.{reported}
use Rattle.reactions.proofs.Meets.{report_read}
use Rattle.reactions.proofs.moves.reported.Goals as goal

pub returns-else-s-eq0 : goal.returns-else-s-eq0
unfolding reported
returns-else-s-eq0 c = report_read _ _ _ c.if-s-eq-READ_RANGE_MM.true c.if-s-eq0.false
