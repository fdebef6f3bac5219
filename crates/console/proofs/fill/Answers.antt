use Rattle.std.proofs.Common.{rules}
use Rattle.console.proofs.Streams.{fill_more, fill_kept}
use Rattle.console.proofs.fill.Goals.{in-Ok, in-Err+else-not-wants_another_try}
use Rattle.console.proofs.fill.Goals as goal

pub loop-preserved : goal.loop-preserved
loop-preserved g c =
    elim c.match-read_at.branch [
      | in-Ok w ↦ (search rules, search rules, fill_more _ _ _ c.loop.block c.read_at.new.block c.loop.count w.in-Ok.n _ w.count-is c.read_at.ensures.front c.loop.invariant.2 w.in-Ok.ensures.ok)
      | in-Err+else-not-wants_another_try w ↦ (search rules, search rules, fill_kept _ _ _ c.loop.block c.read_at.new.block c.loop.count _ w.count-is c.read_at.ensures.front c.loop.invariant.2 w.in-Err.ensures.err)
    ]
