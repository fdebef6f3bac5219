use Rattle.std.proofs.Common.{rules, take, ap, length-take-le}
use Rattle.std.proofs.KnownBytes.{Appends-kept}
use Rattle.console.proofs.Streams.{put_more, put_kept}
use Rattle.console.proofs.put.Goals.{in-Ok, in-Err+else-not-wants_another_try}
use Rattle.console.proofs.put.Goals as goal

pub loop-preserved : goal.loop-preserved
loop-preserved g c =
    elim c.match-write.branch [
      | in-Ok w ↦ put_more _ _ _ c.args.text.now c.loop.done w.in-Ok.n _ w.done-is c.loop.invariant.0 w.in-Ok.ensures.bound c.loop.invariant.1 w.in-Ok.ensures.bytes
      | in-Err+else-not-wants_another_try w ↦ put_kept _ _ _ c.args.text.now c.loop.done _ w.done-is c.loop.invariant.0 c.loop.invariant.1 w.in-Err.ensures.bytes
    ]

pub returns-then-not-wants_another_try : goal.returns-then-not-wants_another_try
returns-then-not-wants_another_try g c =
    let (within, appended) = c.loop.invariant in
    record {
      part = take c.loop.done c.args.text.now;
      appended = Appends-kept _ _ _ _ appended c.in-Err.ensures.bytes;
      start = ap (λ k. take k c.args.text.now) (length-take-le c.loop.done c.args.text.now within);
      whole = search rules;
      side = search rules;
      again = search rules;
    }
