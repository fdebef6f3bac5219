-- `console::print_blocks` meets its contract: each block's text follows what was written before it.
use Rattle.std.proofs.Common.{rules, ◌≡◌, ◌++◌, [], Err}
use Rattle.std.proofs.KnownBytes.{Appends-trans}
use Rattle.console.proofs.Streams.{on_read, block_goes, block_none, block_on, start_on, start_end, whole_on, told_on, told_text}
use Rattle.console.proofs.print_blocks.Goals as goal

pub returns-in_err-next : goal.returns-in_err-next
returns-in_err-next g c =
    let (_, _, (before, appended, (told, whole, past))) = c.loop.invariant in
    let p = c.in_err-next.ensures.prints in
    let passed : c.from_residual.result ≡ Err c.in_err-next.field-0.0 = search rules in
    let goes = block_goes _ g.S.Show.spare _ _ _ _ _ _ told.taken whole told.lines past in
    record {
      written = before ++ p.written;
      appended = Appends-trans _ _ _ _ _ appended p.appended;
      start = start_on _ _ _ _ _ _ _ _ goes p.start;
      whole = search rules;
      end = search rules;
      none_lost = rw passed (on_read _ _ _ (λ q. told_text _ _ _ _ _ _ (told_on _ g.S.Show.spare _ _ _ _ _ before p.written told whole past q)) p.none_lost);
      again = search rules;
    }

pub returns-in-None : goal.returns-in-None
returns-in-None g c =
    let (_, _, (before, appended, (told, whole, past))) = c.loop.invariant in
    let goes = block_goes _ g.S.Show.spare _ _ _ _ _ _ told.taken whole told.lines past in
    let p = c.in_ok-next.ensures.prints in
    let after = rw c.in-None.is at p.after in
    record {
      written = before ++ p.written;
      appended = Appends-trans _ _ _ _ _ appended p.appended;
      start = start_on _ _ _ _ _ _ _ _ goes p.start;
      whole = whole_on _ _ _ _ _ _ _ _ goes after.0;
      end = after.1;
      none_lost = search rules;
      again = search rules;
    }

pub loop-preserved : goal.loop-preserved
loop-preserved g c =
    let (_, _, (before, appended, after)) = c.loop.invariant in
    let p = c.in_ok-next.ensures.prints in
    (search rules, search rules, (before ++ p.written, Appends-trans _ _ _ _ _ appended p.appended, block_on _ g.S.Show.spare _ _ _ _ _ _ before p.written after (rw c.in-Some.is at p.after)))

pub loop-init : goal.loop-init
loop-init g c = (search rules, search rules, ([], search rules, rw c.fresh-s.ensures (block_none _ g.S.Show.spare _ _)))

pub returns : goal.returns
returns g c =
    let (_, _, (before, appended, (told, whole, past))) = c.loop.invariant in
    record {
      written = before;
      appended = appended;
      start = start_end _ _ _ _ _ _ told;
      whole = search rules;
      end = search rules;
      none_lost = told_text _ _ _ _ _ _ told;
      again = search rules;
    }
