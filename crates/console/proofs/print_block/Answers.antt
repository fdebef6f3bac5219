-- `console::print_block` meets its contract: the lines of the block, and at the end of the input what comes after them.
use Rattle.std.proofs.Common.{rules, ◌≡◌, ◌++◌, Err, arith, length-take-le}
use Rattle.std.proofs.KnownBytes.{Appends-trans}
use Rattle.console.proofs.Streams.{read_failed, write_failed, writes_same, told, block_start, last_start, last_whole}
use Rattle.console.proofs.print_block.Goals as goal

pub returns-in_err-next-clause-prints : goal.returns-in_err-next-clause-prints
returns-in_err-next-clause-prints g c =
    let lines = c.in_err-next.ensures.lines in
    let passed : c.from_residual.result ≡ Err c.in_err-next.field-0.0 = search rules in
    record {
      written = lines.part;
      appended = lines.appended;
      start = block_start _ _ _ _ _ _ _ c.fill-count.ensures.taken lines.start;
      after = search rules;
      none_lost = rw passed (write_failed _ _ lines.side);
      again = search rules;
    }

pub returns-in_err-ended-clause-prints : goal.returns-in_err-ended-clause-prints
returns-in_err-ended-clause-prints g c =
    let lines = c.in_ok-next.ensures.lines in
    let passed : c.from_residual-in_err-ended.result ≡ Err c.in_err-ended.field-0.0 = search rules in
    let taken = c.fill-count.ensures.taken in
    record {
      written = lines.part;
      appended = lines.appended;
      start = block_start _ _ _ _ _ _ _ taken lines.start;
      after = search rules;
      none_lost = rw passed (read_failed _ _ (told _ _ _ _ _ _ taken lines.whole));
      again = search rules;
    }

pub returns-then-count-block-clause-prints : goal.returns-then-count-block-clause-prints
returns-then-count-block-clause-prints g c =
    let lines = c.in_ok-next.ensures.lines in
    let filled = c.fill-count.ensures in
    let long = length-take-le _ _ filled.within in
    record {
      written = lines.part;
      appended = lines.appended;
      start = block_start _ _ _ _ _ _ _ filled.taken lines.start;
      after = (told _ _ _ _ _ _ filled.taken lines.whole, omega (arith, long, filled.size, filled.within, c.if-count-block.true, c.requires.eights), c.in_ok-next.ensures.session);
      none_lost = search rules;
      again = search rules;
    }

pub returns-in_err-put-clause-prints : goal.returns-in_err-put-clause-prints
returns-in_err-put-clause-prints g c =
    let lines = c.in_ok-next.ensures.lines in
    let rest = writes_same _ _ _ _ _ c.after_lines.ensures c.in_err-put.ensures in
    let passed : c.from_residual-in_err-put.result ≡ Err c.in_err-put.field-0.0 = search rules in
    record {
      written = lines.part ++ rest.part;
      appended = Appends-trans _ _ _ _ _ lines.appended rest.appended;
      start = last_start _ _ _ _ _ _ _ _ c.fill-count.ensures.taken (search rules) lines.whole rest.start;
      after = search rules;
      none_lost = rw passed (write_failed _ _ rest.side);
      again = search rules;
    }

pub returns-clause-prints : goal.returns-clause-prints
returns-clause-prints g c =
    let lines = c.in_ok-next.ensures.lines in
    let rest = writes_same _ _ _ _ _ c.after_lines.ensures c.in_ok-put.ensures in
    record {
      written = lines.part ++ rest.part;
      appended = Appends-trans _ _ _ _ _ lines.appended rest.appended;
      start = last_start _ _ _ _ _ _ _ _ c.fill-count.ensures.taken (search rules) lines.whole rest.start;
      after = (last_whole _ _ _ _ _ _ _ _ c.fill-count.ensures.taken (search rules) lines.whole rest.whole, search rules);
      none_lost = search rules;
      again = search rules;
    }
