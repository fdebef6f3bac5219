-- `lines::cursor::Cursor::pairs` meets its contract.
use native.Mathlib.Numerals.{add-one}
use native.Mathlib.Omega.{arith}
use Rattle.lines.proofs.Numbers.{pairs_suc}
use Rattle.lines.proofs.Putting.{then}
use Rattle.lines.proofs.cursor.Cursor.pairs.Goals as goal

pub loop-byte-preserved : goal.loop-byte-preserved
loop-byte-preserved c =
    let i = c.loop-byte.byte-index in
    record {
      place = omega (arith, c.pair.ensures.put.ends, c.loop-byte.invariant.place);
      puts = rw (add-one i, pairs_suc _ i c.loop-byte-test.true) (then c.loop-byte.invariant.puts c.pair.ensures);
    }
