use mathlib.Core.Path.{◌≡◌}
use Prim.Native.Nat.{◌+◌, ◌*◌}
use lib.ListN.{take}
use Rattle.lines.specs.Lines.{hex_pairs}
use Rattle.lines.specs.Cursor.{Puts}
use Rattle.lines.proofs.cursor.Cursor.pairs.Given as goal

abbrev pub invariant-loop-byte : goal.invariant-loop-byte
invariant-loop-byte l =
    record {
      place : l.self.at ≡ l.initial.self.at + 2 * l.byte-index;
      puts : Puts l.initial.self (hex_pairs (take l.byte-index l.byte-items)) l.self;
    }
