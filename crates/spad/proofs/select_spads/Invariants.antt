use Rattle.std.proofs.Common.{◌≡◌, ◌++◌, ◌*◌, ◌≤◌, length, take, drop}
use Rattle.spad.specs.Map.{selected, ones_in}
use Rattle.spad.proofs.Keep.{walked}
use Rattle.spad.proofs.select_spads.Given as goal

-- the bytes so far and the walk over the others make the selection; what is kept are their ones
abbrev pub invariant-loop-i : goal.invariant-loop-i
invariant-loop-i l =
    (length l.selected ≡ 6)
    × (take l.i l.selected ++ walked l.left.skip l.left.wanted (drop l.i l.fn.map) ≡ selected l.fn.map l.fn.count l.fn.aperture)
    × (l.kept ≡ ones_in (take l.i l.selected))
    × (l.kept ≤ 8 * l.i)
