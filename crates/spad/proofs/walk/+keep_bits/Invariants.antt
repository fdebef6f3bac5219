-- The measure is the number of bits that are left to walk.
use Rattle.spad.proofs.walk.+keep_bits.Given as goal

abbrev pub decreases-keep_bits : goal.decreases-keep_bits
decreases-keep_bits l = l.n
