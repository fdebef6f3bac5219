-- The measure is the number itself, which falls as it is halved.
use Rattle.clock.proofs.+halve.Given as goal

abbrev pub decreases-halve : goal.decreases-halve
decreases-halve l = l.n
