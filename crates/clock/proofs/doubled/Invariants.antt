use Rattle.std.proofs.Common.{◌≡◌}
use Rattle.clock.specs.Clock.{doubled_in}
use Rattle.clock.proofs.doubled.Given as goal

-- after so many turns v is x doubled as often
abbrev pub invariant-loop : goal.invariant-loop
invariant-loop l = l.v ≡ doubled_in 16 l.x l.counter
