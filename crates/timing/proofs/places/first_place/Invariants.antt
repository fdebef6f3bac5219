use Rattle.std.proofs.Common.{◌≡◌, drop}
use Rattle.timing.specs.Places.{seen, first_match, first_place}
use Rattle.timing.proofs.places.first_place.Given as goal

-- the first place of what is left is that of the whole
abbrev pub invariant-loop-entry : goal.invariant-loop-entry
invariant-loop-entry l = first_match (seen l.known (drop l.entry-index l.entry-items)) ≡ first_place l.fn.r l.known
