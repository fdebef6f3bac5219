use mathlib.Core.Path.{◌≡◌}
use lib.ListN.{drop}
use Rattle.records.specs.Runs.{Room, going}
use Rattle.records.proofs.runs.go.Given as goal

abbrev pub invariant-loop-r : goal.invariant-loop-r
invariant-loop-r l = record { room : Room l.p.counts l.r-index; rest : going l.rules l.p (drop l.r-index l.records) ≡ going l.rules l.initial.p l.records }
