-- What is left of the step is a step of the tables that are left.
use Rattle.std.proofs.Common.{◌≡◌, drop}
use Rattle.std.specs.List.{flat_map}
use Rattle.calls.specs.Calls.{step_of}
use Rattle.calls.proofs.sections.in_order.Given as goal

abbrev pub invariant-loop-table : goal.invariant-loop-table
invariant-loop-table l =
    step_of (flat_map (λ t. t.now) (drop l.table-index l.tables)) l.i ≡ step_of (flat_map (λ t. t.now) l.tables) l.step
