-- `records::runs::go` meets its contract.
use mathlib.Core.Path.{◌∙◌, refl}
use Rattle.records.proofs.Turns.{room_turn, turn}
use native.Mathlib.Omega.{arith}
use Rattle.records.proofs.runs.go.Goals as goal

pub loop-r-preserved : goal.loop-r-preserved
loop-r-preserved c =
    let i = c.loop-r.invariant in
    record {
      room = room_turn _ _ _ _ c.in_ok-p.ensures c.loop-r.r-index i.room;
      rest = turn _ _ _ _ c.in_ok-p.ensures c.args.records.now c.loop-r.r-index (omega arith) refl ∙ i.rest;
    }
