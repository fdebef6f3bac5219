-- `reader::event_number` meets its contract. Its parameters are plain, so that it needs no walk.
use mathlib.Core.Path.{ap, ◌∙◌}
use mathlib.Core.List.{List}
use Prim.Native.Nat.{ℕ, ◌*◌, ◌/◌}
use native.Mathlib.Omega.{arith}
use lib.ListN.{length}
use Rattle.records.proofs.Turns.{tail}
use Rattle.reader.specs.Events.{event_at}
use Rattle.reader.proofs.InOrder.{numbered, numbered_last}
use Rattle.reader.proofs.event_number.Goals as goal

pub returns-then-n-whole : goal.returns-then-n-whole
returns-then-n-whole c =
    let a = c.args in
    let l : List ℕ = a.records.now in
    c.first.ensures ∙ ap (event_at 0) (tail (8 * a.n) l) ∙ numbered a.n l (omega arith)

pub returns-else-n-whole : goal.returns-else-n-whole
returns-else-n-whole c =
    let a = c.args in
    let l : List ℕ = a.records.now in
    c.first-else-n-whole.ensures ∙ ap (event_at 0) (tail (8 * (length l / 8)) l) ∙ numbered_last a.n l (omega arith)
