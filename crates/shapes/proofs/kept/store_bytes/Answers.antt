-- `steps::kept::store_bytes` meets its contract.
use Rattle.std.proofs.Common.{◌≡◌, ◌+◌, ◌∙◌, set, get_or, length-set, sym, arith, rules}
use Rattle.std.proofs.lemmas.List.{set_past}
use Rattle.shapes.proofs.Laws.{stored}
use Rattle.shapes.proofs.kept.store_bytes.Goals as goal
use Rattle.shapes.proofs.kept.store_bytes.Goals.{then-i-lt24, else-i-lt24}

pub loop-k-preserved : goal.loop-k-preserved
loop-k-preserved c =
    let i = c.args.slot + c.loop-k.k in
    let next : c.if-i-lt24.next ≡ set c.loop-k.next i (get_or c.args.bytes c.loop-k.k 0) =
    elim c.if-i-lt24.branch [
      | then-i-lt24 w ↦ let byte : w.unwrap_or.result ≡ get_or c.args.bytes c.loop-k.k 0 = search rules in cc
      | else-i-lt24 w ↦ w.next-is ∙ sym (set_past c.loop-k.next i (get_or c.args.bytes c.loop-k.k 0) (omega arith))
    ] in
    rw next (length-set c.loop-k.next i (get_or c.args.bytes c.loop-k.k 0) ∙ c.loop-k.invariant.0, stored c.loop-k.next _ c.loop-k.k _ _ (omega arith) ∙ c.loop-k.invariant.1)
