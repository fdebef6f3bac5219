-- `steps::values::eight_bytes` meets its contract.
use Rattle.std.proofs.Common.{◌≡◌, ℕ, ◌+◌, ◌<◌, get_or, rules}
use Rattle.shapes.proofs.Laws.{bytes_at}
use Rattle.shapes.proofs.values.eight_bytes.Goals as goal

pub returns : goal.returns
returns c =
    let each : (k : ℕ) → k < 8 → get_or c.from_fn.result k 0 ≡ get_or c.args.carried (c.args.slot + k) 0 = λ k h. (let called = c.from_fn.ensures.items.at k 0 h in search rules) in
    bytes_at c.args.slot c.args.carried c.from_fn.result 8 c.from_fn.ensures.items.long each
