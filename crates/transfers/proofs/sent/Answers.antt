-- `transfers::sent` meets its contract.
use Rattle.std.proofs.Common.{◌≡◌, ℕ, ◌<◌, get_or, rules}
use Rattle.transfers.proofs.Laws.{padded}
use Rattle.transfers.proofs.sent.Goals as goal

pub returns : goal.returns
returns c =
    let each : (k : ℕ) → k < 7 → get_or c.from_fn.result k 0 ≡ get_or c.args.bytes.now k 0 = λ k h. (let called = c.from_fn.ensures.items.at k 0 h in search rules) in
    let written = padded 7 c.args.bytes.now c.from_fn.result c.from_fn.ensures.items.long each in
    cc
