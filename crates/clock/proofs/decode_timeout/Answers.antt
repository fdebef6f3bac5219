-- A byte shifted in 16 bits is even or small, so it leaves room for the 1.
use Rattle.std.proofs.Common.{ℕ, ◌+◌, ◌%◌, ◌^◌, ◌<◌, sym, subst, arith, get_or}
use Rattle.clock.proofs.Doubling.{room}
use Rattle.clock.proofs.decode_timeout.Goals as goal

low_byte : (w : ℕ) → w % 256 < 2 ^ 15
low_byte w = omega arith

pub overflow_add-result : goal.overflow_add-result
overflow_add-result c =
    let low = get_or c.to_be_bytes.result 1 0 in
    let small : low < 2 ^ 15 = rw c.to_be_bytes.ensures (low_byte c.args.register_value) in
    record {
      fits = subst (λ (k : ℕ). k + 1 < 2 ^ 16) (sym c.doubled.ensures) (room 15 low (get_or c.to_be_bytes.result 0 0) small);
    }
