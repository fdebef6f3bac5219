-- `spad::mask_byte` meets its contract: a masked byte has at most 8 ones, and at most as many as are wanted.
use mathlib.Core.Path.{◌≡◌, refl, ap}
use Prim.Native.Nat.{ℕ, ◌≤◌}
use native.Mathlib.Omega.{arith}
use lib.Count.{ones, ones-le}
use Rattle.spad.specs.Bytes.{byte_kept}
use Rattle.spad.proofs.Bytes.{kept_ones}
use Rattle.spad.proofs.Keep.{kept_lt}
use Rattle.spad.proofs.mask_byte.Goals as goal

eight-most : (r b skip n : ℕ) → r ≡ byte_kept skip n b → ones r ≤ 8
eight-most r b skip n masked = rw masked (ones-le 8 (byte_kept skip n b) (kept_lt 8 b skip n))

pub overflow_sub-result : goal.overflow_sub-result
overflow_sub-result c =
    let k = c.byte_kept-byte in
    let a = c.args in
    omega (arith, ap ones k.ensures, kept_ones a.left.skip a.left.wanted a.b)

pub returns : goal.returns
returns c =
    let k = c.byte_kept-byte in
    let a = c.args in
    record {
      walked = k.ensures;
      counted = refl;
      few = eight-most k.result a.b a.left.skip a.left.wanted k.ensures;
      next_skip = c.saturating_sub.ensures;
      next_wanted = refl;
    }
