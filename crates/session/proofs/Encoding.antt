-- The Rust's encoding loop is the leaf's halving, up to 65,536 clocks: beyond it the loop's eighth round drops bits.
use mathlib.Core.Path.{◌≡◌, refl, ap}
use mathlib.Core.Bool.{Bool, true, false, cond}
use Prim.Native.Nat.{ℕ, zero, suc, ◌+◌, ◌*◌, ◌-◌, ◌/◌, ◌%◌, ◌^◌, ◌≤◌, ◌<◌}
use native.Mathlib.Omega.{arith}
use native.Mathlib.Nat.{zero-add, pow-succ'}
use lib.Dec.{eqb, ltb, leb}
use borrow.Author.Tests.{leb-true, leb-false, lt-ltb, le-ltb}
use Rattle.clock.specs.Clock.{halved_in, halved, encoded_timeout}
use Rattle.clock.proofs.Halving.{half_lt}
use Rattle.session.specs.RustClocks.{encode_loop, encode_timeout}

loop_is : (n e x : ℕ) → x < 256 * 2 ^ n → encode_loop n e x ≡ e * 256 + halved_in n x
unfolding halved_in
loop_is zero e x h = omega arith
loop_is (suc n) e x h = go (leb x 255) refl (loop_is n (suc e) (x / 2) (half_lt x (2 ^ n) (rw (pow-succ' 2 n) at h)))
  where
    go : (t : Bool) → leb x 255 ≡ t → encode_loop n (suc e) (x / 2) ≡ suc e * 256 + halved_in n (x / 2)
        → ◌≡◌ {A = ℕ}
        (elim (ltb 0 (x / 256)) [ true ↦ encode_loop n (suc e) (x / 2) | false ↦ e * 256 + x % 256 ])
        (e * 256 + cond t x (256 + halved_in n (x / 2)))
    go true h ih =
        let le : x ≤ 255 = leb-true x 255 h in
        let z : x / 256 ≤ 0 = omega arith in
        rw (le-ltb 0 (x / 256) z) (omega arith)
    go false h ih =
        let lt : 255 < x = leb-false x 255 h in
        let z : 0 < x / 256 = omega arith in
        rw (lt-ltb 0 (x / 256) z) (omega arith)

pub encode_is : (t : ℕ) → t ≤ 65536 → encode_timeout t ≡ encoded_timeout (record { 0 = t })
unfolding encode_timeout encoded_timeout halved
encode_is t h = ap (λ (n : ℕ). cond (eqb t 0) 0 n) (rw zero-add at (loop_is 8 0 (t - 1) (omega arith)))
