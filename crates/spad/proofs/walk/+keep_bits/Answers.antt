-- `spad::keep_bits`, which calls itself on the bits above the lowest, meets its contract. The measure is the number of bits.
use mathlib.Core.Path.{◌≡◌, sym, ap, ◌∙◌, subst}
use Prim.Native.Nat.{ℕ, ◌+◌, ◌-◌, ◌*◌, ◌/◌, ◌<◌, ◌≤◌}
use native.Mathlib.Omega.{arith}
use Rattle.spad.specs.Map.{bits_of, byte_of, keep}
use Rattle.spad.proofs.Keep.{step, kept_half}
use Rattle.spad.proofs.walk.+keep_bits.Goals as goal

none : (n b skip wanted : ℕ) → n ≡ 0 → 0 ≡ byte_of (keep skip wanted (bits_of n b))
unfolding bits_of keep byte_of
none n b skip wanted e = rw e

pub returns-then-n-eq0 : goal.returns-then-n-eq0
returns-then-n-eq0 t c =
    let a = c.args in
    none a.n a.b a.left.skip a.left.wanted c.if-n-eq0.true

half : (n b skip wanted r : ℕ) → n ≤ 8 → r ≡ byte_of (keep skip wanted (bits_of (n - 1) (b / 2))) → r < 128
half n b skip wanted r h e = subst (λ (k : ℕ). k < 128) (sym e) (kept_half n (b / 2) skip wanted h)

pub overflow_mul-result : goal.overflow_mul-result
overflow_mul-result t c =
    let s = c.keep_bit-s.result in
    let h = half c.args.n c.args.b s.left.skip s.left.wanted c.keep_bits.result c.requires c.keep_bits.ensures in
    omega arith

pub overflow_add-result : goal.overflow_add-result
overflow_add-result t c =
    let r = c.keep_bit-s.result in
    let h = half c.args.n c.args.b r.left.skip r.left.wanted c.keep_bits.result c.requires c.keep_bits.ensures in
    let s = c.keep_bit-s.ensures.small in
    omega arith

pub returns : goal.returns
returns t c =
    let a = c.args in
    let r = c.keep_bit-s.result in
    ap (λ (k : ℕ). r.bit + 2 * k) c.keep_bits.ensures
    ∙ step a.n a.b a.left.skip a.left.wanted r.bit r.left.skip r.left.wanted (omega arith) c.keep_bit-s.ensures
