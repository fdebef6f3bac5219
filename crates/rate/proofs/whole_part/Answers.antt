-- `rate::whole_part` meets its contract: each answer is a law of `proofs/Whole.antt`.
use mathlib.Core.Path.{sym, subst}
use Prim.Native.Nat.{ℕ, ◌^◌, ◌<◌}
use native.Mathlib.Omega.{arith}
use lib.Ieee.{binary32, of_bits}
use lib.Ieee.Casts.{to_unsigned-lt}
use Rattle.rate.proofs.Whole.{nan_or_negative, below_one, from_65536, digits}
use Rattle.rate.proofs.whole_part.Goals as goal

pub returns-then-bits-gt2139095040 : goal.returns-then-bits-gt2139095040
returns-then-bits-gt2139095040 c = nan_or_negative c.args.bits (omega arith)

pub returns-then-bits-lt1065353216 : goal.returns-then-bits-lt1065353216
returns-then-bits-lt1065353216 c = below_one c.args.bits (omega arith)

pub returns-then-bits-gt1199570943 : goal.returns-then-bits-gt1199570943
returns-then-bits-gt1199570943 c = from_65536 c.args.bits (omega arith) (omega arith)

pub overflow_cast-result : goal.overflow_cast-result
overflow_cast-result c =
    let b = c.args.bits in
    record { fits = subst (λ (k : ℕ). k < 2 ^ 16) (sym (digits b (omega arith) (omega arith))) (to_unsigned-lt 16 (of_bits binary32 b)) }

pub returns : goal.returns
returns c = digits c.args.bits (omega arith) (omega arith)
