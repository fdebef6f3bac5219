-- `rate::signal_rate_limit_word` meets its contract: each branch is a law of `proofs/Word.antt`.
use mathlib.Core.Path.{sym, ap, ◌∙◌, subst}
use native.Mathlib.Omega.{arith}
use lib.Dec.{T}
use lib.Ieee.{Float, binary32, of_bits, le}
use Rattle.rate.proofs.Word.{no_nan, refused_nan, refused_below, refused_above, ranged, word_by_bits}
use Rattle.rate.proofs.Product.{product_number, in_range_finite}
use Rattle.std.specs.Prelude.{Some}
use Rattle.rate.proofs.signal_rate_limit_word.Goals as goal
use Rattle.rate.proofs.signal_rate_limit_word.Goals.{else-limit-via-then-limit+else-limit-2, else-limit-via-else-limit}

pub returns-then-bits-gt2139095040 : goal.returns-then-bits-gt2139095040
returns-then-bits-gt2139095040 c = refused_nan c.args.bits (omega arith)

pub float_from_bits-limit : goal.float_from_bits-limit
float_from_bits-limit c = no_nan c.args.bits (omega arith)

pub float_to_bits-limit : goal.float_to_bits-limit
unfolding of_bits
float_to_bits-limit c =
    let limit : Float = of_bits binary32 c.args.bits in
    let lo : T (le (of_bits binary32 0) limit) = subst T (sym c.if-limit.true) tt in
    let hi : T (le limit (of_bits binary32 0x43ff_feb8)) = subst T (sym c.if-limit-2.true) tt in
    product_number limit _ (in_range_finite limit lo hi) tt

pub returns-then-limit-2 : goal.returns-then-limit-2
returns-then-limit-2 c = ap Some c.whole_part.ensures ∙ word_by_bits c.args.bits (ranged (of_bits binary32 c.args.bits) c.if-limit.true c.if-limit-2.true)

pub returns-else-limit : goal.returns-else-limit
returns-else-limit c =
    elim c.else-limit.branch [
      | else-limit-via-then-limit+else-limit-2 w ↦ refused_above c.args.bits w.if-limit-2.false
      | else-limit-via-else-limit w ↦ refused_below c.args.bits w.if-limit.false
    ]
