-- The proof of the cycle of calls {halve}: the measure is the number itself, which falls as it is halved.
use Rattle.std.proofs.Common.{ℕ, ◌+◌, ◌/◌, ◌<◌, ◌≤◌, sym, ap, ◌∙◌, subst, arith}
use Rattle.clock.proofs.Halving.{halved_small, halved_more, halved_le}
use Rattle.clock.proofs.+halve.Goals as goal

pub overflow_add-result : goal.overflow_add-result
overflow_add-result t c =
    let n = c.args.n in
    let h : n / 2 < 65536 = omega arith in
    omega (arith, subst (λ (k : ℕ). k ≤ 2303) (sym c.halve.ensures) (halved_le (n / 2) h))

pub returns-then-n-le255 : goal.returns-then-n-le255
returns-then-n-le255 t c = halved_small c.args.n c.if-n-le255.true

pub returns-else-n-le255 : goal.returns-else-n-le255
returns-else-n-le255 t c = ap (λ (k : ℕ). 256 + k) c.halve.ensures ∙ halved_more c.args.n c.if-n-le255.false c.ranges.n.fits
