-- `driver::replies::outstanding` meets its contract.
use mathlib.Core.Path.{refl, sym, ap, ◌∙◌}
use Rattle.std.proofs.Common.{Some, eq-eqb}
use Rattle.driver.specs.Replies.{outstanding_of}
use Rattle.driver.proofs.Meets.{out_ill, out_sent}
use Rattle.driver.proofs.replies.outstanding.Goals as goal
use Rattle.driver.proofs.replies.outstanding.Goals.{then-ill_formed-via-then-ill_formed, then-ill_formed-via-else-ill_formed+then-s-eq0}

pub returns-then-ill_formed : goal.returns-then-ill_formed
unfolding outstanding_of
returns-then-ill_formed c =
    let s = c.args.s in
    elim c.then-ill_formed.branch [
      | then-ill_formed-via-then-ill_formed w ↦ out_ill c.args.rules s (sym c.ill_formed.ensures ∙ w.if-ill_formed.true)
      | then-ill_formed-via-else-ill_formed+then-s-eq0 w ↦ rw (eq-eqb _ _ w.if-s-eq0.true) refl
    ]

pub returns : goal.returns
returns c =
    let s = c.args.s in
    ap Some (rw c.instruction_at-at.ensures at c.send_of.ensures) ∙ out_sent c.args.rules s (sym c.if-ill_formed.ensures) c.if-s-eq0.false
