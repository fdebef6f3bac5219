-- `driver::replies::reply_decision` meets its contract.
use mathlib.Core.Path.{◌∙◌}
use Rattle.reactions.specs.Reactions.{action_of, acting}
use Rattle.driver.proofs.Meets.{reply_broken, ill_value, reply_on, waiting_sound}
use Rattle.checks.proofs.Places.{well_formed}
use Rattle.driver.proofs.replies.reply_decision.Goals as goal

pub invariant_of-react : goal.invariant_of-react
invariant_of-react c =
    let s = c.args.s in
    let h = ill_value c.args.rules s _ _ c.instruction_at-at.ensures c.shape_of-shape.ensures _ c.if-ill_formed_at.ensures in
    record { sound = well_formed c.args.rules s (waiting_sound c.args.rules s h c.if-s-eq0.false) }

pub returns-then-ill_formed_at : goal.returns-then-ill_formed_at
unfolding action_of acting
returns-then-ill_formed_at c =
    let h = ill_value c.args.rules c.args.s _ _ c.instruction_at-at.ensures c.shape_of-shape.ensures _ c.if-ill_formed_at.ensures in
    c.stays.ensures ∙ reply_broken c.args.rules c.args.s c.args.reply.failure c.args.reply.data h

pub returns-then-stray : goal.returns-then-stray
unfolding action_of acting
returns-then-stray c =
    let h = ill_value c.args.rules c.args.s _ _ c.instruction_at-at.ensures c.shape_of-shape.ensures _ c.if-ill_formed_at.ensures in
    c.stays-then-stray.ensures
    ∙ reply_on c.args.rules c.args.s _ _ c.instruction_at-at.ensures c.shape_of-shape.ensures c.args.reply.failure c.args.reply.data _ h c.if-s-eq0.false c.if-stray.ensures

pub returns-else-stray : goal.returns-else-stray
returns-else-stray c =
    let h = ill_value c.args.rules c.args.s _ _ c.instruction_at-at.ensures c.shape_of-shape.ensures _ c.if-ill_formed_at.ensures in
    c.react.ensures
    ∙ reply_on c.args.rules c.args.s _ _ c.instruction_at-at.ensures c.shape_of-shape.ensures c.args.reply.failure c.args.reply.data _ h c.if-s-eq0.false c.if-stray.ensures
