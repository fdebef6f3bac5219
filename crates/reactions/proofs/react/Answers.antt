-- `reactions::react` meets its contract.
use mathlib.Core.Path.{refl}
use Rattle.session.specs.Steps.{op_of}
use Rattle.reactions.specs.Reactions.{reached}
use Rattle.reactions.proofs.Meets.{reacts, sound_kept}
use Rattle.reactions.proofs.react.Goals as goal

pub invariant_of-kept : goal.invariant_of-kept
invariant_of-kept c =
    let s = c.args.s in
    record { sound = rw c.kept_by.ensures (sound_kept c.args.shape s.session c.args.reply.failure c.args.reply.data s.sound) }

pub returns : goal.returns
unfolding reached
returns c =
    let s = c.args.s in
    rw (c.move_after-next.ensures, c.kept_by.ensures, c.requires) (reacts c.args.rules s.at (op_of s.at) s.session c.args.reply.failure c.args.reply.data refl)
