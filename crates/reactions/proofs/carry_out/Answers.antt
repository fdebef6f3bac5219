-- `reactions::carry_out` meets its contract.
use Rattle.reactions.proofs.Meets.{action_sound}
use Rattle.reactions.proofs.carry_out.Goals as goal

pub act-requires : goal.act-requires
act-requires c =
    let x = c.args.c in
    rw c.action_of.ensures (action_sound x.rules x.next x.at x.session x.sound_if)
