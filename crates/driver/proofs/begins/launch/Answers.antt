-- `driver::begins::launch` meets its contract.
use Rattle.reactions.specs.Reactions.{reached}
use Rattle.calls.specs.Calls.{facts_of}
use Rattle.driver.proofs.Meets.{launches}
use Rattle.driver.proofs.begins.launch.Goals as goal

pub invariant_of-result : goal.invariant_of-result
invariant_of-result c = record { sound_if = λ _. c.args.s.sound }

pub returns : goal.returns
unfolding reached facts_of
returns c = rw (c.move_of-next.ensures, c.entry.ensures, c.facts_of.ensures) (launches c.args.rules c.args.s.session)
