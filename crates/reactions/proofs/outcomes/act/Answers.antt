-- `reactions::outcomes::act` meets its contract.
use borrow.Author.Rules.{rules}
use Rattle.reactions.proofs.Meets.{send_sound}
use Rattle.reactions.proofs.outcomes.act.Goals as goal

pub invariant_of-send : goal.invariant_of-send
invariant_of-send c = record { sound = search (rules, send_sound) }
