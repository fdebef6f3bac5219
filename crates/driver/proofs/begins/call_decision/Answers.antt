-- `driver::begins::call_decision` meets its contract.
use Rattle.driver.proofs.Meets.{sound_begun}
use Rattle.driver.proofs.begins.call_decision.Goals as goal

pub invariant_of-launch : goal.invariant_of-launch
invariant_of-launch c =
    let x = c.args.call in
    record { sound = sound_begun c.args.s x.code x.a x.b _ c.begun.ensures }
