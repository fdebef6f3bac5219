-- `new` of lib.rs is the bring-up of demand 2 at its own address.
use mathlib.Core.Path.{◌≡◌, refl, ap, ◌∙◌}
use mathlib.Core.Bool.{true}
use Rattle.session.specs.Calls.{default_address}
use Rattle.session.specs.History.{step_def}
use Rattle.session.specs.declared.Rules.{Rules}
use Rattle.session.specs.Refusals.{call_rows, rows_under, in_range}
use Rattle.session.specs.Script.{play}
use Rattle.session.specs.Claim2.{bring_up}
use Rattle.session.proofs.Demand2.{demand_2}
use Rattle.session.proofs.Bench.{new_is_call_1}
use Rattle.driver.specs.New.{BeginsNew}

taken : (rules : Rules) → in_range 1 default_address 0 (rows_under rules) ≡ true
unfolding call_rows
taken Rules.First = refl
taken Rules.Current = refl

pub begins_new : BeginsNew
unfolding step_def
begins_new rules s none replies =
    demand_2 rules s 1 default_address 0 (record { none_waiting = none; arguments = taken rules; ready = bring_up }) replies
    ∙ ap (λ x. play x replies) (new_is_call_1 rules s.driver)
