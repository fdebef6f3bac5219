-- The runs of the Rust, and the claim that the definitions of the session do the same.
use Rattle.session.specs.declared.Rules.{Rules}
use Rattle.traces.specs.Trace.{Agree, AgreeBy}
use Rattle.traces.specs.BringUp.{bring_ups}
use Rattle.traces.specs.InUse.{in_use}
use Rattle.traces.specs.Measuring.{measuring}
use Rattle.traces.specs.Settings.{settings}
use Rattle.traces.specs.BringUpFailures.{failed_bring_ups}
use Rattle.traces.specs.RangeFailures.{failed_ranges}
use Rattle.traces.specs.CallFailures.{failed_calls}
use Rattle.traces.specs.BringUpBudgets.{unset_budgets}
use Rattle.traces.specs.BringUpPanics.{broken_bring_ups}
use Rattle.traces.specs.Panics.{places}
use Rattle.traces.specs.AtOnce.{at_once}
use Rattle.traces.specs.Random.{random}
use Rattle.traces.specs.RandomBringUp.{random_bring_ups}
use Rattle.traces.specs.LaterCalls.{later_calls}

pub record RustAgrees : Type 0 where
  pub bring_ups_agree : Agree bring_ups
  pub in_use_agrees : Agree in_use
  pub measures : Agree measuring
  pub sets : Agree settings
  pub failed_bring_ups_agree : Agree failed_bring_ups
  pub failed_ranges_agree : Agree failed_ranges
  pub failed_calls_agree : Agree failed_calls
  pub unset_budgets_agree : Agree unset_budgets
  pub broken_bring_ups_agree : Agree broken_bring_ups
  pub panic_places : Agree places
  pub at_once_agree : Agree at_once
  pub random_calls : Agree random
  pub random_bring_ups_agree : Agree random_bring_ups
  -- by the current rules: the first have no later call
  pub later_calls_agree : AgreeBy Rules.Current later_calls
