-- The sums of calls 15 and 9 over the six budget replies, in microseconds.
use Rattle.std.specs.Prelude.{cond, ℕ, ◌+◌, ◌*◌}
use Rattle.clock.specs.declared.Microseconds.{Microseconds}
use Rattle.timing.specs.declared.TimingRegisters.{TimingRegisters}
use Rattle.timing.specs.declared.SeqStepEnables.{SeqStepEnables}
use Rattle.timing.specs.Registers.{sequence_step_enables, when_on}
use Rattle.timing.specs.Timeouts.{time_in, msrc_time, pre_time, final_time}
use Rattle.budget.specs.declared.DssTerm.{DssTerm}

-- SCOPE 5.4: DSS counts as 2 × (MSRC + 690), so for call 15, or as 2 × MSRC + 690, so in lib.rs for call 9
abbrev pub dss_of : DssTerm → ℕ → ℕ
dss_of DssTerm.Twice msrc = 2 * (msrc + 690)
dss_of DssTerm.Once msrc = 2 * msrc + 690

-- MSRC counts only where DSS is off
unfoldable pub dss_or_msrc : SeqStepEnables → DssTerm → ℕ → ℕ
dss_or_msrc on dss msrc = cond on.dss (dss_of dss msrc) (when_on on.msrc (msrc + 660))

-- lib.rs: the sum of get_measurement_timing_budget and of set_measurement_timing_budget:
-- start and end, then each step that is on
unfoldable pub step_sum : SeqStepEnables → ℕ → DssTerm → ℕ → ℕ → ℕ → ℕ
step_sum on start dss msrc pre last =
    start + 960
    + when_on on.tcc (msrc + 590)
    + dss_or_msrc on dss msrc
    + when_on on.prerange (pre + 660)
    + when_on on.finalrange last

-- SCOPE 5.4, call 15: start 1910, the final range's time, and DSS's overhead twice
unfoldable pub budget_sum : TimingRegisters → Microseconds
budget_sum r = record {
  0 = step_sum (sequence_step_enables r.sequence) 1910 DssTerm.Twice (time_in (msrc_time r)).0 (time_in (pre_time r)).0 ((time_in (final_time r)).0 + 550);
}

-- SCOPE 5.4, call 9, which counts all but the final range's time: start 1320. lib.rs: use_budget_microseconds
unfoldable pub used_sum : TimingRegisters → DssTerm → Microseconds
used_sum r dss = record {
  0 = step_sum (sequence_step_enables r.sequence) 1320 dss (time_in (msrc_time r)).0 (time_in (pre_time r)).0 550;
}
