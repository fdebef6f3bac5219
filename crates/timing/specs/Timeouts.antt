-- lib.rs: get_sequence_step_timeouts, figure by figure.
-- Where a figure's own arithmetic has a place its value here is 0: nothing uses it, since the place comes first.
use Rattle.std.specs.Prelude.{ℕ, ◌+◌, ◌-◌, Result}
use Rattle.std.specs.Result.{result_unwrap_or}
use Rattle.clock.specs.declared.Mclks.{Mclks}
use Rattle.clock.specs.declared.WideMclks.{WideMclks}
use Rattle.clock.specs.declared.Pclks.{Pclks}
use Rattle.clock.specs.declared.Microseconds.{Microseconds}
use Rattle.clock.specs.declared.Place.{Place}
use Rattle.clock.specs.Clock.{decoded_timeout, decoded_vcsel_period, mclks_to_microseconds, microseconds_to_mclks}
use Rattle.timing.specs.declared.TimingRegisters.{TimingRegisters}
use Rattle.timing.specs.Registers.{sequence_step_enables, when_on}

-- a time, or 0 where its arithmetic has a place
abbrev pub time_in : Result Microseconds Place → Microseconds
time_in x = result_unwrap_or x (record { 0 = 0 })

-- the clocks of 0x51 and of 0x71. lib.rs 656, 659
unfoldable pub timeout_clocks : ℕ → Mclks
timeout_clocks word = result_unwrap_or (decoded_timeout word) (record { 0 = 0 })

-- the pulse clocks of 0x50 and of 0x70. lib.rs 665, 669: get_vcsel_pulse_period
unfoldable pub period_clocks : ℕ → Pclks
period_clocks byte = result_unwrap_or (decoded_vcsel_period byte) (record { 0 = 0 })

-- what so many clocks take, by the register byte of their period (0x50 or 0x70). lib.rs 674 to 687
abbrev pub step_time : Mclks → ℕ → Result Microseconds Place
step_time clocks byte = mclks_to_microseconds clocks (period_clocks byte)

-- and back: the clocks of a time. lib.rs 793
abbrev pub step_clocks : Microseconds → ℕ → Result WideMclks Place
step_clocks time byte = microseconds_to_mclks time (period_clocks byte)

-- what pre-range takes while it is on
unfoldable pub pre_share : TimingRegisters → Mclks
pre_share r = record { 0 = when_on (sequence_step_enables r.sequence).prerange (timeout_clocks r.pretimeout).0 }

-- lib.rs 662: while pre-range is on, its clocks are taken off the register's
unfoldable pub final_clocks : TimingRegisters → Mclks
final_clocks r = record { 0 = (timeout_clocks r.finaltimeout).0 - (pre_share r).0 }

-- lib.rs 667
unfoldable pub msrc_clocks : TimingRegisters → Mclks
msrc_clocks r = record { 0 = r.msrctimeout + 1 }

-- the three microsecond figures are computed whatever the sequence byte says; MSRC and pre-range share a period
unfoldable pub msrc_time : TimingRegisters → Result Microseconds Place
msrc_time r = step_time (msrc_clocks r) r.preperiod

unfoldable pub pre_time : TimingRegisters → Result Microseconds Place
pre_time r = step_time (timeout_clocks r.pretimeout) r.preperiod

unfoldable pub final_time : TimingRegisters → Result Microseconds Place
final_time r = step_time (final_clocks r) r.finalperiod
