-- The measurement timing budget of call 15, and the final range word that call 9 writes.
use Rattle.std.specs.Prelude.{Bool, cond, ℕ, ◌+◌, ◌-◌, ltb, Option, None, Some, Result, Ok, Err}
use Rattle.clock.specs.declared.Mclks.{Mclks}
use Rattle.clock.specs.declared.WideMclks.{WideMclks}
use Rattle.clock.specs.declared.Microseconds.{Microseconds}
use Rattle.clock.specs.declared.Place.{Place}
use Rattle.clock.specs.Clock.{encoded_timeout, cut_mclks}
use Rattle.timing.specs.declared.TimingRegisters.{TimingRegisters}
use Rattle.timing.specs.Timeouts.{step_clocks, pre_share}
use Rattle.timing.specs.Places.{first_place}
use Rattle.budget.specs.declared.DssTerm.{DssTerm}
use Rattle.budget.specs.declared.NoWord.{NoWord}
use Rattle.budget.specs.Sums.{budget_sum, used_sum}

-- call 15: a place, or the budget
abbrev pub budget_after : Option Place → TimingRegisters → Result Microseconds Place
budget_after (Some p) r = Err p
budget_after None r = Ok (budget_sum r)

-- lib.rs: get_measurement_timing_budget
unfoldable pub measurement_timing_budget : TimingRegisters → Result Microseconds Place
measurement_timing_budget r = budget_after (first_place r 6) r

-- SCOPE 5.5: above 65,535 is place 9
unfoldable pub word_of_sum : ℕ → Result ℕ NoWord
word_of_sum n = cond (ltb 65535 n) (Err (NoWord.Panic Place.FinalTimeout)) (Ok (encoded_timeout (record { 0 = n })))

-- SCOPE 5.5: the clocks are cut to 16 bits, and then, while pre-range is on, its clocks are added
abbrev pub with_pre : WideMclks → Mclks → ℕ
with_pre clocks pre = (cut_mclks clocks).0 + pre.0

abbrev pub word_of_clocks : Result WideMclks Place → TimingRegisters → Result ℕ NoWord
word_of_clocks (Err p) r = Err (NoWord.Panic p)
word_of_clocks (Ok n) r = word_of_sum (with_pre n (pre_share r))

-- SCOPE 5.5: no time left for the final range comes before places 7 to 9
unfoldable pub word_within : TimingRegisters → Microseconds → Microseconds → Result ℕ NoWord
word_within r budget used =
    cond (ltb budget.0 used.0) (Err NoWord.NoTime)
    (word_of_clocks (step_clocks (record { 0 = budget.0 - used.0 }) r.finalperiod) r)

-- a place, or what the time left gives. lib.rs 779
abbrev pub word_after : Option Place → TimingRegisters → Microseconds → DssTerm → Result ℕ NoWord
word_after (Some p) r budget dss = Err (NoWord.Panic p)
word_after None r budget dss = word_within r budget (used_sum r dss)

-- lib.rs: set_measurement_timing_budget after its first test
unfoldable pub final_range_word : TimingRegisters → Microseconds → DssTerm → Result ℕ NoWord
final_range_word r budget dss = word_after (first_place r 6) r budget dss

-- SCOPE 5.5: a budget below 20,000 is answer 1. lib.rs 746
abbrev pub too_short : ℕ → Bool
too_short budget = ltb budget 20000

-- lib.rs: set_measurement_timing_budget on these replies: the word that it writes, or why there is none.
-- The test comes before any transfer, and so before any place of the replies
unfoldable pub set_budget : TimingRegisters → Microseconds → DssTerm → Result ℕ NoWord
set_budget r budget dss = cond (too_short budget.0) (Err NoWord.NoTime) (final_range_word r budget dss)
