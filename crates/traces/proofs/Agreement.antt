-- The definitions do what the Rust did: every run is computed.
use mathlib.Core.Path.{refl}
use lib.Ieee.{span, climb, size, odd, units, round, lt, eq, le, of_fields, of_bits, to_bits}
use Rattle.clock.specs.Clock.{decoded_timeout, doubled_in, halved_in, halved, encoded_timeout, decoded_vcsel_period, microseconds_of, mclks_of}
use Rattle.spad.specs.Map.{bits_of, byte_of, map_bits, map_bytes, keep, selected}
use Rattle.spad.specs.Masks.{each_bit, or_byte, and_byte}
use Rattle.rate.specs.Rate.{literal, in_range, rate_of, signal_rate_limit_word, signal_rate_limit_bits}
use Rattle.timing.specs.Timeouts.{timeout_clocks, period_clocks, pre_share, final_clocks, msrc_clocks, msrc_time, pre_time, final_time}
use Rattle.timing.specs.Places.{timeout_place, period_place, less_place, entries_of, first_match, first_place}
use Rattle.budget.specs.Sums.{dss_or_msrc, step_sum, budget_sum, used_sum}
use Rattle.budget.specs.Budget.{measurement_timing_budget, word_of_sum, word_within, final_range_word}
use Rattle.session.specs.Bus.{idle_on}
use Rattle.session.specs.Calls.{tuning, programs, top_code, program_of, ceiling_of, arguments_ok}
use Rattle.session.specs.Machine.{arrive, stray, malformed, reply_def, begin_def}
use Rattle.session.specs.Records.{records_of}
use Rattle.session.specs.History.{step_def, run_from, run_records, run_def}
use Rattle.traces.specs.Agreement.{RustAgrees}

pub rust_agrees : RustAgrees
unfolding run_def run_records records_of run_from step_def begin_def reply_def malformed stray arrive program_of programs top_code tuning arguments_ok ceiling_of idle_on bits_of byte_of map_bits map_bytes keep selected each_bit or_byte and_byte decoded_timeout doubled_in halved_in halved encoded_timeout decoded_vcsel_period microseconds_of mclks_of timeout_clocks period_clocks pre_share final_clocks msrc_clocks msrc_time pre_time final_time timeout_place period_place less_place entries_of first_match first_place dss_or_msrc step_sum budget_sum used_sum measurement_timing_budget word_of_sum word_within final_range_word signal_rate_limit_word signal_rate_limit_bits rate_of in_range literal round units odd size climb span of_bits of_fields to_bits le lt eq
rust_agrees = record {
  bring_ups_agree = refl;
  in_use_agrees = refl;
  measures = refl;
  sets = refl;
  failed_bring_ups_agree = refl;
  failed_ranges_agree = refl;
  failed_calls_agree = refl;
  unset_budgets_agree = refl;
  broken_bring_ups_agree = refl;
  panic_places = refl;
  at_once_agree = refl;
  random_calls = refl;
  random_bring_ups_agree = refl;
  later_calls_agree = refl;
}
