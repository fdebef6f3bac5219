-- The bench values hold: each definition is computed at its case.
use mathlib.Core.Path.{refl}
use lib.Count.{ones}
use Rattle.clock.specs.Clock.{decoded_timeout, halved_in, halved, encoded_timeout, decoded_vcsel_period, microseconds_of, mclks_of}
use Rattle.spad.specs.Map.{bits_of, byte_of, map_bits, map_bytes, keep, selected, ones_in}
use Rattle.rate.proofs.ReadBack.{read_back}
use Rattle.timing.specs.Timeouts.{timeout_clocks, period_clocks, pre_share, final_clocks, msrc_clocks, msrc_time, pre_time, final_time}
use Rattle.timing.specs.Places.{timeout_place, period_place, less_place, entries_of, first_match, first_place}
use Rattle.budget.specs.Sums.{dss_or_msrc, step_sum, budget_sum, used_sum}
use Rattle.budget.specs.Budget.{measurement_timing_budget, word_of_sum, word_within, final_range_word}
use Rattle.session.proofs.Bench.{first_values, current_values, session_values}
use Rattle.bench.specs.Bench.{BenchValues}

pub bench : BenchValues
unfolding decoded_timeout halved_in halved encoded_timeout decoded_vcsel_period microseconds_of mclks_of bits_of byte_of map_bits map_bytes keep selected ones_in ones timeout_clocks period_clocks pre_share final_clocks msrc_clocks msrc_time pre_time final_time timeout_place period_place less_place entries_of first_match first_place dss_or_msrc step_sum budget_sum used_sum measurement_timing_budget word_of_sum word_within final_range_word
bench = record {
  decode_0000 = refl;
  decode_0FFF = refl;
  decode_1000 = refl;
  place_2 = refl;
  encode_0 = refl;
  encode_256 = refl;
  encode_258 = refl;
  decode_0180 = refl;
  encode_65535 = refl;
  vcsel_6 = refl;
  vcsel_127 = refl;
  vcsel_128 = refl;
  macro_14 = refl;
  map_5 = refl;
  map_0 = refl;
  map_255 = refl;
  map_47 = refl;
  map_7 = refl;
  map_6 = refl;
  call_15 = refl;
  call_9 = refl;
  call_9_now = refl;
  limits = read_back.values;
  session = session_values;
  by_first = first_values;
  by_current = current_values;
}
