-- SCOPE 11.1, in its order, as one list about the definitions; and the values of the session.
use Rattle.std.specs.Prelude.{◌≡◌, true, false, List, [], ◌∷◌, ℕ, Ok, Err}
use Rattle.clock.specs.declared.Place.{Place}
use Rattle.clock.specs.Places.{place_number}
use Rattle.clock.specs.Clock.{decoded_timeout, encoded_timeout, decoded_vcsel_period, macro_period}
use Rattle.spad.specs.declared.Selection.{Selection}
use Rattle.spad.specs.Map.{selected, select_spads}
use Rattle.rate.specs.ReadBack.{LimitValues}
use Rattle.timing.specs.declared.TimingRegisters.{TimingRegisters}
use Rattle.timing.specs.Registers.{registers_of}
use Rattle.budget.specs.Budget.{measurement_timing_budget, final_range_word}
use Rattle.session.specs.declared.Rules.{Rules}
use Rattle.session.specs.Rules.{dss_term_of}
use Rattle.session.specs.Bench.{FirstValues, CurrentValues, SessionValues}

-- a map of six bytes FF
abbrev pub all_good : List ℕ
all_good = 0xFF ∷ 0xFF ∷ 0xFF ∷ 0xFF ∷ 0xFF ∷ 0xFF ∷ []

-- good detectors in the middle, at the ends of bytes and alone
abbrev pub scattered : List ℕ
scattered = 0x0F ∷ 0xF0 ∷ 0x03 ∷ 0x00 ∷ 0x80 ∷ 0x01 ∷ []

-- the budget reads 0xE8, 0x0096, 0x01FE, 0x06, 0x25, 0x04
abbrev pub reads : TimingRegisters
reads = registers_of (0xE8 ∷ 0x00 ∷ 0x96 ∷ 0x01 ∷ 0xFE ∷ 0x06 ∷ 0x25 ∷ 0x04 ∷ [])

pub record BenchValues : Type 0 where
  pub decode_0000 : decoded_timeout 0x0000 ≡ Ok (record { 0 = 1 })
  pub decode_0FFF : decoded_timeout 0x0FFF ≡ Ok (record { 0 = 32769 })
  pub decode_1000 : decoded_timeout 0x1000 ≡ Err Place.TimeoutShift
  pub place_2 : place_number Place.TimeoutShift ≡ 2
  pub encode_0 : encoded_timeout (record { 0 = 0 }) ≡ 0
  pub encode_256 : encoded_timeout (record { 0 = 256 }) ≡ 0x00FF
  pub encode_258 : encoded_timeout (record { 0 = 258 }) ≡ 0x0180
  pub decode_0180 : decoded_timeout 0x0180 ≡ Ok (record { 0 = 257 })
  pub encode_65535 : encoded_timeout (record { 0 = 65535 }) ≡ 0x08FF
  pub vcsel_6 : decoded_vcsel_period 6 ≡ Ok (record { 0 = 14 })
  pub vcsel_127 : decoded_vcsel_period 127 ≡ Ok (record { 0 = 0 })
  pub vcsel_128 : decoded_vcsel_period 128 ≡ Ok (record { 0 = 2 })
  pub macro_14 : macro_period (record { 0 = 14 }) ≡ record { 0 = 53384 }
  pub map_5 : selected all_good 5 true ≡ 0x00 ∷ 0xF0 ∷ 0x01 ∷ 0x00 ∷ 0x00 ∷ 0x00 ∷ []
  pub map_0 : selected all_good 0 true ≡ 0x00 ∷ 0x00 ∷ 0x00 ∷ 0x00 ∷ 0x00 ∷ 0x00 ∷ []
  pub map_255 : select_spads all_good 255 true ≡ record { map = 0x00 ∷ 0xF0 ∷ 0xFF ∷ 0xFF ∷ 0xFF ∷ 0xFF ∷ []; kept = 36 }
  pub map_47 : select_spads all_good 47 false ≡ record { map = 0xFF ∷ 0xFF ∷ 0xFF ∷ 0xFF ∷ 0xFF ∷ 0x7F ∷ []; kept = 47 }
  -- the count runs out inside a byte, and at the end of one
  pub map_7 : select_spads scattered 7 false ≡ record { map = 0x0F ∷ 0x70 ∷ 0x00 ∷ 0x00 ∷ 0x00 ∷ 0x00 ∷ []; kept = 7 }
  pub map_6 : select_spads scattered 6 true ≡ record { map = 0x00 ∷ 0xF0 ∷ 0x03 ∷ 0x00 ∷ 0x00 ∷ 0x00 ∷ []; kept = 6 }
  pub call_15 : measurement_timing_budget reads ≡ Ok (record { 0 = 31326 })
  -- SCOPE 2.6: by the first rules, for ever, and by the current ones
  pub call_9 : final_range_word reads (record { 0 = 33000 }) (dss_term_of Rules.First) ≡ Ok 0x0292
  pub call_9_now : final_range_word reads (record { 0 = 33000 }) (dss_term_of Rules.Current) ≡ Ok 0x0292
  -- words of the signal limit, read
  pub limits : LimitValues
  -- the numbers and values of the answers, a fresh session's zeros, and the run of SCOPE 10.1
  pub session : (rules : Rules) → SessionValues rules
  pub by_first : FirstValues
  pub by_current : CurrentValues
