-- The calls: what their arguments decide, their instructions, and how they end. SCOPE 5; the transfers are those of lib.rs, in its order.
use Rattle.std.specs.Prelude.{Bool, true, ◌||◌, ◌&&◌, List, [], ◌∷◌, ◌++◌, map, ℕ, zero, suc, ◌+◌, ◌-◌, ◌*◌, ◌%◌, ltb, leb, length, get_or, is_none, is_err}
use Rattle.rate.specs.Rate.{signal_rate_limit_word, signal_rate_limit_bits}
use Rattle.threshold.specs.Threshold.{check_thresholds, decode_threshold}
use Rattle.budget.specs.declared.DssTerm.{DssTerm}
use Rattle.session.specs.declared.Setting.{Setting}
use Rattle.session.specs.Bus.{byte, Condition, Driver, with_driver_address, with_driver_budget}
use Rattle.session.specs.declared.Rules.{Rules}
use Rattle.session.specs.Rules.{dss_term_of, tries_of}
use Rattle.session.specs.Instructions.{Instruction, Context, declines, wrong_address, wrong_argument, Verdict, onward, stop, test, Op, Final, success, failure, identity_slot, stop_slot, mask_slot, spad_slot, range_slot, timing_slot, second_slot}
use Rattle.budget.specs.Budget.{too_short}
use Rattle.session.specs.Steps.{slot, slot_word, pass, address_in, low_in, op_of}

-- SCOPE 5.1: a call: the greatest A and B that it takes, its ceiling of transfers, what its arguments decide, its instructions, and its end
-- after the last. An entry that leaps leaves out all of them
pub record Program : Type 0 where
  pub greatest_a : ℕ
  pub greatest_b : ℕ
  pub ceiling : ℕ
  pub entry : Context → Verdict
  pub steps : List Instruction
  pub final : Context → Final

abbrev pub ops_of : Program → List Op
ops_of p = map op_of p.steps

abbrev pub row : ℕ × ℕ → Instruction
row x = Instruction.Write x.0 x.1

abbrev pub rows : List (ℕ × ℕ) → List Instruction
rows l = map row l

-- lib.rs: clear_interrupt_status
abbrev pub clearing : List Instruction
clearing = rows ((0x0B, 0x01) ∷ (0x0B, 0x00) ∷ [])

-- lib.rs: get_sequence_step_enables and get_sequence_step_timeouts, but for the last read
abbrev pub timing_reads : ℕ → List Instruction
timing_reads k =
    Instruction.ReadTiming 1 k ∷ Instruction.ReadTiming 2 k ∷ Instruction.ReadTiming 3 k ∷ Instruction.ReadTiming 4 k ∷ Instruction.ReadTiming 5 k ∷ []

-- lib.rs: get_measurement_timing_budget
abbrev pub budget_reads : List Instruction
budget_reads = timing_reads timing_slot ++ Instruction.FindBudget ∷ []

-- lib.rs: set_measurement_timing_budget after its first test
abbrev pub budget_steps : ℕ → Setting → DssTerm → List Instruction
budget_steps k x dss = timing_reads k ++ Instruction.ReadLast k x dss ∷ Instruction.WriteWord k x dss ∷ []

-- lib.rs: set_gpio_config
abbrev pub gpio_steps : Instruction → Instruction → List Instruction
gpio_steps function polarity = function ∷ Instruction.Read 0x84 mask_slot ∷ polarity ∷ clearing

-- lib.rs: perform_single_ref_calibration
abbrev pub calibration : ℕ → List Instruction
calibration b = Instruction.Write 0x00 b ∷ Instruction.Await Condition.StatusReady ∷ clearing ++ Instruction.Write 0x00 0x00 ∷ []

-- lib.rs: the first six writes of start_continuous and of read_range_single_millimeters_blocking
abbrev pub preparation : List Instruction
preparation = rows ((0x80, 0x01) ∷ (0xFF, 0x01) ∷ (0x00, 0x00) ∷ []) ++ Instruction.WriteStop ∷ rows ((0x00, 0x01) ∷ (0xFF, 0x00) ∷ [])

-- SCOPE 2.4: 80 rows of a register and a byte, those under `load_tuning_settings` in the Rust's order, the first FF 01, the last 80 00
unfoldable pub tuning : List (ℕ × ℕ)
tuning =
    (0xFF, 0x01) ∷ (0x00, 0x00) ∷ (0xFF, 0x00) ∷ (0x09, 0x00) ∷ (0x10, 0x00) ∷ (0x11, 0x00) ∷ (0x24, 0x01) ∷ (0x25, 0xFF)
    ∷ (0x75, 0x00) ∷ (0xFF, 0x01) ∷ (0x4E, 0x2C) ∷ (0x48, 0x00) ∷ (0x30, 0x20) ∷ (0xFF, 0x00) ∷ (0x30, 0x09) ∷ (0x54, 0x00)
    ∷ (0x31, 0x04) ∷ (0x32, 0x03) ∷ (0x40, 0x83) ∷ (0x46, 0x25) ∷ (0x60, 0x00) ∷ (0x27, 0x00) ∷ (0x50, 0x06) ∷ (0x51, 0x00)
    ∷ (0x52, 0x96) ∷ (0x56, 0x08) ∷ (0x57, 0x30) ∷ (0x61, 0x00) ∷ (0x62, 0x00) ∷ (0x64, 0x00) ∷ (0x65, 0x00) ∷ (0x66, 0xA0)
    ∷ (0xFF, 0x01) ∷ (0x22, 0x32) ∷ (0x47, 0x14) ∷ (0x49, 0xFF) ∷ (0x4A, 0x00) ∷ (0xFF, 0x00) ∷ (0x7A, 0x0A) ∷ (0x7B, 0x00)
    ∷ (0x78, 0x21) ∷ (0xFF, 0x01) ∷ (0x23, 0x34) ∷ (0x42, 0x00) ∷ (0x44, 0xFF) ∷ (0x45, 0x26) ∷ (0x46, 0x05) ∷ (0x40, 0x40)
    ∷ (0x0E, 0x06) ∷ (0x20, 0x1A) ∷ (0x43, 0x40) ∷ (0xFF, 0x00) ∷ (0x34, 0x03) ∷ (0x35, 0x44) ∷ (0xFF, 0x01) ∷ (0x31, 0x04)
    ∷ (0x4B, 0x09) ∷ (0x4C, 0x05) ∷ (0x4D, 0x04) ∷ (0xFF, 0x00) ∷ (0x44, 0x00) ∷ (0x45, 0x20) ∷ (0x47, 0x08) ∷ (0x48, 0x28)
    ∷ (0x67, 0x00) ∷ (0x70, 0x04) ∷ (0x71, 0x01) ∷ (0x72, 0xFE) ∷ (0x76, 0x00) ∷ (0x77, 0x00) ∷ (0xFF, 0x01) ∷ (0x0D, 0x01)
    ∷ (0xFF, 0x00) ∷ (0x80, 0x01) ∷ (0x01, 0xF8) ∷ (0xFF, 0x01) ∷ (0x8E, 0x01) ∷ (0x00, 0x01) ∷ (0xFF, 0x00) ∷ (0x80, 0x00) ∷ []

-- lib.rs: get_spad_info
abbrev pub spad_steps : List Instruction
spad_steps =
    rows ((0x80, 0x01) ∷ (0xFF, 0x01) ∷ (0x00, 0x00) ∷ (0xFF, 0x06) ∷ [])
    ++ Instruction.Read 0x83 mask_slot
    ∷ Instruction.WriteOr 0x83 0x04
    ∷ rows ((0xFF, 0x07) ∷ (0x81, 0x01) ∷ (0x80, 0x01) ∷ (0x94, 0x6B) ∷ (0x83, 0x00) ∷ [])
    ++ Instruction.Await Condition.DetectorReady
    ∷ Instruction.Write 0x83 0x01
    ∷ Instruction.Read 0x92 spad_slot
    ∷ Instruction.Write 0x81 0x00
    ∷ Instruction.Write 0xFF 0x06
    ∷ Instruction.Read 0x83 mask_slot
    ∷ Instruction.WriteAnd 0x83 0xFB
    ∷ rows ((0xFF, 0x01) ∷ (0x00, 0x01) ∷ (0xFF, 0x00) ∷ (0x80, 0x00) ∷ [])

-- lib.rs: with_address and init_hardware. SCOPE 5.2: 153 transfers and three waits
abbrev pub bring_up_steps : DssTerm → List Instruction
bring_up_steps dss =
    Instruction.Identify
    ∷ Instruction.Read 0x89 mask_slot
    ∷ Instruction.WriteOr 0x89 0x01
    ∷ rows ((0x88, 0x00) ∷ (0x80, 0x01) ∷ (0xFF, 0x01) ∷ (0x00, 0x00) ∷ [])
    ++ Instruction.Read 0x91 stop_slot
    ∷ rows ((0x00, 0x01) ∷ (0xFF, 0x00) ∷ (0x80, 0x00) ∷ [])
    ++ Instruction.Read 0x60 mask_slot
    ∷ Instruction.WriteOr 0x60 0x12
    ∷ Instruction.WriteQuarter
    ∷ Instruction.Write 0x01 0xFF
    ∷ spad_steps
    ++ Instruction.ReadMap
    ∷ rows ((0xFF, 0x01) ∷ (0x4F, 0x00) ∷ (0x4E, 0x2C) ∷ (0xFF, 0x00) ∷ (0xB6, 0xB4) ∷ [])
    ++ Instruction.WriteMap
    ∷ rows tuning
    ++ gpio_steps (Instruction.Write 0x0A 0x04) (Instruction.WriteAnd 0x84 0xEF)
    ++ budget_reads
    ++ Instruction.WriteSteps
    ∷ budget_steps second_slot Setting.Found dss
    ++ Instruction.Write 0x01 0x01
    ∷ calibration 0x41
    ++ Instruction.Write 0x01 0x02
    ∷ calibration 0x01
    ++ Instruction.Write 0x01 0xE8
    ∷ []

-- SCOPE 6: a bring-up's argument, the byte that it read at 0x91, and what call 15 would give for its first six budget reads
abbrev pub brought_up : ℕ → List ℕ → ℕ → Driver
brought_up a carried found_budget = record { up = true; address = a; stop = byte stop_slot carried; budget = found_budget }

abbrev pub finishes : (Context → ℕ) → Context → Final
finishes value c = success (value c) c.driver

-- SCOPE 5.8: after a failed range read the read's code is reported
abbrev pub by_code : ℕ → Final → Final
by_code zero f = f
by_code (suc e) f = failure (suc e)

abbrev pub range_result : Context → Final
range_result c = by_code c.failed (finishes (slot_word range_slot) c)

-- a call that takes no arguments, with its ceiling, its instructions and its value
abbrev pub valued : ℕ → List Instruction → (Context → ℕ) → Program
valued most steps value =
    record { greatest_a = 0; greatest_b = 0; ceiling = most; entry = pass; steps = steps; final = finishes value }

-- and with none
abbrev pub plain : ℕ → List Instruction → Program
plain most steps = valued most steps (λ c. 0)

-- SCOPE 5.8: the range read is the read of the word at 0x1E
abbrev pub read_range : Instruction
read_range = Instruction.ReadRange 0x1E 2 range_slot 0

abbrev pub ranging : ℕ → List Instruction → Program
ranging most steps =
    record {
      greatest_a = 0;
      greatest_b = 0;
      ceiling = most;
      entry = pass;
      steps = steps ++ read_range ∷ clearing;
      final = range_result;
    }

-- call 1, lib.rs: with_address
abbrev pub with_address_call : DssTerm → Program
with_address_call dss =
    record {
      greatest_a = 255;
      greatest_b = 0;
      ceiling = 85688;
      entry = pass;
      steps = bring_up_steps dss;
      final = λ c. success 0 (brought_up (address_in c) c.carried c.found_budget);
    }

-- call 2, lib.rs: who_am_i
abbrev pub who_am_i_call : Program
who_am_i_call = valued 1 (Instruction.Read 0xC0 identity_slot ∷ []) (slot identity_slot)

-- call 3, lib.rs: set_address. SCOPE 5.6: it takes 0x08 to 0x77
abbrev pub set_address_call : Program
set_address_call =
    record {
      greatest_a = 255;
      greatest_b = 0;
      ceiling = 1;
      entry = λ c. test (ltb (address_in c) 0x08 || ltb 0x77 (address_in c)) (stop (wrong_address (address_in c))) onward;
      steps = Instruction.WriteAddress ∷ [];
      final = λ c. success 0 (with_driver_address c.driver (address_in c));
    }

-- call 4, lib.rs: start_continuous
abbrev pub start_continuous_call : Program
start_continuous_call =
    record {
      greatest_a = 4294967295;
      greatest_b = 0;
      ceiling = 10;
      entry = pass;
      steps = preparation ++ Instruction.Prepared ∷ Instruction.ReadOscillator ∷ Instruction.WritePeriod ∷ Instruction.WriteMode ∷ [];
      final = finishes (λ c. 0);
    }

-- call 5, lib.rs: stop_continuous
abbrev pub stop_continuous_call : Program
stop_continuous_call = plain 6 (rows ((0x00, 0x01) ∷ (0xFF, 0x01) ∷ (0x00, 0x00) ∷ (0x91, 0x00) ∷ (0x00, 0x01) ∷ (0xFF, 0x00) ∷ []))

-- call 6, lib.rs: read_range_mm
abbrev pub read_range_mm_call : Program
read_range_mm_call = ranging 4 (Instruction.ReadStatus ∷ [])

-- call 7, lib.rs: read_range_continuous_millimeters_blocking
abbrev pub read_range_continuous_call : Program
read_range_continuous_call = ranging 10003 (Instruction.Await Condition.StatusReady ∷ [])

-- call 8, lib.rs: read_range_single_millimeters_blocking
abbrev pub read_range_single_call : Program
read_range_single_call =
    ranging 20011
    (preparation ++ Instruction.Write 0x80 0x00 ∷ Instruction.Write 0x00 0x01 ∷ Instruction.Await Condition.Started ∷ Instruction.Await Condition.StatusReady ∷ [])

-- call 9, lib.rs: set_measurement_timing_budget
abbrev pub set_budget_call : DssTerm → Program
set_budget_call dss =
    record {
      greatest_a = 4294967295;
      greatest_b = 0;
      ceiling = 7;
      entry = λ c. test (too_short c.a) (stop declines) onward;
      steps = budget_steps timing_slot Setting.Asked dss;
      final = λ c. success 0 (with_driver_budget c.driver c.a);
    }

-- call 10, lib.rs: set_interrupt_thresholds_mm
abbrev pub set_thresholds_call : Program
set_thresholds_call =
    record {
      greatest_a = 65535;
      greatest_b = 65535;
      ceiling = 2;
      entry = λ c. test (is_err (check_thresholds (record { 0 = low_in c }) (record { 0 = c.b }))) (stop wrong_argument) onward;
      steps = Instruction.WriteLow ∷ Instruction.WriteHigh ∷ [];
      final = finishes (λ c. 0);
    }

-- call 11, lib.rs: get_interrupt_thresholds_mm. SCOPE 5.1: low × 65536 + high
abbrev pub get_thresholds_call : Program
get_thresholds_call =
    valued 2
    (Instruction.ReadWord 0x0E timing_slot ∷ Instruction.ReadWord 0x0C (timing_slot + 2) ∷ [])
    (λ c. (decode_threshold (record { 0 = slot_word timing_slot c })).0 * 65536 + (decode_threshold (record { 0 = slot_word (timing_slot + 2) c })).0)

-- call 12, lib.rs: set_gpio_config (SCOPE 5.10)
abbrev pub set_gpio_config_call : Program
set_gpio_config_call =
    record {
      greatest_a = 3;
      greatest_b = 1;
      ceiling = 5;
      entry = pass;
      steps = gpio_steps Instruction.WriteFunction Instruction.WritePolarity;
      final = finishes (λ c. 0);
    }

-- call 13, lib.rs: clear_interrupt_status
abbrev pub clear_interrupt_status_call : Program
clear_interrupt_status_call = plain 2 clearing

-- call 14, lib.rs: set_signal_rate_limit
abbrev pub set_signal_rate_limit_call : Program
set_signal_rate_limit_call =
    record {
      greatest_a = 4294967295;
      greatest_b = 0;
      ceiling = 1;
      entry = λ c. test (is_none (signal_rate_limit_word c.a)) (stop declines) onward;
      steps = Instruction.WriteRate ∷ [];
      final = finishes (λ c. 0);
    }

-- call 15, lib.rs: get_measurement_timing_budget
abbrev pub get_budget_call : Program
get_budget_call = valued 6 budget_reads (λ c. c.found_budget)

-- call 16. SCOPE 5.12: the limit that the word of two bytes at 0x44 stands for
abbrev pub get_signal_rate_limit_call : Program
get_signal_rate_limit_call =
    valued 1 (Instruction.ReadWord 0x44 timing_slot ∷ []) (λ c. signal_rate_limit_bits (slot_word timing_slot c % 65536))

-- for codes that are no call
abbrev pub nothing : Program
nothing = record { greatest_a = 0; greatest_b = 0; ceiling = 0; entry = pass; steps = []; final = λ c. failure 0 }

-- by code; no call has the code 0. `new` is call 1 at the address `default_address`. All calls of today; which of them the rules have says
-- `top_code`
unfoldable pub programs : Rules → List Program
programs rules =
    nothing ∷ with_address_call (dss_term_of rules) ∷ who_am_i_call ∷ set_address_call ∷ start_continuous_call ∷ stop_continuous_call ∷ read_range_mm_call ∷ read_range_continuous_call
    ∷ read_range_single_call ∷ set_budget_call (dss_term_of rules) ∷ set_thresholds_call ∷ get_thresholds_call ∷ set_gpio_config_call ∷ clear_interrupt_status_call ∷ set_signal_rate_limit_call ∷ get_budget_call
    ∷ get_signal_rate_limit_call ∷ []

unfoldable pub program_of : Rules → ℕ → Program
program_of rules code = get_or (programs rules) code nothing

-- lib.rs: DEFAULT_ADDRESS
abbrev pub default_address : ℕ
default_address = 0x29

-- SCOPE 7.2: the codes are those of the calls, from 1 on. SCOPE 2.6: the first rules have calls 1 to 15
unfoldable pub top_code : Rules → ℕ
top_code Rules.First = 15
top_code Rules.Current = length (programs Rules.Current) - 1

-- SCOPE 5.1, by code; an argument that is not used is 0
unfoldable pub ceiling_of : Rules → ℕ → ℕ
ceiling_of rules code = tries_of rules * (program_of rules code).ceiling

unfoldable pub arguments_ok : Rules → ℕ → ℕ → ℕ → Bool
arguments_ok rules code a b =
    (leb 1 code && leb code (top_code rules)) && (leb a (program_of rules code).greatest_a && leb b (program_of rules code).greatest_b)
