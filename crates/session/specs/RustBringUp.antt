-- The bring-up of lib.rs, and the function of each of its calls.
use Rattle.std.specs.Prelude.{Bool, true, false, List, [], ◌∷◌, ℕ, ◌+◌, ◌*◌, ◌%◌, eqb}
use Rattle.spad.specs.Loop.{enable_spads}
use Rattle.session.specs.declared.Rules.{Rules}
use Rattle.session.specs.Bus.{Driver, Answer, byte, absent}
use Rattle.session.specs.Script.{Script, done}
use Rattle.session.specs.Registers.{SYSRANGE_START, VHV_CONFIG_PAD_SCL_SDA_EXTSUP_HV, MSRC_CONFIG_CONTROL, SYSTEM_SEQUENCE_CONFIG, GLOBAL_CONFIG_SPAD_ENABLES_REF_0, DYNAMIC_SPAD_REF_EN_START_OFFSET, DYNAMIC_SPAD_NUM_REQUESTED_REF_SPAD, GLOBAL_CONFIG_REF_EN_START_SELECT, RESULT_INTERRUPT_STATUS}
use Rattle.session.specs.RustFn.{Chip, Fn, on_result, ◌>>=◌, ◌>>◌, Ok, Err, if, set_self_stop_variable, set_self_budget, read_register, read_6bytes, write_byte, write_6bytes, while_idle}
use Rattle.session.specs.RustClocks.{or_u8, and_u8, no_interrupt, spad_count, type_is_aperture}
use Rattle.session.specs.RustCalls.{who_am_i, set_address, set_signal_rate_limit, start_continuous, stop_continuous, clear_interrupt_status, read_range_mm, read_range_continuous_millimeters_blocking, read_range_single_millimeters_blocking, get_measurement_timing_budget, set_measurement_timing_budget, set_interrupt_thresholds_mm, get_interrupt_thresholds_mm, set_gpio_config}

-- lib.rs 216: get_spad_info
abbrev pub get_spad_info : Fn (ℕ × ℕ)
get_spad_info = do
  write_byte 0x80 0x01
  write_byte 0xFF 0x01
  write_byte 0x00 0x00
  write_byte 0xFF 0x06
  tmp83 ← read_register 0x83
  write_byte 0x83 (or_u8 tmp83 0x04)
  write_byte 0xFF 0x07
  write_byte 0x81 0x01
  write_byte 0x80 0x01
  write_byte 0x94 0x6B
  write_byte 0x83 0x00
  while_idle 65535 0x83 (λ r. eqb r 0x00)
  write_byte 0x83 0x01
  tmp ← read_register 0x92
  write_byte 0x81 0x00
  write_byte 0xFF 0x06
  tmp83 ← read_register 0x83
  -- `!0x04` is 0xFB
  write_byte 0x83 (and_u8 tmp83 0xFB)
  write_byte 0xFF 0x01
  write_byte 0x00 0x01
  write_byte 0xFF 0x00
  write_byte 0x80 0x00
  Ok (spad_count tmp, type_is_aperture tmp)

-- lib.rs 378: perform_single_ref_calibration
abbrev pub perform_single_ref_calibration : ℕ → Fn Unit
perform_single_ref_calibration vhv_init_byte = do
  write_byte SYSRANGE_START (or_u8 0x01 vhv_init_byte)
  while_idle 10000 RESULT_INTERRUPT_STATUS no_interrupt
  clear_interrupt_status
  write_byte SYSRANGE_START 0x00
  Ok tt

-- the loop over `ref_spad_map`, an array of u8
unfoldable pub enable_ref_spads : ℕ → ℕ → List ℕ → List ℕ
enable_ref_spads spad_count spad_type_is_aperture bytes =
    enable_spads spad_count spad_type_is_aperture
    (byte 0 bytes % 256 ∷ byte 1 bytes % 256 ∷ byte 2 bytes % 256 ∷ byte 3 bytes % 256 ∷ byte 4 bytes % 256 ∷ byte 5 bytes % 256 ∷ [])

-- lib.rs 479: from `load_tuning_settings() begin` to its end
unfoldable pub load_tuning_settings : Fn Unit
load_tuning_settings = do
  write_byte 0xFF 0x01
  write_byte 0x00 0x00
  write_byte 0xFF 0x00
  write_byte 0x09 0x00
  write_byte 0x10 0x00
  write_byte 0x11 0x00
  write_byte 0x24 0x01
  write_byte 0x25 0xFF
  write_byte 0x75 0x00
  write_byte 0xFF 0x01
  write_byte 0x4E 0x2C
  write_byte 0x48 0x00
  write_byte 0x30 0x20
  write_byte 0xFF 0x00
  write_byte 0x30 0x09
  write_byte 0x54 0x00
  write_byte 0x31 0x04
  write_byte 0x32 0x03
  write_byte 0x40 0x83
  write_byte 0x46 0x25
  write_byte 0x60 0x00
  write_byte 0x27 0x00
  write_byte 0x50 0x06
  write_byte 0x51 0x00
  write_byte 0x52 0x96
  write_byte 0x56 0x08
  write_byte 0x57 0x30
  write_byte 0x61 0x00
  write_byte 0x62 0x00
  write_byte 0x64 0x00
  write_byte 0x65 0x00
  write_byte 0x66 0xA0
  write_byte 0xFF 0x01
  write_byte 0x22 0x32
  write_byte 0x47 0x14
  write_byte 0x49 0xFF
  write_byte 0x4A 0x00
  write_byte 0xFF 0x00
  write_byte 0x7A 0x0A
  write_byte 0x7B 0x00
  write_byte 0x78 0x21
  write_byte 0xFF 0x01
  write_byte 0x23 0x34
  write_byte 0x42 0x00
  write_byte 0x44 0xFF
  write_byte 0x45 0x26
  write_byte 0x46 0x05
  write_byte 0x40 0x40
  write_byte 0x0E 0x06
  write_byte 0x20 0x1A
  write_byte 0x43 0x40
  write_byte 0xFF 0x00
  write_byte 0x34 0x03
  write_byte 0x35 0x44
  write_byte 0xFF 0x01
  write_byte 0x31 0x04
  write_byte 0x4B 0x09
  write_byte 0x4C 0x05
  write_byte 0x4D 0x04
  write_byte 0xFF 0x00
  write_byte 0x44 0x00
  write_byte 0x45 0x20
  write_byte 0x47 0x08
  write_byte 0x48 0x28
  write_byte 0x67 0x00
  write_byte 0x70 0x04
  write_byte 0x71 0x01
  write_byte 0x72 0xFE
  write_byte 0x76 0x00
  write_byte 0x77 0x00
  write_byte 0xFF 0x01
  write_byte 0x0D 0x01
  write_byte 0xFF 0x00
  write_byte 0x80 0x01
  write_byte 0x01 0xF8
  write_byte 0xFF 0x01
  write_byte 0x8E 0x01
  write_byte 0x00 0x01
  write_byte 0xFF 0x00
  write_byte 0x80 0x00
  Ok tt

-- init_hardware from its two calibrations on
abbrev pub calibration : Fn Unit
calibration = do
  write_byte SYSTEM_SEQUENCE_CONFIG 0x01
  perform_single_ref_calibration 0x40
  write_byte SYSTEM_SEQUENCE_CONFIG 0x02
  perform_single_ref_calibration 0x00
  write_byte SYSTEM_SEQUENCE_CONFIG 0xE8
  Ok tt

-- init_hardware from its first budget read on
abbrev pub budget_and_calibration : Rules → Fn Unit
budget_and_calibration rules = do
  mtbm ← get_measurement_timing_budget
  set_self_budget mtbm
  write_byte SYSTEM_SEQUENCE_CONFIG 0xE8
  set_measurement_timing_budget rules mtbm
  calibration

-- lib.rs 399, init_hardware: `power_on` does nothing, and `io_mode2v8` is always true. 0x3E800000 is 0.25
abbrev pub init_hardware : Rules → Fn Unit
init_hardware rules = do
  ext_sup_hv ← read_register VHV_CONFIG_PAD_SCL_SDA_EXTSUP_HV
  write_byte VHV_CONFIG_PAD_SCL_SDA_EXTSUP_HV (or_u8 ext_sup_hv 0x01)
  write_byte 0x88 0x00
  write_byte 0x80 0x01
  write_byte 0xFF 0x01
  write_byte 0x00 0x00
  stop_variable ← read_register 0x91
  set_self_stop_variable stop_variable
  write_byte 0x00 0x01
  write_byte 0xFF 0x00
  write_byte 0x80 0x00
  config ← read_register MSRC_CONFIG_CONTROL
  write_byte MSRC_CONFIG_CONTROL (or_u8 config 0x12)
  set_signal_rate_limit 0x3E800000
  write_byte SYSTEM_SEQUENCE_CONFIG 0xFF
  spad ← get_spad_info
  ref_spad_map ← read_6bytes GLOBAL_CONFIG_SPAD_ENABLES_REF_0
  write_byte 0xFF 0x01
  write_byte DYNAMIC_SPAD_REF_EN_START_OFFSET 0x00
  write_byte DYNAMIC_SPAD_NUM_REQUESTED_REF_SPAD 0x2C
  write_byte 0xFF 0x00
  write_byte GLOBAL_CONFIG_REF_EN_START_SELECT 0xB4
  write_6bytes GLOBAL_CONFIG_SPAD_ENABLES_REF_0 (enable_ref_spads spad.0 spad.1 ref_spad_map)
  load_tuning_settings
  set_gpio_config 0 0
  budget_and_calibration rules

-- lib.rs 59: with_address
abbrev pub with_address : Rules → Fn Unit
with_address rules = do
  wai ← who_am_i
  if (eqb wai 0xEE) (init_hardware rules) (Err (Answer.InvalidDevice wai))

-- a method of a driver that is there: its fields go in, and come out as the method leaves them
abbrev pub chip_of : Driver → Chip
chip_of d = record { address = d.address; stop_variable = d.stop; measurement_timing_budget_microseconds = d.budget }

abbrev pub driver_from : Bool → Chip → Driver
driver_from up c = record { up = up; address = c.address; stop = c.stop_variable; budget = c.measurement_timing_budget_microseconds }

abbrev pub method : {A : Type 0} → (A → Answer) → Driver → Fn A → Script
method value d m = m (chip_of d) (λ r c. on_result r (λ a. done (value a) (driver_from d.up c)) (λ e. done e (driver_from d.up c)))

-- a driver is there once the constructor returns `Ok`
abbrev pub constructed : Chip → Fn Unit → Script
constructed chip m = m chip (λ r c. on_result r (λ u. done (Answer.Done 0) (driver_from true c)) (λ e. done e absent))

abbrev pub constructor : ℕ → Fn Unit → Script
constructor address m = constructed (record { address = address; stop_variable = 0; measurement_timing_budget_microseconds = 0 }) m

-- lib.rs: new, with DEFAULT_ADDRESS
abbrev pub new : Rules → Script
new rules = constructor 0x29 (with_address rules)

-- SCOPE 5.1: Done's value is the Rust's number, low × 65536 + high for two of them, and 0 for none. `Ok(true)` is Done, `Ok(false)` answer 1
abbrev pub number : ℕ → Answer
number n = Answer.Done n

abbrev pub flag : Bool → Answer
flag true = Answer.Done 0
flag false = Answer.False

abbrev pub unit : Unit {0} → Answer
unit u = Answer.Done 0

abbrev pub pair : ℕ × ℕ → Answer
pair p = Answer.Done (p.0 * 65536 + p.1)

-- SCOPE 5.1: the function of a call, by its code, with its arguments A and B; 0 has none
abbrev pub Call : Type 0
Call = Driver → ℕ → ℕ → Script

-- where the function takes a `u8` or a `u16`, that is A `as` one
abbrev pub as_u8 : ℕ → ℕ
as_u8 a = a % 256

abbrev pub as_u16 : ℕ → ℕ
as_u16 a = a % 65536

unfoldable pub calls : Rules → List Call
calls rules =
    (λ d a b. done Answer.False d)
    ∷ (λ d a b. constructor (as_u8 a) (with_address rules))
    ∷ (λ d a b. method number d who_am_i)
    ∷ (λ d a b. method unit d (set_address (as_u8 a)))
    ∷ (λ d a b. method unit d (start_continuous a))
    ∷ (λ d a b. method unit d stop_continuous)
    ∷ (λ d a b. method number d read_range_mm)
    ∷ (λ d a b. method number d read_range_continuous_millimeters_blocking)
    ∷ (λ d a b. method number d read_range_single_millimeters_blocking)
    ∷ (λ d a b. method flag d (set_measurement_timing_budget rules a))
    ∷ (λ d a b. method unit d (set_interrupt_thresholds_mm (as_u16 a) b))
    ∷ (λ d a b. method pair d get_interrupt_thresholds_mm)
    ∷ (λ d a b. method unit d (set_gpio_config a b))
    ∷ (λ d a b. method unit d clear_interrupt_status)
    ∷ (λ d a b. method flag d (set_signal_rate_limit a))
    ∷ (λ d a b. method number d get_measurement_timing_budget)
    ∷ []
