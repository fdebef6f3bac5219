-- The methods of lib.rs but for the bring-up, function by function, in its names. `get_vcsel_pulse_period` stands at its two calls,
-- a read and `decode_vcsel_period`.
use Rattle.std.specs.Prelude.{Bool, true, false, not, ◌||◌, cond, [], ◌∷◌, ℕ, ◌+◌, ◌*◌, ◌-◌, ◌%◌, ◌/◌, ◌^◌, eqb, ltb, get_or}
use Rattle.std.specs.Int.Bits.{bit_and}
use Rattle.session.specs.declared.Rules.{Rules}
use Rattle.session.specs.Bus.{Answer}
use Rattle.session.specs.Registers.{SYSRANGE_START, WHO_AM_I, SYSTEM_SEQUENCE_CONFIG, FINAL_RANGE_CONFIG_MIN_COUNT_RATE_RTN_LIMIT, SYSTEM_INTERRUPT_CONFIG_GPIO, GPIO_HV_MUX_ACTIVE_HIGH, SYSTEM_INTERRUPT_CLEAR, RESULT_INTERRUPT_STATUS, RESULT_RANGE_STATUS_plus_10, OSC_CALIBRATE_VAL, SYSTEM_INTERMEASUREMENT_PERIOD, FINAL_RANGE_CONFIG_VCSEL_PERIOD, PRE_RANGE_CONFIG_VCSEL_PERIOD, PRE_RANGE_CONFIG_TIMEOUT_MACROP_HI, FINAL_RANGE_CONFIG_TIMEOUT_MACROP_HI, MSRC_CONFIG_TIMEOUT_MACROP, I2C_SLAVE_DEVICE_ADDRESS, SYSTEM_THRESH_HIGH, SYSTEM_THRESH_LOW}
use Rattle.session.specs.RustFn.{Result, ok, err, Fn, ◌>>=◌, ◌>>◌, Ok, Err, try, hand, if, self, set_self_address, set_self_budget, com_write, read_register, read_16bit, write_byte, write_16bit, write_32bit, while_idle}
use Rattle.session.specs.RustClocks.{or_u8, and_u8, no_interrupt, start_bit, threshold_raw, threshold_mm, limit_contained, limit_word, multiply_period, decode_timeout, encode_timeout, decode_vcsel_period, timeout_mclks_to_microseconds, timeout_microseconds_to_mclks, subtract_if, add_if, plus_one}

-- lib.rs 623: who_am_i
abbrev pub who_am_i : Fn ℕ
who_am_i = read_register WHO_AM_I

-- lib.rs 93: set_address
abbrev pub set_address : ℕ → Fn Unit
set_address new_address =
    if (ltb new_address 0x08 || ltb 0x77 new_address)
    (Err (Answer.InvalidAddress new_address))
    (do
      com_write (I2C_SLAVE_DEVICE_ADDRESS ∷ new_address ∷ [])
      set_self_address new_address)

-- lib.rs 203: set_signal_rate_limit
abbrev pub set_signal_rate_limit : ℕ → Fn Bool
set_signal_rate_limit limit =
    if (not (limit_contained limit))
    (Ok false)
    (do
      write_16bit FINAL_RANGE_CONFIG_MIN_COUNT_RATE_RTN_LIMIT (limit_word limit)
      Ok true)

-- lib.rs 260, start_continuous with a period
abbrev pub start_timed : ℕ → Fn Unit
start_timed period_millis = do
  osc_calibrate_value ← read_16bit OSC_CALIBRATE_VAL
  period ← multiply_period period_millis osc_calibrate_value
  write_32bit SYSTEM_INTERMEASUREMENT_PERIOD period
  write_byte SYSRANGE_START 0x04

-- lib.rs 260: start_continuous
abbrev pub start_continuous : ℕ → Fn Unit
start_continuous period_millis = do
  write_byte 0x80 0x01
  write_byte 0xFF 0x01
  write_byte 0x00 0x00
  self (λ chip. write_byte 0x91 chip.stop_variable)
  write_byte 0x00 0x01
  write_byte 0xFF 0x00
  write_byte 0x80 0x00
  if (not (eqb period_millis 0)) (start_timed period_millis) (write_byte SYSRANGE_START 0x02)
  Ok tt

-- lib.rs 298: stop_continuous
abbrev pub stop_continuous : Fn Unit
stop_continuous = do
  write_byte SYSRANGE_START 0x01
  write_byte 0xFF 0x01
  write_byte 0x00 0x00
  write_byte 0x91 0x00
  write_byte 0x00 0x01
  write_byte 0xFF 0x00
  Ok tt

-- lib.rs 928: clear_interrupt_status
abbrev pub clear_interrupt_status : Fn Unit
clear_interrupt_status = do
  write_byte SYSTEM_INTERRUPT_CLEAR 0x01
  write_byte SYSTEM_INTERRUPT_CLEAR 0x00

-- `match (range_err, write_err)`
abbrev pub match_both : Result ℕ → Result Unit → Result ℕ
match_both (ok res) (ok u) = ok res
match_both (err e) w = err e
match_both (ok res) (err e) = err e

-- lib.rs 311: read_range_mm
abbrev pub read_range_mm : Fn ℕ
read_range_mm = do
  r ← read_register RESULT_INTERRUPT_STATUS
  if (no_interrupt r)
      (Err Answer.WouldBlock)
      (do
        range_err ← try (read_16bit RESULT_RANGE_STATUS_plus_10)
        write_err ← try clear_interrupt_status
        hand (match_both range_err write_err))

-- lib.rs 332: read_range_continuous_millimeters_blocking
abbrev pub read_range_continuous_millimeters_blocking : Fn ℕ
read_range_continuous_millimeters_blocking = do
  while_idle 10000 RESULT_INTERRUPT_STATUS no_interrupt
  range_err ← try (read_16bit RESULT_RANGE_STATUS_plus_10)
  clear_interrupt_status
  hand range_err

-- lib.rs 352: read_range_single_millimeters_blocking
abbrev pub read_range_single_millimeters_blocking : Fn ℕ
read_range_single_millimeters_blocking = do
  write_byte 0x80 0x01
  write_byte 0xFF 0x01
  write_byte 0x00 0x00
  self (λ chip. write_byte 0x91 chip.stop_variable)
  write_byte 0x00 0x01
  write_byte 0xFF 0x00
  write_byte 0x80 0x00
  write_byte SYSRANGE_START 0x01
  while_idle 10000 SYSRANGE_START start_bit
  read_range_continuous_millimeters_blocking

-- SeqStepEnables
pub record Enables : Type 0 where
  pub tcc : Bool
  pub dss : Bool
  pub msrc : Bool
  pub pre_range : Bool
  pub final_range : Bool

-- `((sequence_config >> k) & 0x1) == 1`
unfoldable pub bit_on : ℕ → ℕ → Bool
bit_on k sequence_config = eqb (bit_and (sequence_config / 2 ^ k) 0x1) 1

abbrev pub enables_of : ℕ → Enables
enables_of sequence_config =
    record {
      tcc = bit_on 4 sequence_config;
      dss = bit_on 3 sequence_config;
      msrc = bit_on 2 sequence_config;
      pre_range = bit_on 6 sequence_config;
      final_range = bit_on 7 sequence_config;
    }

-- lib.rs 639: get_sequence_step_enables
abbrev pub get_sequence_step_enables : Fn Enables
get_sequence_step_enables = do
  sequence_config ← read_register SYSTEM_SEQUENCE_CONFIG
  Ok (enables_of sequence_config)

-- SeqStepTimeouts, the fields that are used
pub record Timeouts : Type 0 where
  pub pre_range_mclks : ℕ
  pub final_range_vcsel_period_pclks : ℕ
  pub msrc_dss_tcc_microseconds : ℕ
  pub pre_range_microseconds : ℕ
  pub final_range_microseconds : ℕ

-- lib.rs 652: get_sequence_step_timeouts
abbrev pub get_sequence_step_timeouts : Enables → Fn Timeouts
get_sequence_step_timeouts enables = do
  pre_range_word ← read_16bit PRE_RANGE_CONFIG_TIMEOUT_MACROP_HI
  pre_range_mclks ← decode_timeout pre_range_word
  final_range_word ← read_16bit FINAL_RANGE_CONFIG_TIMEOUT_MACROP_HI
  final_range_whole ← decode_timeout final_range_word
  final_range_mclks ← subtract_if enables.pre_range final_range_whole pre_range_mclks
  pre_range_byte ← read_register PRE_RANGE_CONFIG_VCSEL_PERIOD
  pre_range_pclks ← decode_vcsel_period pre_range_byte
  msrc_byte ← read_register MSRC_CONFIG_TIMEOUT_MACROP
  msrc_dss_tcc_mclks ← plus_one msrc_byte
  final_range_byte ← read_register FINAL_RANGE_CONFIG_VCSEL_PERIOD
  final_range_pclks ← decode_vcsel_period final_range_byte
  msrc_us ← timeout_mclks_to_microseconds msrc_dss_tcc_mclks pre_range_pclks
  pre_us ← timeout_mclks_to_microseconds pre_range_mclks pre_range_pclks
  final_us ← timeout_mclks_to_microseconds final_range_mclks final_range_pclks
  Ok
      (record {
        pre_range_mclks = pre_range_mclks;
        final_range_vcsel_period_pclks = final_range_pclks;
        msrc_dss_tcc_microseconds = msrc_us;
        pre_range_microseconds = pre_us;
        final_range_microseconds = final_us;
      })

-- the sum of get_measurement_timing_budget, line by line
unfoldable pub budget_microseconds : Enables → Timeouts → ℕ
budget_microseconds enables timeouts =
    let b₀ = 1910 + 960 in
    let b₁ = cond enables.tcc (b₀ + (timeouts.msrc_dss_tcc_microseconds + 590)) b₀ in
    let b₂ =
    cond enables.dss (b₁ + 2 * (timeouts.msrc_dss_tcc_microseconds + 690))
    (cond enables.msrc (b₁ + (timeouts.msrc_dss_tcc_microseconds + 660)) b₁)
    in
    let b₃ = cond enables.pre_range (b₂ + (timeouts.pre_range_microseconds + 660)) b₂ in
    cond enables.final_range (b₃ + (timeouts.final_range_microseconds + 550)) b₃

-- `2 * timeouts.msrc_dss_tcc_microseconds + dss_overhead`. SCOPE 2.6: what is counted here goes by the rules
abbrev pub dss_microseconds : Rules → ℕ → ℕ
dss_microseconds Rules.First msrc = 2 * msrc + 690
dss_microseconds Rules.Current msrc = 2 * msrc + 690

-- and the sum of set_measurement_timing_budget
unfoldable pub use_budget_microseconds : Rules → Enables → Timeouts → ℕ
use_budget_microseconds rules enables timeouts =
    let b₀ = 1320 + 960 in
    let b₁ = cond enables.tcc (b₀ + (timeouts.msrc_dss_tcc_microseconds + 590)) b₀ in
    let b₂ =
    cond enables.dss (b₁ + dss_microseconds rules timeouts.msrc_dss_tcc_microseconds)
    (cond enables.msrc (b₁ + (timeouts.msrc_dss_tcc_microseconds + 660)) b₁)
    in
    let b₃ = cond enables.pre_range (b₂ + (timeouts.pre_range_microseconds + 660)) b₂ in
    cond enables.final_range (b₃ + 550) b₃

-- lib.rs 693: get_measurement_timing_budget
unfoldable pub get_measurement_timing_budget : Fn ℕ
get_measurement_timing_budget = do
  enables ← get_sequence_step_enables
  timeouts ← get_sequence_step_timeouts enables
  Ok (budget_microseconds enables timeouts)

-- lib.rs 732, set_measurement_timing_budget after its first test: the final range timeout is computed and written whether or not final range is on
abbrev pub set_budget_from_reads : Rules → ℕ → Fn Bool
set_budget_from_reads rules budget_microseconds = do
  enables ← get_sequence_step_enables
  timeouts ← get_sequence_step_timeouts enables
  if (ltb budget_microseconds (use_budget_microseconds rules enables timeouts))
      (Ok false)
      (do
        clocks ←
            timeout_microseconds_to_mclks
            (budget_microseconds - use_budget_microseconds rules enables timeouts)
            timeouts.final_range_vcsel_period_pclks
        final_range_timeout_mclks ← add_if enables.pre_range (clocks % 65536) timeouts.pre_range_mclks
        write_16bit FINAL_RANGE_CONFIG_TIMEOUT_MACROP_HI (encode_timeout final_range_timeout_mclks)
        set_self_budget budget_microseconds
        Ok true)

unfoldable pub set_measurement_timing_budget : Rules → ℕ → Fn Bool
set_measurement_timing_budget rules budget_microseconds =
    if (ltb budget_microseconds 20000) (Ok false) (set_budget_from_reads rules budget_microseconds)

-- lib.rs 827: set_interrupt_thresholds_mm
abbrev pub set_interrupt_thresholds_mm : ℕ → ℕ → Fn Unit
set_interrupt_thresholds_mm low_mm high_mm =
    if (ltb high_mm low_mm)
    (Err Answer.InvalidArgument)
    (if (ltb 8190 low_mm || ltb 8190 high_mm)
    (Err Answer.InvalidArgument)
    (do
      write_16bit SYSTEM_THRESH_LOW (threshold_raw low_mm)
      write_16bit SYSTEM_THRESH_HIGH (threshold_raw high_mm)
      Ok tt))

-- lib.rs 854: get_interrupt_thresholds_mm
abbrev pub get_interrupt_thresholds_mm : Fn (ℕ × ℕ)
get_interrupt_thresholds_mm = do
  low_raw ← read_16bit SYSTEM_THRESH_LOW
  high_raw ← read_16bit SYSTEM_THRESH_HIGH
  Ok (threshold_mm low_raw, threshold_mm high_raw)

-- lib.rs 892, set_gpio_config: `!0x10` is 0xEF
abbrev pub set_gpio_config : ℕ → ℕ → Fn Unit
set_gpio_config func polarity = do
  write_byte SYSTEM_INTERRUPT_CONFIG_GPIO (get_or (0x04 ∷ 0x01 ∷ 0x02 ∷ 0x03 ∷ []) func 0)
  high_reg ← read_register GPIO_HV_MUX_ACTIVE_HIGH
  write_byte GPIO_HV_MUX_ACTIVE_HIGH (cond (eqb polarity 0) (and_u8 high_reg 0xEF) (or_u8 high_reg 0x10))
  clear_interrupt_status
  Ok tt
