-- The private arithmetic of lib.rs in its own formulas, with the place of each panic.
use Rattle.std.specs.Prelude.{Bool, true, false, ◌||◌, ◌&&◌, cond, ℕ, zero, suc, ◌+◌, ◌*◌, ◌-◌, ◌%◌, ◌/◌, ◌^◌, eqb, ltb, leb}
use Rattle.std.specs.Int.Bits.{bit_or, bit_and}
use Rattle.std.specs.Float.{binary32}
use Rattle.std.specs.Float.Ieee.{round, of_bits, le, mul, to_unsigned}
use Rattle.session.specs.RustFn.{Fn, Ok, panic, if}

-- `|` and `&` of u8
unfoldable pub or_u8 : ℕ → ℕ → ℕ
or_u8 x m = bit_or (x % 256) (m % 256)

unfoldable pub and_u8 : ℕ → ℕ → ℕ
and_u8 x m = bit_and (x % 256) (m % 256)

abbrev pub over_u32 : ℕ → Bool
over_u32 n = ltb 4294967295 n

-- the tests of the waits: `(r & 0x07) == 0`, `(r & 0x01) != 0`
unfoldable pub no_interrupt : ℕ → Bool
no_interrupt r = eqb (bit_and r 0x07) 0

unfoldable pub start_bit : ℕ → Bool
start_bit r = ltb 0 (bit_and r 0x01)

-- get_spad_info: `tmp & 0x7f`, `(tmp >> 7) & 0x01`
unfoldable pub spad_count : ℕ → ℕ
spad_count tmp = bit_and tmp 0x7F

unfoldable pub type_is_aperture : ℕ → ℕ
type_is_aperture tmp = bit_and (tmp / 2 ^ 7) 0x01

-- set_interrupt_thresholds_mm: `(mm >> 1) & 0x0FFF`; get_interrupt_thresholds_mm: `(raw & 0x0FFF) << 1`
unfoldable pub threshold_raw : ℕ → ℕ
threshold_raw mm = bit_and (mm / 2) 0x0FFF

unfoldable pub threshold_mm : ℕ → ℕ
threshold_mm raw = bit_and raw 0x0FFF * 2

-- set_signal_rate_limit: `(0.0..=511.99).contains(&limit)`, `(limit * ((1 << 7) as f32)) as u16`; a float is given by its bits
unfoldable pub limit_contained : ℕ → Bool
limit_contained bits = le (round binary32 false 0 1) (of_bits binary32 bits) && le (of_bits binary32 bits) (round binary32 false 51199 100)

unfoldable pub limit_word : ℕ → ℕ
limit_word bits = to_unsigned 16 (mul binary32 (of_bits binary32 bits) (round binary32 false 128 1))

-- start_continuous: `if osc != 0 { period_millis *= osc as u32; }`
unfoldable pub multiply_period : ℕ → ℕ → Fn ℕ
multiply_period period osc = if (eqb osc 0) (Ok period) (if (over_u32 (period * osc)) (panic 1) (Ok (period * osc)))

-- lib.rs 981, decode_timeout: the low byte of a word shifted left by its high byte, plus 1, in 16 bits
unfoldable pub decode_timeout : ℕ → Fn ℕ
decode_timeout register_value =
    if (leb 16 (register_value / 256)) (panic 2) (Ok (register_value % 256 * 2 ^ (register_value / 256) % 65536 + 1))

-- `while (ls_byte & 0xFFFFFF00) > 0 { ls_byte >>= 1; ms_byte += 1; }`, then `(ms_byte << 8) | (ls_byte & 0xFF)`; a word takes at most 8 rounds
abbrev pub encode_loop : ℕ → ℕ → ℕ → ℕ
encode_loop zero ms_byte ls_byte = ms_byte * 256 + ls_byte % 256
encode_loop (suc n) ms_byte ls_byte =
    elim (ltb 0 (ls_byte / 256)) [ true ↦ encode_loop n (suc ms_byte) (ls_byte / 2) | false ↦ ms_byte * 256 + ls_byte % 256 ]

-- lib.rs 986: encode_timeout
unfoldable pub encode_timeout : ℕ → ℕ
encode_timeout timeout_mclks = cond (eqb timeout_mclks 0) 0 (encode_loop 8 0 (timeout_mclks - 1))

-- lib.rs 1028, decode_vcsel_period: `(register_value + 1) << 1`, on u8
unfoldable pub decode_vcsel_period : ℕ → Fn ℕ
decode_vcsel_period register_value = if (eqb register_value 255) (panic 4) (Ok ((register_value + 1) * 2 % 256))

-- lib.rs 1003: calc_macro_period
abbrev pub calc_macro_period : ℕ → ℕ
calc_macro_period vcsel_period_pclks = (2304 * vcsel_period_pclks * 1655 + 500) / 1000

-- lib.rs 1007, timeout_mclks_to_microseconds: the product, then the sum
unfoldable pub timeout_mclks_to_microseconds : ℕ → ℕ → Fn ℕ
timeout_mclks_to_microseconds mclks pclks =
    let macro = calc_macro_period pclks in
    if (over_u32 (mclks * macro) || over_u32 (mclks * macro + macro / 2)) (panic 6) (Ok ((mclks * macro + macro / 2) / 1000))

-- lib.rs 1017, timeout_microseconds_to_mclks: the product, the sum, then the division
unfoldable pub timeout_microseconds_to_mclks : ℕ → ℕ → Fn ℕ
timeout_microseconds_to_mclks microseconds pclks =
    let macro = calc_macro_period pclks in
    if (over_u32 (microseconds * 1000) || over_u32 (microseconds * 1000 + macro / 2)) (panic 7)
    (if (eqb macro 0) (panic 8) (Ok ((microseconds * 1000 + macro / 2) / macro)))

-- `if enables.pre_range { final_range_mclks -= pre_range_mclks; }`, on u16
unfoldable pub subtract_if : Bool → ℕ → ℕ → Fn ℕ
subtract_if pre_range final_range_mclks pre_range_mclks =
    if pre_range (if (ltb final_range_mclks pre_range_mclks) (panic 3) (Ok (final_range_mclks - pre_range_mclks))) (Ok final_range_mclks)

-- `if enables.pre_range { final_range_timeout_mclks += timeouts.pre_range_mclks; }`, on u16
unfoldable pub add_if : Bool → ℕ → ℕ → Fn ℕ
add_if pre_range final_range_timeout_mclks pre_range_mclks =
    if pre_range (if (ltb 65535 (final_range_timeout_mclks + pre_range_mclks)) (panic 9) (Ok (final_range_timeout_mclks + pre_range_mclks))) (Ok final_range_timeout_mclks)

-- `self.read_register(..)? + 1`, on u8
unfoldable pub plus_one : ℕ → Fn ℕ
plus_one x = if (ltb 255 (x + 1)) (panic 5) (Ok (x + 1))
