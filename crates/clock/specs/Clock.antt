-- SCOPE 3.1, row by row.
-- Where the Rust, built with overflow checks, panics, the answer is the place of that arithmetic (SCOPE 9.4).
use Rattle.std.specs.Prelude.{ℕ, zero, suc, ◌+◌, ◌-◌, ◌*◌, ◌/◌, ◌%◌, ◌^◌, cond, ◌==◌, nat_le, nat_lt, Result, Ok, Err}
use Rattle.clock.specs.declared.Mclks.{Mclks}
use Rattle.clock.specs.declared.WideMclks.{WideMclks}
use Rattle.clock.specs.declared.Pclks.{Pclks}
use Rattle.clock.specs.declared.Microseconds.{Microseconds}
use Rattle.clock.specs.declared.Nanoseconds.{Nanoseconds}
use Rattle.clock.specs.declared.Place.{Place}

-- x << k in w bits: what is shifted out of a byte or a word is lost (SCOPE 3.1)
abbrev pub shifted : ℕ → ℕ → ℕ → ℕ
shifted w x k = x * 2 ^ k % 2 ^ w

-- x added to itself k times over, each time in w bits: the shift, in any width (`doubling_shifts` of proofs/Doubling.antt)
unfoldable pub doubled_in : ℕ → ℕ → ℕ → ℕ
doubled_in w x zero = x
doubled_in w x (suc k) = (doubled_in w x k + doubled_in w x k) % 2 ^ w

-- low byte shifted left by the high byte, plus 1; a high byte of 16 or more is place 2. lib.rs: decode_timeout
unfoldable pub decoded_timeout : ℕ → Result Mclks Place
decoded_timeout w =
    cond (nat_le 16 (w / 256)) (Err Place.TimeoutShift)
    (Ok (record { 0 = shifted 16 (w % 256) (w / 256) + 1 }))

-- n halved until it is at most 255, at most f times: exponent × 256 + what is left
unfoldable pub halved_in : ℕ → ℕ → ℕ
halved_in zero n = n
halved_in (suc f) n = cond (nat_le n 255) n (256 + halved_in f (n / 2))

-- a 16-bit number is at most 255 after 8 halvings; more change nothing (`enough` of proofs/Halving.antt)
unfoldable pub halved : ℕ → ℕ
halved n = halved_in 8 n

-- 0 gives 0; else t − 1 is halved until it is 255 or less: the number of halvings times 256, plus what is left. lib.rs: encode_timeout
unfoldable pub encoded_timeout : Mclks → ℕ
encoded_timeout t = cond (t.0 == 0) 0 (halved (t.0 - 1))

-- the register plus 1, doubled in a byte; 255 is place 4. lib.rs: decode_vcsel_period
unfoldable pub decoded_vcsel_period : ℕ → Result Pclks Place
decoded_vcsel_period r = cond (r == 255) (Err Place.VcselPeriod) (Ok (record { 0 = shifted 8 (r + 1) 1 }))

-- half, minus 1; periods 0 and 1 are place 4. lib.rs: encode_vcsel_period, which is never called (SCOPE 2.1)
unfoldable pub encoded_vcsel_period : Pclks → Result ℕ Place
encoded_vcsel_period p = cond (nat_le p.0 1) (Err Place.VcselPeriod) (Ok (p.0 / 2 - 1))

-- (2304 × period × 1655 + 500) / 1000. lib.rs: calc_macro_period
abbrev pub macro_period : Pclks → Nanoseconds
macro_period p = record { 0 = (2304 * p.0 * 1655 + 500) / 1000 }

-- (clocks × macro period + macro period / 2) / 1000; a product or sum above 4,294,967,295 is place 6.
-- The product is at most the sum, so one test serves both.
unfoldable pub microseconds_of : Mclks → Nanoseconds → Result Microseconds Place
microseconds_of t ns =
    let sum = t.0 * ns.0 + ns.0 / 2 in
    cond (nat_lt 4294967295 sum) (Err Place.ToMicroseconds) (Ok (record { 0 = sum / 1000 }))

-- lib.rs: timeout_mclks_to_microseconds
abbrev pub mclks_to_microseconds : Mclks → Pclks → Result Microseconds Place
mclks_to_microseconds t p = microseconds_of t (macro_period p)

-- (microseconds × 1000 + macro period / 2) / macro period; first place 7, then place 8 for a macro period of 0
unfoldable pub mclks_of : Microseconds → Nanoseconds → Result WideMclks Place
mclks_of t ns =
    let sum = t.0 * 1000 + ns.0 / 2 in
    cond (nat_lt 4294967295 sum) (Err Place.ToMclks)
    (cond (ns.0 == 0) (Err Place.NoMacroPeriod) (Ok (record { 0 = sum / ns.0 })))

-- lib.rs: timeout_microseconds_to_mclks
abbrev pub microseconds_to_mclks : Microseconds → Pclks → Result WideMclks Place
microseconds_to_mclks t p = mclks_of t (macro_period p)

-- SCOPE 5.5: the clocks are cut to 16 bits. lib.rs: the `as u16` of set_measurement_timing_budget
abbrev pub cut_mclks : WideMclks → Mclks
cut_mclks t = record { 0 = t.0 % 65536 }
