-- The number of call 14, and the way back of call 16. SCOPE 5.11: in 0.0..=511.99 the limit times 128, cut to a whole number; NaN and everything
-- outside have none. SCOPE 5.12: a word reads as the float of word / 128.
use Rattle.std.specs.Prelude.{Bool, false, ◌&&◌, cond, ℕ, ◌*◌, ◌/◌, Float, pos, Option, None, Some}
use Rattle.std.specs.Float.{binary32}
use Rattle.std.specs.Float.Ieee.{round, of_bits, to_bits, le, mul, div, of_int, to_unsigned}
use Rattle.std.specs.Float.Ieee.Positive.{num, den}

-- the `f32` nearest to a / b, as a Rust compiler reads the literals 0.0 and 511.99
unfoldable pub literal : ℕ → ℕ → Float
literal a b = round binary32 false a b

-- lib.rs, set_signal_rate_limit: `(0.0..=511.99).contains(&limit)`. No comparison with a NaN holds, and -0.0 equals 0.0.
unfoldable pub in_range : Float → Bool
in_range x = le (literal 0 1) x && le x (literal 51199 100)

-- The size of a finite x is the fraction num x / den x, exactly, so this is the limit times 128, cut. SCOPE 5.11: −0.0 writes 0.
unfoldable pub rate_of : Float → Option ℕ
rate_of x = cond (in_range x) (Some (num x * 128 / den x)) None

-- SCOPE 5.11: the argument is the bits of a 32-bit float, in MCPS
unfoldable pub signal_rate_limit_word : ℕ → Option ℕ
signal_rate_limit_word bits = rate_of (of_bits binary32 bits)

-- lib.rs, set_signal_rate_limit: `(limit * ((1 << 7) as f32)) as u16`. In range the word is this (`as_rust_lem` of proofs/Laws.antt)
abbrev pub as_rust : Float → ℕ
as_rust x = to_unsigned 16 (mul binary32 x (literal 128 1))

-- SCOPE 5.12: the limit that a word of the register stands for, word / 128 MCPS, as the bits of a 32-bit float. ReadBack: it is that number exactly
unfoldable pub signal_rate_limit_bits : ℕ → ℕ
signal_rate_limit_bits word = to_bits binary32 (literal word 128)

-- as Rust has it, `(word as f32 / 128.0).to_bits()`: for every word this is that (`read_as_rust_lem` of proofs/Laws.antt)
abbrev pub read_as_rust : ℕ → ℕ
read_as_rust word = to_bits binary32 (div binary32 (of_int binary32 (pos word)) (literal 128 1))
