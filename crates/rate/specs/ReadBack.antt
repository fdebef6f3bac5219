-- What a word of the register reads as, and what setting that does. SCOPE 5.12.
use Rattle.std.specs.Prelude.{◌≡◌, false, [], ◌∷◌, map, ℕ, ◌^◌, ◌≤◌, ◌<◌, None, Some}
use Rattle.std.specs.Float.{binary32}
use Rattle.std.specs.Float.Ieee.{of_bits}
use Rattle.std.specs.Float.Ieee.Exact.{HasValue}
use Rattle.rate.specs.Rate.{signal_rate_limit_word, signal_rate_limit_bits}

-- the pattern's float is finite, not negative, and the number word / 128 exactly
abbrev pub IsLimitOf : ℕ → ℕ → Type 0
IsLimitOf word bits = HasValue (of_bits binary32 bits) false word 128

-- SCOPE 11.1: the patterns of 0, 1/128, 0.25, 1, 511.984375 and 511.9921875
abbrev pub LimitValues : Type 0
LimitValues =
    map signal_rate_limit_bits (0 ∷ 1 ∷ 32 ∷ 128 ∷ 65534 ∷ 65535 ∷ [])
    ≡ 0x0000_0000 ∷ 0x3C00_0000 ∷ 0x3E80_0000 ∷ 0x3F80_0000 ∷ 0x43FF_FE00 ∷ 0x43FF_FF00 ∷ []

pub record ReadBack : Type 0 where
  -- a word reads as 32 bits
  pub fits : (word : ℕ) → signal_rate_limit_bits word < 2 ^ 32
  pub exact : (word : ℕ) → word < 65536 → IsLimitOf word (signal_rate_limit_bits word)
  -- no other pattern of 32 bits is; that of −0.0, which is 0 too, has the other sign
  pub only : (word bits : ℕ) → word < 65536 → bits < 2 ^ 32 → IsLimitOf word bits → bits ≡ signal_rate_limit_bits word
  -- setting what was read writes the same word
  pub same : (word : ℕ) → word ≤ 65534 → signal_rate_limit_word (signal_rate_limit_bits word) ≡ Some word
  -- but the greatest reads as 511.9921875, which is not in range
  pub greatest : signal_rate_limit_word (signal_rate_limit_bits 65535) ≡ None
  -- different words read as different patterns
  pub apart : (word other : ℕ) → word < 65536 → other < 65536 → signal_rate_limit_bits word ≡ signal_rate_limit_bits other → word ≡ other
  pub values : LimitValues
