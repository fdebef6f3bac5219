-- The value of an `f32`'s bit pattern by its fields: so many units of 2 ^ -149, the significand moved up by the places that the exponent's field says.
-- And Rust's cast to a `u16` of a value that is given as a fraction.
use mathlib.Core.Path.{◌≡◌, refl, sym, ◌∙◌, subst}
use mathlib.Core.Bool.{Bool, true, false, cond, true≢false}
use Prim.Native.Nat.{ℕ, zero, suc, pred, ◌+◌, ◌*◌, ◌/◌, ◌%◌, ◌^◌, ◌<◌, min}
use native.Mathlib.Nat.{mod-lt}
use native.Mathlib.Omega.{arith}
use borrow.Author.Tests.{eqb-true, lt-ltb}
use lib.Dec.{leb, eqb}
use lib.Pow.{pow_pos}
use lib.Ieee.{Float, nan, inf, fin, binary32, up, down, of_fields, of_bits, is_nan, to_unsigned}
use lib.Ieee.Bits.{nan_bits_is, nan_bits_above}
use lib.Ieee.Fits.{down_pos}
use lib.Ieee.Exact.{HasValue, odd_sign}
use lib.Ieee.Nearest.{div_same}

-- ---- the fields of the pattern b
abbrev pub sign : ℕ → Bool
sign b = leb (2 ^ 31) b

abbrev pub exponent : ℕ → ℕ
exponent b = b % 2 ^ 31 / 2 ^ 23

abbrev pub fraction : ℕ → ℕ
fraction b = b % 2 ^ 23

-- with the exponent's field 0 there is no leading digit, and the field counts as 1
abbrev pub significand : ℕ → ℕ → ℕ
significand zero t = t
significand (suc j) t = 2 ^ 23 + t

abbrev pub moved_up : ℕ → ℕ → ℕ
moved_up x t = significand x t * 2 ^ pred x

abbrev pub units : ℕ → ℕ
units b = moved_up (exponent b) (fraction b)

lead_lt : (x t : ℕ) → t < 2 ^ 23 → significand x t < 2 ^ 24
lead_lt zero t h = omega arith
lead_lt (suc j) t h = omega arith

pub significand_lt : (b : ℕ) → significand (exponent b) (fraction b) < 2 ^ 24
significand_lt b = lead_lt (exponent b) (fraction b) (mod-lt b (pow_pos 23))

-- ---- the value: with the exponent's field 255 a NaN or an infinity
of_fields_lem : (s : Bool) (x t : ℕ) → eqb x 255 ≡ false → HasValue (of_fields binary32 s x t) s (moved_up x t) (2 ^ 149)
unfolding of_fields
of_fields_lem s zero t h = odd_sign 24 s t 0 149
of_fields_lem s (suc j) t h = rw h (odd_sign 24 s (2 ^ 23 + t) j 149)

module _ (b : ℕ) where
  abbrev pub Valued : Type 0
  Valued = HasValue (of_bits binary32 b) (sign b) (units b) (2 ^ 149)

  pub value : eqb (exponent b) 255 ≡ false → Valued
  unfolding of_bits
  value h = of_fields_lem (sign b) (exponent b) (fraction b) h

  special : eqb (exponent b) 255 ≡ true → of_bits binary32 b ≡ cond (eqb (fraction b) 0) (inf (sign b)) nan
  unfolding of_bits of_fields
  special h = rw (eqb-true (exponent b) 255 h)

  -- what holds of b's value, of the infinity of b's sign and of NaN holds of b's float
  module _ (P : Float → Type 0) (finite : Valued → P (of_bits binary32 b)) (infinite : P (inf (sign b))) (none : P nan) where
    either : (z : Bool) → P (cond z (inf (sign b)) nan)
    either true = infinite
    either false = none

    by_exponent : (k : Bool) → eqb (exponent b) 255 ≡ k → P (of_bits binary32 b)
    by_exponent true h = subst P (sym (special h)) (either (eqb (fraction b) 0))
    by_exponent false h = finite (value h)

    pub by_kind : P (of_bits binary32 b)
    by_kind = by_exponent (eqb (exponent b) 255) refl

-- ---- NaN patterns
is_nan_lem : (y : Float) → is_nan y ≡ true → y ≡ nan
unfolding is_nan
is_nan_lem nan h = refl
is_nan_lem (inf s) h = absurd (true≢false (sym h))
is_nan_lem (fin s m e) h = absurd (true≢false (sym h))

pub nan_pattern : (b : ℕ) → 0x7f80_0000 < b % 2 ^ 31 → of_bits binary32 b ≡ nan
nan_pattern b h = is_nan_lem (of_bits binary32 b) (sym (nan_bits_is binary32 b) ∙ nan_bits_above binary32 b ∙ lt-ltb _ _ h)

-- ---- a float that is the fraction a / c, as a `u16`
pub unsigned : (y : Float) (s : Bool) (a c : ℕ) → 0 < c → HasValue y s a c → to_unsigned 16 y ≡ cond s 0 (min (a / c) 65535)
unfolding to_unsigned
unsigned nan s a c C h = absurd h
unsigned (inf t) s a c C h = absurd h
unsigned (fin t m e) s a c C h = rw (h.0, div_same (m * up e) (down e) a c (down_pos e) C h.1)

pub uncapped : (n : ℕ) → n < 65536 → min n 65535 ≡ n
uncapped n h = omega arith
