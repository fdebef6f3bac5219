-- What each branch of `signal_rate_limit_word` says of the definition:
-- a NaN's pattern and a value out of range are refused, in range the word is the product's cast.
use mathlib.Core.Path.{◌≡◌, refl, sym, ap, ◌∙◌, subst}
use mathlib.Core.Bool.{Bool, true, false, not, ◌&&◌, cond, and-false}
use Prim.Native.Nat.{ℕ, ◌*◌, ◌/◌, ◌%◌, ◌^◌, ◌≤◌, ◌<◌}
use borrow.Author.Tests.{le-ltb}
use lib.Dec.{T}
use lib.Ieee.{Float, binary32, round, of_bits, to_bits, nan_bits, le, mul, to_unsigned}
use lib.Ieee.Bits.{nan_bits_above, of_bits-to_bits}
use lib.Ieee.Fits.{and_l, and_r, mul-fits}
use lib.Ieee.Positive.{num, den}
use Rattle.rate.specs.Rate.{literal, in_range, rate_of, signal_rate_limit_word}
use Rattle.std.specs.Prelude.{None, Some}
use Rattle.rate.proofs.Fields.{nan_pattern}
use Rattle.rate.proofs.Product.{zero_limit, top_limit, scale, Scaled, scaled_pattern}

-- ---- NaN patterns
pub no_nan : (b : ℕ) → b % 2 ^ 31 ≤ 0x7f80_0000 → T (not (nan_bits binary32 b))
no_nan b h = rw (nan_bits_above binary32 b, le-ltb _ _ h) tt

pub refused_nan : (b : ℕ) → 0x7f80_0000 < b % 2 ^ 31 → None ≡ signal_rate_limit_word b
unfolding signal_rate_limit_word rate_of in_range literal round le
refused_nan b h = sym (ap rate_of (nan_pattern b h))

-- ---- the range: the definition's literals are the code's
in_range_lem : (x : Float) → in_range x ≡ le zero_limit x && le x top_limit
unfolding in_range literal round of_bits
in_range_lem x = refl

pub rate_of_lem : (x : Float) (k : Bool) → in_range x ≡ k → rate_of x ≡ cond k (Some (num x * 128 / den x)) None
unfolding rate_of
rate_of_lem x k h = ap (λ (z : Bool). cond z (Some (num x * 128 / den x)) None) h

pub refused_below : (b : ℕ) → le zero_limit (of_bits binary32 b) ≡ false → None ≡ signal_rate_limit_word b
unfolding signal_rate_limit_word
refused_below b h = sym (rate_of_lem (of_bits binary32 b) false (in_range_lem (of_bits binary32 b) ∙ rw h))

pub refused_above : (b : ℕ) → le (of_bits binary32 b) top_limit ≡ false → None ≡ signal_rate_limit_word b
unfolding signal_rate_limit_word
refused_above b h = sym (rate_of_lem (of_bits binary32 b) false (in_range_lem (of_bits binary32 b) ∙ rw (h, and-false)))

pub ranged : (x : Float) → le zero_limit x ≡ true → le x top_limit ≡ true → in_range x ≡ true
ranged x lo hi = in_range_lem x ∙ rw (lo, hi)

-- ---- a pattern in range
module _ (b : ℕ) (h : in_range (of_bits binary32 b) ≡ true) where
  abbrev product : Float
  product = mul binary32 (of_bits binary32 b) scale

  scaled : Scaled (of_bits binary32 b)
  scaled =
      let x = of_bits binary32 b in
      let t : T (le zero_limit x && le x top_limit) = subst T (sym h ∙ in_range_lem x) tt in
      scaled_pattern b (and_l (le zero_limit x) (le x top_limit) t) (and_r (le zero_limit x) (le x top_limit) t)

  pub word : Some (to_unsigned 16 product) ≡ signal_rate_limit_word b
  unfolding signal_rate_limit_word
  word = ap Some scaled ∙ sym (rate_of_lem (of_bits binary32 b) true h)

  pub word_by_bits : Some (to_unsigned 16 (of_bits binary32 (to_bits binary32 product))) ≡ signal_rate_limit_word b
  word_by_bits = ap (λ (y : Float). Some (to_unsigned 16 y)) (of_bits-to_bits binary32 product (mul-fits binary32 (of_bits binary32 b) scale)) ∙ word
