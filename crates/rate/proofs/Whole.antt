-- The answers of `whole_part`, each from what its branch says of the pattern b: the units of b's value divided by 2 ^ 149, and at most 65535.
use mathlib.Core.Path.{◌≡◌, refl, sym, ap, ◌∙◌}
use mathlib.Core.Logic.{inl, inr}
use mathlib.Core.Bool.{Bool, true, false, cond}
use Prim.Native.Nat.{ℕ, zero, suc, pred, ◌+◌, ◌-◌, ◌*◌, ◌/◌, ◌%◌, ◌^◌, ◌≤◌, ◌<◌, min}
use native.Mathlib.Nat.{lt_of_lt_of_le, eq-or-lt_of_le, div-eq_of_lt, div-lt_iff_lt-mul, le-div_iff_mul-le, mul-div-mul_right, mul-le-mul}
use native.Mathlib.Omega.{arith}
use borrow.Author.Tests.{leb-false, lt-leb, ne_eqb}
use lib.Pow.{pow_pos, pow_mono, pow-add, shl_lt}
use lib.Ieee.{Float, binary32, of_bits, to_unsigned}
use Rattle.rate.proofs.Fields.{sign, exponent, fraction, moved_up, units, significand_lt, Valued, value, by_kind, nan_pattern, unsigned, uncapped}

-- ---- the units that an exponent's field allows
units_lt : (b k : ℕ) → exponent b ≤ suc k → units b < 2 ^ (24 + k)
units_lt b k h = lt_of_lt_of_le (shl_lt 24 (pred (exponent b)) (significand_lt b)) (pow_mono (omega arith))

units_ge : (x t k : ℕ) → suc k ≤ x → 2 ^ 23 * 2 ^ k ≤ moved_up x t
units_ge zero t k h = absurd (omega arith)
units_ge (suc j) t k h = mul-le-mul (omega arith) (pow_mono (omega arith))

moved : (q k m : ℕ) → q * 2 ^ k / 2 ^ (m + k) ≡ q / 2 ^ m
moved q k m = rw (pow-add 2 m k) (mul-div-mul_right q (2 ^ m) (pow_pos k))

units_div : (x t : ℕ) → 0 < x → x ≤ 150 → moved_up x t / 2 ^ 149 ≡ (2 ^ 23 + t) / 2 ^ (150 - x)
units_div zero t p h = absurd (omega arith)
units_div (suc j) t p h =
    let places : 149 ≡ 150 - suc j + j = omega arith in
    ap (λ (n : ℕ). (2 ^ 23 + t) * 2 ^ j / 2 ^ n) places ∙ moved (2 ^ 23 + t) j (150 - suc j)

-- ---- the sign is set, or a NaN
as_value : (b : ℕ) → Valued b → to_unsigned 16 (of_bits binary32 b) ≡ cond (sign b) 0 (min (units b / 2 ^ 149) 65535)
as_value b h = unsigned (of_bits binary32 b) (sign b) (units b) (2 ^ 149) (pow_pos 149) h

negative : (b : ℕ) → sign b ≡ true → to_unsigned 16 (of_bits binary32 b) ≡ 0
unfolding to_unsigned
negative b e = by_kind b (λ (y : Float). to_unsigned 16 y ≡ 0) (λ h. as_value b h ∙ rw e) (rw e) refl

pub nan_or_negative : (b : ℕ) → 0x7f80_0000 < b → 0 ≡ to_unsigned 16 (of_bits binary32 b)
unfolding to_unsigned
nan_or_negative b h = by_sign (sign b) refl
  where
    by_sign : (s : Bool) → sign b ≡ s → 0 ≡ to_unsigned 16 (of_bits binary32 b)
    by_sign true e = sym (negative b e)
    by_sign false e = sym (ap (to_unsigned 16) (nan_pattern b (omega (arith, leb-false (2 ^ 31) b e))))

-- ---- a finite pattern whose sign is not set
finite_field : (b : ℕ) → b < 0x7f80_0000 → exponent b ≡ 255 → ⊥
finite_field b h e = omega arith

plain : (b : ℕ) → b < 0x7f80_0000 → to_unsigned 16 (of_bits binary32 b) ≡ min (units b / 2 ^ 149) 65535
plain b h =
    let e : sign b ≡ false = lt-leb (2 ^ 31) b (omega arith) in
    as_value b (value b (ne_eqb (exponent b) 255 (finite_field b h))) ∙ rw e

pub below_one : (b : ℕ) → b < 0x3f80_0000 → 0 ≡ to_unsigned 16 (of_bits binary32 b)
below_one b h =
    sym (plain b (omega arith) ∙ ap (λ (n : ℕ). min n 65535) (div-eq_of_lt (units_lt b 125 (omega arith))))

capped : (n : ℕ) → 65536 ≤ n → min n 65535 ≡ 65535
capped n h = omega arith

large : (b : ℕ) → 0x477f_ffff < b → b < 0x7f80_0000 → 65535 ≡ to_unsigned 16 (of_bits binary32 b)
large b h l =
    let many : 65536 * 2 ^ 149 ≤ units b = units_ge (exponent b) (fraction b) 142 (omega arith) in
    sym (plain b l ∙ capped _ ((le-div_iff_mul-le (pow_pos 149)).1 many))

infinity : 65535 ≡ to_unsigned 16 (of_bits binary32 0x7f80_0000)
unfolding to_unsigned of_bits
infinity = refl

pub from_65536 : (b : ℕ) → 0x477f_ffff < b → b ≤ 0x7f80_0000 → 65535 ≡ to_unsigned 16 (of_bits binary32 b)
from_65536 b h l = elim (eq-or-lt_of_le l) [ inl e ↦ rw e infinity | inr k ↦ large b h k ]

pub digits : (b : ℕ) → 0x3f80_0000 ≤ b → b ≤ 0x477f_ffff → (2 ^ 23 + b % 2 ^ 23) / 2 ^ (150 - b / 2 ^ 23) ≡ to_unsigned 16 (of_bits binary32 b)
digits b l h =
    let few : units b < 65536 * 2 ^ 149 = units_lt b 141 (omega arith) in
    let same : exponent b ≡ b / 2 ^ 23 = omega arith in
    sym
    (plain b (omega arith)
    ∙ uncapped _ ((div-lt_iff_lt-mul (pow_pos 149)).1 few)
    ∙ units_div (exponent b) (fraction b) (omega arith) (omega arith)
    ∙ ap (λ (x : ℕ). (2 ^ 23 + b % 2 ^ 23) / 2 ^ (150 - x)) same)
