-- A limit in 0.0..=511.99 times 128 is exact in an `f32` and below 2 ^ 16, so that the cast of the product is the limit's own value times 128, cut.
use mathlib.Core.Path.{◌≡◌, refl, sym, ap, ◌∙◌}
use mathlib.Core.Bool.{Bool, true, false, not, ◌&&◌, ◌||◌, cond}
use Prim.Native.Nat.{ℕ, zero, suc, pred, ◌+◌, ◌-◌, ◌*◌, ◌/◌, ◌%◌, ◌^◌, ◌≤◌, ◌<◌, min, compare}
use native.Mathlib.Nat.{lt_of_lt_of_le, le_of_eq, le_of_lt, zero-div, div-lt_iff_lt-mul}
use native.Mathlib.Nat.{mul-one, mul_comm, mul_assoc, mul_right_comm, mul-lt-mul_of_pos_right, lt_of_mul-lt-mul_right}
use native.Mathlib.Omega.{arith}
use borrow.Author.Tests.{ltb-true}
use lib.Dec.{T, ltb, eqb, eqb→eq, lit≤}
use lib.Pow.{pow-add, pow_pos}
use lib.Ieee.{Float, nan, inf, fin, binary32, unlike, up, down, size, nearest, odd, units, round, of_bits, is_nan, le, mul, to_unsigned}
use lib.Ieee.Fits.{and_l, down_pos}
use lib.Ieee.Exact.{HasValue, round_exact}
use lib.Ieee.Positive.{num, den}
use lib.Ieee.Scale.{finite}
use Rattle.rate.proofs.Fields.{sign, exponent, fraction, significand, significand_lt, by_kind, unsigned, uncapped}

-- ---- the source's literals 0.0, 511.99 and 128.0, by their patterns as the compiled code has them
abbrev pub zero_limit : Float
zero_limit = of_bits binary32 0

abbrev pub top_limit : Float
top_limit = of_bits binary32 0x43ff_feb8

abbrev pub scale : Float
scale = of_bits binary32 0x4300_0000

-- ---- n / d is q * 2 ^ k units, and 128 times it is below 2 ^ 16: the product is not rounded
fewer : (n d a l c : ℕ) → 0 < l → n * l ≡ a * d → n < c * d → a < c * l
fewer n d a l c L v h = lt_of_mul-lt-mul_right d (rw (← v, mul_right_comm c l d) (mul-lt-mul_of_pos_right h L))

scaled_up : (n u q p d c : ℕ) → n * u ≡ q * p * d → n * c * u ≡ q * (p * c) * d
scaled_up n u q p d c h = mul_right_comm n c u ∙ ap (λ (z : ℕ). z * c) h ∙ simp (mul_assoc, mul_comm)

exact : (s : Bool) (n d q k : ℕ) → 0 < d → q < 2 ^ 24 → n * 2 ^ 149 ≡ q * 2 ^ k * d → n * 128 < 65536 * d
    → HasValue (round binary32 s (n * 128) d) s (n * 128) d
exact s n d q k D small v l =
    let v7 : n * 128 * 2 ^ 149 ≡ q * 2 ^ (k + 7) * d = scaled_up n (2 ^ 149) q (2 ^ k) d 128 v ∙ ap (λ (z : ℕ). q * z * d) (sym (pow-add 2 k 7)) in
    let few : q * 2 ^ (k + 7) < 65536 * 2 ^ 149 = fewer (n * 128) d (q * 2 ^ (k + 7)) (2 ^ 149) 65536 (pow_pos 149) v7 l in
    round_exact binary32 s (n * 128) d q (k + 7) D small (lt_of_lt_of_le few (lit≤ tt)) v7

cast : (s : Bool) (n d q k : ℕ) → 0 < d → q < 2 ^ 24 → n * 2 ^ 149 ≡ q * 2 ^ k * d → n * 128 < 65536 * d
    → cond s 0 (min (n * 128 / d) 65535) ≡ n * 128 / d
    → to_unsigned 16 (round binary32 s (n * 128) d) ≡ n * 128 / d
cast s n d q k D small v l whole = unsigned (round binary32 s (n * 128) d) s (n * 128) d D (exact s n d q k D small v l) ∙ whole

-- ---- what the range test says of n / d
at_most : (a b : ℕ) (p : Bool) → ltb a b ≡ p → T (p || (eqb a b && true)) → a ≤ b
at_most a b true h t = le_of_lt (ltb-true a b h)
at_most a b false h t = le_of_eq (eqb→eq a b (and_l (eqb a b) true t))

below_top : (n d : ℕ) → 0 < d → n * 4096 ≤ 2097111 * d → n * 128 < 65536 * d
below_top n d D h = omega arith

is_zero : (n d : ℕ) → 0 * d ≡ n * 1 → n ≡ 0
is_zero n d h = omega arith

zero_below : (n d : ℕ) → 0 < d → n ≡ 0 → n * 128 < 65536 * d
zero_below n d D h = omega arith

-- ---- a limit in range: the cast of its product with 128 is the limit's value times 128, cut. A negative one is -0.0.
abbrev pub Scaled : Float → Type 0
Scaled x = to_unsigned 16 (mul binary32 x scale) ≡ num x * 128 / den x

scaled : (x : Float) (s : Bool) (q k : ℕ) → q < 2 ^ 24 → HasValue x s (q * 2 ^ k) (2 ^ 149) → T (le zero_limit x) → T (le x top_limit) → Scaled x
unfolding le mul of_bits
scaled nan s q k small h lo hi = absurd h
scaled (inf t) s q k small h lo hi = absurd h
scaled (fin true m e) s q k small h lo hi =
    let n = m * up e in
    let d = down e in
    let z : n ≡ 0 = is_zero n d (eqb→eq (0 * d) (n * 1) (and_l (eqb (0 * d) (n * 1)) (eqb (0 * d) 0) lo)) in
    rw mul-one (cast true n d q k (down_pos e) small h.1 (zero_below n d (down_pos e) z) (rw z (sym (zero-div d))))
scaled (fin false m e) s q k small h lo hi =
    let n = m * up e in
    let d = down e in
    let l : n * 128 < 65536 * d = below_top n d (down_pos e) (at_most (n * 4096) (2097111 * d) (ltb (n * 4096) (2097111 * d)) refl hi) in
    rw mul-one (cast false n d q k (down_pos e) small h.1 l (uncapped (n * 128 / d) ((div-lt_iff_lt-mul (down_pos e)).1 l)))

infinity_out : (s : Bool) → T (le zero_limit (inf s)) → T (le (inf s) top_limit) → Scaled (inf s)
unfolding le of_bits
infinity_out true lo hi = absurd lo
infinity_out false lo hi = absurd hi

nan_out : T (le zero_limit nan) → T (le nan top_limit) → Scaled nan
unfolding le of_bits
nan_out lo hi = absurd hi

pub scaled_pattern : (b : ℕ) → T (le zero_limit (of_bits binary32 b)) → T (le (of_bits binary32 b) top_limit) → Scaled (of_bits binary32 b)
scaled_pattern b =
    by_kind b (λ (y : Float). T (le zero_limit y) → T (le y top_limit) → Scaled y)
    (scaled (of_bits binary32 b) (sign b) (significand (exponent b) (fraction b)) (pred (exponent b)) (significand_lt b))
    (infinity_out (sign b))
    nan_out

-- ---- a product of two finite floats is a number, though it may be an infinity
odd_number : (d : ℕ) (s : Bool) (q k l : ℕ) → T (not (is_nan (odd d s q k l)))
unfolding odd is_nan
odd_number d s zero k l = tt
odd_number d s (suc q) k l = tt

either_number : (b : Bool) (x : Float) (s : Bool) → T (not (is_nan x)) → T (not (is_nan (cond b x (inf s))))
unfolding is_nan
either_number true x s h = h
either_number false x s h = tt

units_number : (s : Bool) (q k : ℕ) → T (not (is_nan (units binary32 s q k)))
unfolding units
units_number s q k = either_number (ltb (q * 2 ^ k) (2 ^ 277)) (odd 25 s q k 149) s (odd_number 25 s q k 149)

pub round_number : (s : Bool) (n d : ℕ) → T (not (is_nan (round binary32 s n d)))
unfolding round
round_number s n d =
    let w = n * 2 ^ 149 in
    let k = size (w / d) - 24 in
    let u = d * 2 ^ k in
    units_number s (nearest (w / u) (compare (w % u * 2) u)) k

pub product_number : (x y : Float) → T (finite x) → T (finite y) → T (not (is_nan (mul binary32 x y)))
unfolding mul
product_number nan y a b = absurd a
product_number (inf s) y a b = absurd a
product_number (fin s m e) nan a b = absurd b
product_number (fin s m e) (inf t) a b = absurd b
product_number (fin s m e) (fin t n d) a b = round_number (unlike s t) (m * up e * (n * up d)) (down e * down d)

pub in_range_finite : (x : Float) → T (le zero_limit x) → T (le x top_limit) → T (finite x)
unfolding le of_bits
in_range_finite nan lo hi = absurd hi
in_range_finite (inf true) lo hi = absurd lo
in_range_finite (inf false) lo hi = absurd hi
in_range_finite (fin s m e) lo hi = tt
