-- The laws of a word that is read back, each by the value of its float; and Rust's division is that float.
use mathlib.Core.Path.{◌≡◌, refl, sym, ap, ◌∙◌, subst}
use mathlib.Core.Bool.{true, false, not}
use Prim.Native.Nat.{ℕ, ◌+◌, ◌-◌, ◌*◌, ◌/◌, ◌^◌, ◌≤◌, ◌<◌}
use native.Mathlib.Nat.{mul-div_cancel, mul_comm, mul_right_comm, mul_assoc, mul-one, lt_of_lt_of_le, eq_of_mul-eq-mul_right}
use native.Mathlib.Omega.{arith}
use lib.Dec.{T}
use lib.IntN.{pos}
use lib.Pow.{pow_pos, pow_mono, shl_lt}
use lib.Ieee.{Float, nan, inf, fin, binary32, unlike, up, down, span, climb, size, odd, units, round, of_fields, of_bits, to_bits, is_nan, lt, eq, le, of_int, div}
use lib.Ieee.Fits.{down_pos, round-fits}
use lib.Ieee.Bits.{is_true, of_bits-to_bits, to_bits-lt, to_bits-of_bits}
use lib.Ieee.Exact.{HasValue, round_exact}
use lib.Ieee.Nearest.{div_same}
use lib.Ieee.Order.{le_of_values}
use lib.Ieee.Positive.{num, den, den_pos, value→cross}
use lib.Ieee.Scale.{round_same}
use Rattle.std.specs.Prelude.{Some}
use Rattle.rate.specs.Rate.{literal, in_range, rate_of, signal_rate_limit_word, signal_rate_limit_bits}
use Rattle.rate.specs.ReadBack.{IsLimitOf, ReadBack}
use Rattle.rate.proofs.Product.{zero_limit, top_limit, scale, round_number}
use Rattle.rate.proofs.Word.{rate_of_lem, ranged}

-- ---- a word over 2 ^ k is exact
abbrev Small : ℕ → Type 0
Small word = word < 65536

over : (word c j : ℕ) → Small word → 0 < c → j ≤ 149 → word * 2 ^ 149 ≡ word * 2 ^ j * c → HasValue (round binary32 false word c) false word c
over word c j h C k e =
    let fine : word * 2 ^ j < 2 ^ 277 = lt_of_lt_of_le (shl_lt 16 j h) (pow_mono {j = 277} (omega arith)) in
    round_exact binary32 false word c word j C (lt_of_lt_of_le h (omega arith)) fine e

-- the float of a word
abbrev limit : ℕ → Float
limit word = round binary32 false word 128

limit_value : (word : ℕ) → Small word → HasValue (limit word) false word 128
limit_value word h = over word 128 142 h (pow_pos 7) (omega arith) (sym (mul_assoc word (2 ^ 142) 128))

whole_value : (word : ℕ) → Small word → HasValue (round binary32 false word 1) false word 1
whole_value word h = over word 1 149 h (pow_pos 0) (omega arith) (sym (mul-one (word * 2 ^ 149)))

bits_are : (word : ℕ) → signal_rate_limit_bits word ≡ to_bits binary32 (limit word)
unfolding signal_rate_limit_bits literal
bits_are word = refl

float_is : (word : ℕ) → of_bits binary32 (signal_rate_limit_bits word) ≡ limit word
float_is word = ap (of_bits binary32) (bits_are word) ∙ of_bits-to_bits binary32 (limit word) (round-fits binary32 false word 128)

pub fits : (word : ℕ) → signal_rate_limit_bits word < 2 ^ 32
fits word = subst (λ (n : ℕ). n < 2 ^ 32) (sym (bits_are word)) (to_bits-lt binary32 (limit word) (round-fits binary32 false word 128))

pub exact : (word : ℕ) → Small word → IsLimitOf word (signal_rate_limit_bits word)
exact word h = subst (λ (x : Float). HasValue x false word 128) (sym (float_is word)) (limit_value word h)

-- ---- the pattern of a value that is not negative, by its units of 2 ^ -149
abbrev pattern : ℕ → ℕ
pattern n = 0 + (size n - 24) * 2 ^ 23 + n / 2 ^ (size n - 24)

pattern_is : (x : Float) (a c : ℕ) → 0 < c → HasValue x false a c → to_bits binary32 x ≡ pattern (a * 2 ^ 149 / c)
unfolding to_bits size
pattern_is nan a c C v = absurd v
pattern_is (inf s) a c C v = absurd v
pattern_is (fin s m e) a c C v =
    let same : m * up e * 2 ^ 149 * c ≡ a * 2 ^ 149 * down e = mul_right_comm (m * up e) (2 ^ 149) c ∙ ap (λ (z : ℕ). z * 2 ^ 149) v.1 ∙ mul_right_comm a (down e) (2 ^ 149) in
    rw (v.0, div_same (m * up e * 2 ^ 149) (down e) (a * 2 ^ 149) c (down_pos e) C same)

no_nan_of : (x : Float) (a c : ℕ) → HasValue x false a c → T (not (is_nan x))
unfolding is_nan
no_nan_of nan a c v = absurd v
no_nan_of (inf s) a c v = absurd v
no_nan_of (fin s m e) a c v = tt

pub only : (word bits : ℕ) → Small word → bits < 2 ^ 32 → IsLimitOf word bits → bits ≡ signal_rate_limit_bits word
only word bits h b v =
    let x = of_bits binary32 bits in
    sym (to_bits-of_bits binary32 bits b (no_nan_of x word 128 v))
    ∙ pattern_is x word 128 (pow_pos 7) v
    ∙ sym (pattern_is (limit word) word 128 (pow_pos 7) (limit_value word h))
    ∙ sym (bits_are word)

pub apart : (word other : ℕ) → Small word → Small other → signal_rate_limit_bits word ≡ signal_rate_limit_bits other → word ≡ other
apart word other h k e =
    let x = limit word in
    let same : x ≡ limit other = sym (float_is word) ∙ ap (of_bits binary32) e ∙ float_is other in
    let v : num x * 128 ≡ word * den x = value→cross x word 128 (limit_value word h) in
    let w : num x * 128 ≡ other * den x = value→cross x other 128 (subst (λ (y : Float). HasValue y false other 128) (sym same) (limit_value other k)) in
    eq_of_mul-eq-mul_right (den x) (den_pos x) word other (sym v ∙ w)

-- ---- setting what was read
zero_value : HasValue zero_limit false 0 1
unfolding of_bits
zero_value = (refl, refl)

top_value : HasValue top_limit false 2097111 4096
unfolding of_bits
top_value = (refl, refl)

in_range_lem : (word : ℕ) → word ≤ 65534 → in_range (limit word) ≡ true
in_range_lem word h =
    let v : HasValue (limit word) false word 128 = limit_value word (omega arith) in
    ranged (limit word)
    (is_true _ (le_of_values zero_limit (limit word) 0 1 word 128 (pow_pos 0) (pow_pos 7) zero_value v (omega arith)))
    (is_true _ (le_of_values (limit word) top_limit word 128 2097111 4096 (pow_pos 7) (pow_pos 12) v top_value (omega arith)))

pub same : (word : ℕ) → word ≤ 65534 → signal_rate_limit_word (signal_rate_limit_bits word) ≡ Some word
unfolding signal_rate_limit_word
same word h =
    let x = limit word in
    let v : num x * 128 ≡ word * den x = value→cross x word 128 (limit_value word (omega arith)) in
    ap rate_of (float_is word) ∙ rate_of_lem x true (in_range_lem word h) ∙ ap (λ (n : ℕ). Some (n / den x)) v ∙ ap Some (mul-div_cancel word (den_pos x))

pub read_back : ReadBack
unfolding signal_rate_limit_word signal_rate_limit_bits rate_of in_range literal round units odd size climb span of_bits of_fields to_bits le lt eq
read_back = record { fits = fits; exact = exact; only = only; same = same; greatest = refl; apart = apart; values = refl }

-- ---- Rust: `word as f32 / 128.0`
quotient_of : (x : Float) (word : ℕ) → HasValue x false word 1 → div binary32 x scale ≡ limit word
unfolding div of_bits
quotient_of nan word v = absurd v
quotient_of (inf s) word v = absurd v
quotient_of (fin s m e) word v =
    let same : m * up e * 1 * 128 ≡ word * (128 * down e) = rw v.1 (mul_assoc word (down e) 128 ∙ ap (λ (z : ℕ). word * z) (mul_comm (down e) 128)) in
    rw v.0 (round_same binary32 false (m * up e * 1) (128 * down e) word 128 (omega (arith, down_pos e)) (pow_pos 7) same)

pub quotient : (word : ℕ) → Small word → div binary32 (of_int binary32 (pos word)) scale ≡ limit word
unfolding of_int
quotient word h = quotient_of (round binary32 false word 1) word (whole_value word h)

pub quotient_bits : (word : ℕ) → Small word → to_bits binary32 (div binary32 (of_int binary32 (pos word)) scale) ≡ signal_rate_limit_bits word
quotient_bits word h = ap (to_bits binary32) (quotient word h) ∙ sym (bits_are word)

-- it is a number, whatever is divided
over_scale : (x : Float) → T (not (is_nan x)) → T (not (is_nan (div binary32 x scale)))
unfolding div of_bits is_nan
over_scale nan h = absurd h
over_scale (inf s) h = tt
over_scale (fin s m e) h = round_number (unlike s false) (m * up e * 1) (128 * down e)

pub quotient_number : (word : ℕ) → T (not (is_nan (div binary32 (of_int binary32 (pos word)) scale)))
unfolding of_int
quotient_number word = over_scale (round binary32 false word 1) (round_number false word 1)
