-- The Rust's clock formulas are those of the leaves: a value, or the place at which it panics.
use mathlib.Core.Path.{◌≡◌, refl, sym, fun_ext}
use mathlib.Core.Bool.{Bool, true, false, not, ◌&&◌, ◌||◌, cond}
use Prim.Native.Nat.{ℕ, ◌+◌, ◌*◌, ◌-◌, ◌/◌, ◌%◌, ◌^◌}
use native.Mathlib.Omega.{arith}
use native.Mathlib.Nat.{sub-zero}
use lib.Dec.{eqb, ltb, leb}
use borrow.Author.Tests.{ltb-true, lt-ltb}
use Rattle.std.specs.Prelude.{Option, None, Some, is_none, Ok as Worth, Err as Fails}
use Rattle.std.specs.Result.{result_err, result_unwrap_or}
use Rattle.clock.specs.declared.Place.{Place}
use Rattle.clock.specs.Places.{place_number}
use Rattle.clock.specs.Clock.{decoded_timeout, decoded_vcsel_period, microseconds_of, mclks_to_microseconds}
use Rattle.timing.specs.Registers.{when_on}
use Rattle.timing.specs.Timeouts.{time_in, timeout_clocks, period_clocks}
use Rattle.timing.specs.Places.{timeout_place, period_place, msrc_place}
use Rattle.session.specs.Bus.{Answer}
use Rattle.session.specs.Script.{Script}
use Rattle.session.proofs.Once.{number}
use Rattle.session.specs.RustFn.{Chip, Result, ok, err, Fn, Ok, panic, if}
use Rattle.session.specs.RustClocks.{over_u32, multiply_period, decode_timeout, decode_vcsel_period, calc_macro_period, timeout_mclks_to_microseconds, subtract_if, plus_one}

-- x, or a panic where there is a place
abbrev pub placed : Option Place → ℕ → Fn ℕ
placed p x chip ret = cond (is_none p) (ret (ok x) chip) (ret (err (Answer.Panic (number p))) chip)

-- a test that panics, and an answer that is a place or a value by the same test
module _ {T : Type 0} (value : T → ℕ) (p : Place) (v d : T) where
  by_test : (t : Bool)
      → if t (panic (place_number p)) (Ok (value v))
      ≡ placed (result_err (cond t (Fails p) (Worth v))) (value (result_unwrap_or (cond t (Fails p) (Worth v)) d))
  by_test true = refl
  by_test false = refl

-- a test that panics, and the place that it shows
by_place : (p : Place) (x : ℕ) (t : Bool) → if t (panic (place_number p)) (Ok x) ≡ placed (cond t (Some p) None) x
by_place p x true = refl
by_place p x false = refl

-- SCOPE 5.3: fewer clocks than pre-range's, while pre-range is on
abbrev pub less_by : Bool → ℕ → ℕ → Option Place
less_by on x y = cond (on && ltb x y) (Some Place.FinalBelowPre) None

pub decode_is : decode_timeout ≡ (λ w. placed (timeout_place w) (timeout_clocks w).0)
unfolding decode_timeout timeout_place timeout_clocks decoded_timeout
decode_is = fun_ext (λ w.
    let x = w % 256 * 2 ^ (w / 256) % 65536 + 1 in
    by_test (λ m. m.0) Place.TimeoutShift (record { 0 = x }) (record { 0 = 0 }) (leb 16 (w / 256)))

pub vcsel_is : decode_vcsel_period ≡ (λ b. placed (period_place b) (period_clocks b).0)
unfolding decode_vcsel_period period_place period_clocks decoded_vcsel_period
vcsel_is = fun_ext (λ b.
    let x = (b + 1) * 2 % 256 in
    by_test (λ m. m.0) Place.VcselPeriod (record { 0 = x }) (record { 0 = 0 }) (eqb b 255))

pub plus_is : plus_one ≡ (λ x. placed (msrc_place x) (x + 1))
unfolding plus_one
plus_is = fun_ext (λ x. by_place Place.MsrcTimeout (x + 1) (ltb 255 (x + 1)))

pub subtract_is : subtract_if ≡ (λ on x y. placed (less_by on x y) (x - when_on on y))
unfolding subtract_if
subtract_is = fun_ext (λ on. fun_ext (λ x. fun_ext (λ y. go on x y)))
  where
    go : (on : Bool) (x y : ℕ) → if on (if (ltb x y) (panic 3) (Ok (x - y))) (Ok x) ≡ placed (less_by on x y) (x - when_on on y)
    go true x y = by_place Place.FinalBelowPre (x - y) (ltb x y)
    go false x y = rw (sub-zero x)

-- the product is at most the sum
pub either_over : (a b : ℕ) → (over_u32 a || over_u32 (a + b)) ≡ over_u32 (a + b)
either_over a b = go (ltb 4294967295 a) refl
  where
    go : (t : Bool) → over_u32 a ≡ t → (t || over_u32 (a + b)) ≡ over_u32 (a + b)
    go true h = sym (lt-ltb 4294967295 (a + b) (omega (arith, ltb-true 4294967295 a h)))
    go false h = refl

pub micros_is : timeout_mclks_to_microseconds
    ≡ (λ t p. placed (result_err (mclks_to_microseconds (record { 0 = t }) (record { 0 = p }))) (time_in (mclks_to_microseconds (record { 0 = t }) (record { 0 = p }))).0)
unfolding timeout_mclks_to_microseconds microseconds_of
micros_is = fun_ext (λ t. fun_ext (λ p.
    let macro = calc_macro_period p in
    let sum = t * macro + macro / 2 in
    rw (either_over (t * macro) (macro / 2))
    (by_test (λ m. m.0) Place.ToMicroseconds (record { 0 = sum / 1000 }) (record { 0 = 0 }) (over_u32 sum))))

pub period_is : multiply_period
    ≡ (λ period osc chip ret.
    cond (not (eqb osc 0) && ltb 4294967295 (period * osc))
    (ret (err (Answer.Panic 1)) chip)
    (ret (ok (cond (eqb osc 0) period (period * osc))) chip))
unfolding multiply_period
period_is = fun_ext (λ period. fun_ext (λ osc. fun_ext (λ chip. fun_ext (λ ret. go (eqb osc 0) (ltb 4294967295 (period * osc)) period (period * osc) chip ret))))
  where
    go : (z t : Bool) (x y : ℕ) (chip : Chip) (ret : Result ℕ → Chip → Script)
        → if z (Ok x) (if t (panic 1) (Ok y)) chip ret ≡ cond (not z && t) (ret (err (Answer.Panic 1)) chip) (ret (ok (cond z x y)) chip)
    go true t x y chip ret = refl
    go false true x y chip ret = refl
    go false false x y chip ret = refl
