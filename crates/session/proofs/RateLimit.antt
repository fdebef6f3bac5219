-- The Rust's test and word of a rate limit are the leaf's, for every pattern of bits, and so is what it reads for every word.
use mathlib.Core.Path.{◌≡◌, refl, sym, ap, fun_ext}
use mathlib.Core.Bool.{true, false, cond}
use Prim.Native.Nat.{ℕ, ◌%◌}
use native.Mathlib.Nat.{mod-lt}
use native.Mathlib.Omega.{arith}
use lib.Ieee.{binary32, round, of_bits, le}
use Rattle.std.specs.Prelude.{None, Some}
use Rattle.rate.specs.Rate.{literal, in_range, rate_of, signal_rate_limit_word, signal_rate_limit_bits}
use Rattle.rate.proofs.Laws.{as_rust_lem, read_as_rust_lem}
use Rattle.session.specs.Steps.{rate_in}
use Rattle.session.specs.RustClocks.{limit_contained, limit_word}
use Rattle.session.specs.LaterCalls.{limit_of_raw}

pub contained_is : limit_contained ≡ (λ bits. in_range (of_bits binary32 bits))
unfolding limit_contained in_range literal
contained_is = refl

-- both cases at once
word_or : (bits : ℕ) → signal_rate_limit_word bits ≡ cond (limit_contained bits) (Some (limit_word bits)) None
unfolding limit_word literal
word_or bits = rw contained_is (as_rust_lem bits)

pub accepted_is : (bits : ℕ) → limit_contained bits ≡ true → signal_rate_limit_word bits ≡ Some (limit_word bits)
accepted_is bits h = rw h at (word_or bits)

pub refused_is : (bits : ℕ) → limit_contained bits ≡ false → signal_rate_limit_word bits ≡ None
refused_is bits h = rw h at (word_or bits)

pub word_is : (bits : ℕ) → limit_contained bits ≡ true → limit_word bits ≡ rate_in (signal_rate_limit_word bits)
word_is bits h = sym (ap rate_in (accepted_is bits h))

pub read_is : limit_of_raw ≡ (λ raw. signal_rate_limit_bits (raw % 65536))
unfolding limit_of_raw literal
read_is = fun_ext (λ raw. read_as_rust_lem (raw % 65536) (mod-lt raw (omega arith)))

-- 0.25, the limit of a bring-up
pub quarter_in : limit_contained 0x3E800000 ≡ true
unfolding limit_contained round of_bits le
quarter_in = refl

pub quarter_word : limit_word 0x3E800000 ≡ 32
unfolding signal_rate_limit_word rate_of in_range literal round of_bits le
quarter_word = word_is 0x3E800000 quarter_in
