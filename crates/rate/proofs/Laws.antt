-- In range the definition is Rust's own expression, for every pattern; and so it is of every word that is read.
use mathlib.Core.Path.{◌≡◌, refl, sym, ap, ◌∙◌}
use mathlib.Core.Bool.{Bool, true, false, cond}
use Prim.Native.Nat.{ℕ, ◌<◌}
use lib.IntN.{pos}
use lib.Ieee.{Float, binary32, round, of_bits, to_bits, mul, div, of_int, to_unsigned}
use Rattle.rate.specs.Rate.{literal, in_range, signal_rate_limit_word, as_rust, signal_rate_limit_bits, read_as_rust}
use Rattle.std.specs.Prelude.{None, Some}
use Rattle.rate.proofs.Product.{scale}
use Rattle.rate.proofs.Word.{rate_of_lem, word}
use Rattle.rate.proofs.ReadBack.{quotient_bits}

scale_literal : scale ≡ literal 128 1
unfolding literal round of_bits
scale_literal = refl

module _ (b : ℕ) where
  by_range : (k : Bool) → in_range (of_bits binary32 b) ≡ k → signal_rate_limit_word b ≡ cond k (Some (as_rust (of_bits binary32 b))) None
  unfolding signal_rate_limit_word
  by_range true h = sym (word b h) ∙ ap (λ (z : Float). Some (to_unsigned 16 (mul binary32 (of_bits binary32 b) z))) scale_literal
  by_range false h = rate_of_lem (of_bits binary32 b) false h

  pub as_rust_lem : signal_rate_limit_word b ≡ cond (in_range (of_bits binary32 b)) (Some (as_rust (of_bits binary32 b))) None
  as_rust_lem = by_range (in_range (of_bits binary32 b)) refl

pub read_as_rust_lem : (word : ℕ) → word < 65536 → read_as_rust word ≡ signal_rate_limit_bits word
read_as_rust_lem word h = ap (λ (z : Float). to_bits binary32 (div binary32 (of_int binary32 (pos word)) z)) (sym scale_literal) ∙ quotient_bits word h
