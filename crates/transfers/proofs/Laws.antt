-- Facts that the proofs of single functions cite.
use mathlib.Core.Path.{◌≡◌, refl, sym}
use mathlib.Core.List.{List, [], ◌∷◌}
use Prim.Native.Nat.{ℕ, zero, suc, ◌<◌}
use native.Mathlib.Omega.{arith}
use lib.ListN.{length, get_or}
use native.Mathlib.Nat.{mod-eq_of_lt}
use lib.Bits.{bit_and, bit_or}
use Rattle.spad.specs.Masks.{or_byte, and_byte}
use Rattle.spad.proofs.Masks.{or_is, and_is}
use Rattle.session.specs.Bus.{pad_to}

-- masks of bytes
module _ (x m : ℕ) (hx : x < 256) (hm : m < 256) where
  pub or_mask : bit_or x m ≡ or_byte x m
  or_mask = sym (rw (or_is x m) (rw (mod-eq_of_lt hx) (rw (mod-eq_of_lt hm) refl)))

  pub and_mask : bit_and x m ≡ and_byte x m
  and_mask = sym (rw (and_is x m) (rw (mod-eq_of_lt hx) (rw (mod-eq_of_lt hm) refl)))

-- as many bytes as are asked for, each the one at its place or 0
pub padded : (n : ℕ) (bs xs : List ℕ) → length xs ≡ n → ((i : ℕ) → i < n → get_or xs i 0 ≡ get_or bs i 0) → xs ≡ pad_to n bs
padded zero bs [] e h = refl
padded zero bs (x ∷ xs) e h = absurd (omega arith)
padded (suc n) bs [] e h = absurd (omega arith)
padded (suc n) [] (x ∷ xs) e h =
    let here : x ≡ 0 = h 0 (omega arith) in
    let rest = padded n [] xs (omega arith) (λ i l. h (suc i) (omega arith)) in
    cc
padded (suc n) (b ∷ bs) (x ∷ xs) e h =
    let here : x ≡ b = h 0 (omega arith) in
    let rest = padded n bs xs (omega arith) (λ i l. h (suc i) (omega arith)) in
    cc
