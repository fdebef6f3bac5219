-- Eight bytes as the code reads them.
use mathlib.Core.Path.{◌≡◌, refl}
use mathlib.Core.List.{[], ◌∷◌}
use Prim.Native.Nat.{ℕ, ◌+◌, ◌*◌}
use native.Mathlib.Omega.{arith}
use Rattle.std.specs.Int.{w16, w32, from_be_bytes}
use Rattle.session.specs.Records.{Record, call, reply, other}
use Rattle.records.specs.Records.{shown, meant}

pub word_of : (a b : ℕ) → from_be_bytes w16 (a ∷ b ∷ []) ≡ a * 256 + b
word_of a b = omega arith

pub long_of : (a b c d : ℕ) → from_be_bytes w32 (a ∷ b ∷ c ∷ d ∷ []) ≡ a * 16777216 + b * 65536 + c * 256 + d
long_of a b c d = omega arith

pub meant_shown : (r : Record) → meant (shown r) ≡ r
unfolding meant shown
meant_shown (call code a b) = refl
meant_shown (reply f bs) = refl
meant_shown other = refl
