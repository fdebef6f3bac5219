-- The chunks of eight bytes that a list has are its records.
use mathlib.Core.Path.{◌≡◌, refl, ap}
use mathlib.Core.List.{List, [], ◌∷◌, map}
use Prim.Native.Nat.{ℕ, suc, ◌/◌, ◌<◌}
use native.Mathlib.Omega.{arith}
use lib.ListN.{length}
use Rattle.std.specs.Simd.{first_chunks}
use Rattle.session.specs.Records.{Record, record_of, records_of}
use Rattle.records.specs.Records.{record_in}

abbrev pub chunks : List ℕ → List (List ℕ)
chunks [] = []
chunks (a ∷ []) = []
chunks (a ∷ b ∷ []) = []
chunks (a ∷ b ∷ c ∷ []) = []
chunks (a ∷ b ∷ c ∷ d ∷ []) = []
chunks (a ∷ b ∷ c ∷ d ∷ e ∷ []) = []
chunks (a ∷ b ∷ c ∷ d ∷ e ∷ f ∷ []) = []
chunks (a ∷ b ∷ c ∷ d ∷ e ∷ f ∷ g ∷ []) = []
chunks (a ∷ b ∷ c ∷ d ∷ e ∷ f ∷ g ∷ h ∷ l) = (a ∷ b ∷ c ∷ d ∷ e ∷ f ∷ g ∷ h ∷ []) ∷ chunks l

pub chunked : (l : List ℕ) → first_chunks 8 (length l / 8) l ≡ chunks l
chunked [] = refl
chunked (a ∷ []) = refl
chunked (a ∷ b ∷ []) = refl
chunked (a ∷ b ∷ c ∷ []) = refl
chunked (a ∷ b ∷ c ∷ d ∷ []) = refl
chunked (a ∷ b ∷ c ∷ d ∷ e ∷ []) = refl
chunked (a ∷ b ∷ c ∷ d ∷ e ∷ f ∷ []) = refl
chunked (a ∷ b ∷ c ∷ d ∷ e ∷ f ∷ g ∷ []) = refl
chunked (a ∷ b ∷ c ∷ d ∷ e ∷ f ∷ g ∷ h ∷ l) =
    let k : length (a ∷ b ∷ c ∷ d ∷ e ∷ f ∷ g ∷ h ∷ l) / 8 ≡ suc (length l / 8) = omega arith in
    rw k (ap (λ (r : List (List ℕ)). (a ∷ b ∷ c ∷ d ∷ e ∷ f ∷ g ∷ h ∷ []) ∷ r) (chunked l))

of_chunks : (l : List ℕ) → map record_in (chunks l) ≡ records_of l
unfolding record_in records_of
of_chunks [] = refl
of_chunks (a ∷ []) = refl
of_chunks (a ∷ b ∷ []) = refl
of_chunks (a ∷ b ∷ c ∷ []) = refl
of_chunks (a ∷ b ∷ c ∷ d ∷ []) = refl
of_chunks (a ∷ b ∷ c ∷ d ∷ e ∷ []) = refl
of_chunks (a ∷ b ∷ c ∷ d ∷ e ∷ f ∷ []) = refl
of_chunks (a ∷ b ∷ c ∷ d ∷ e ∷ f ∷ g ∷ []) = refl
of_chunks (a ∷ b ∷ c ∷ d ∷ e ∷ f ∷ g ∷ h ∷ l) = ap (λ (rs : List Record). record_of a b c d e f g h ∷ rs) (of_chunks l)

pub records_chunked : (l : List ℕ) → map record_in (first_chunks 8 (length l / 8) l) ≡ records_of l
records_chunked l = rw (chunked l) (of_chunks l)

-- fewer than eight bytes are no record
pub too_few : (l : List ℕ) → length l < 8 → records_of l ≡ []
unfolding records_of
too_few [] h = refl
too_few (a₀ ∷ []) h = refl
too_few (a₀ ∷ a₁ ∷ []) h = refl
too_few (a₀ ∷ a₁ ∷ a₂ ∷ []) h = refl
too_few (a₀ ∷ a₁ ∷ a₂ ∷ a₃ ∷ []) h = refl
too_few (a₀ ∷ a₁ ∷ a₂ ∷ a₃ ∷ a₄ ∷ []) h = refl
too_few (a₀ ∷ a₁ ∷ a₂ ∷ a₃ ∷ a₄ ∷ a₅ ∷ []) h = refl
too_few (a₀ ∷ a₁ ∷ a₂ ∷ a₃ ∷ a₄ ∷ a₅ ∷ a₆ ∷ []) h = refl
too_few (a₀ ∷ a₁ ∷ a₂ ∷ a₃ ∷ a₄ ∷ a₅ ∷ a₆ ∷ a₇ ∷ l) h = absurd (omega (arith, h))
