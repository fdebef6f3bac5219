-- What the private functions ensure of one bit and of one byte. The public contract does not rest on these.
use Rattle.std.specs.Prelude.{◌≡◌, Bool, List, ◌∷◌, ℕ, ◌%◌, ◌-◌, ◌≤◌, eqb}
use Rattle.std.specs.Int.Count.{ones}
use Rattle.spad.specs.Map.{keep}
use Rattle.spad.specs.Bytes.{byte_kept}

-- the lowest bit of b is walked: whatever bits follow, they are kept under the new skip and wanted
pub record BitWalked (b skip wanted bit skip' wanted' : ℕ) : Type 0 where
  pub small : bit ≤ 1
  pub walked : (xs : List Bool) → keep skip wanted (eqb (b % 2) 1 ∷ xs) ≡ eqb bit 1 ∷ keep skip' wanted' xs

-- a masked byte, its count of ones, and what is left for the next byte
pub record ByteMasked (b skip wanted byte kept skip' wanted' : ℕ) : Type 0 where
  pub walked : byte ≡ byte_kept skip wanted b
  pub counted : kept ≡ ones byte
  pub few : kept ≤ 8
  pub next_skip : skip' ≡ skip - 8
  pub next_wanted : wanted' ≡ wanted - kept
