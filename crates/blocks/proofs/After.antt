-- What comes after the lines: nothing where the input is whole, else what is printed for spare bytes.
use mathlib.Core.Path.{◌≡◌, refl}
use mathlib.Core.List.{List, [], ◌∷◌}
use Prim.Native.Nat.{ℕ, ◌%◌}
use lib.ListN.{length}
use Rattle.std.proofs.lemmas.Bool.{ne_eqb}
use Rattle.lines.specs.Lines.{answer_line, digits}
use Rattle.blocks.specs.Input.{after_lines, spare_line}

-- "A 14 0 0" and a newline
pub spare_is : 65 ∷ 32 ∷ 49 ∷ 52 ∷ 32 ∷ 48 ∷ 32 ∷ 48 ∷ 10 ∷ [] ≡ spare_line
unfolding spare_line answer_line digits
spare_is = refl

pub whole_after : (spare bytes : List ℕ) → length bytes % 8 ≡ 0 → [] ≡ after_lines spare bytes
unfolding after_lines
whole_after spare bytes w = rw w refl

pub spare_after : (spare bytes part : List ℕ) → (length bytes % 8 ≡ 0 → ⊥) → part ≡ spare → part ≡ after_lines spare bytes
unfolding after_lines
spare_after spare bytes part w e = rw (ne_eqb (length bytes % 8) 0 w) e
