-- Lines as they are printed, character by character.
use mathlib.Core.Path.{◌≡◌, refl}
use mathlib.Core.Bool.{true}
use mathlib.Core.List.{[], ◌∷◌}
use Rattle.session.specs.Bus.{transfer_of}
use Rattle.lines.specs.Lines.{hex_digit, digits, transfer_line, answer_line, fields_line}

-- SCOPE 10.1: T 29 C0 1
pub transfer_29 : transfer_line (transfer_of 0x29 (0xC0 ∷ []) 1) ≡ 84 ∷ 32 ∷ 50 ∷ 57 ∷ 32 ∷ 67 ∷ 48 ∷ 32 ∷ 49 ∷ 10 ∷ []
unfolding transfer_line hex_digit digits
transfer_29 = refl

-- SCOPE 10.1: A 2 0 1
pub answer_2 : answer_line 2 0 1 ≡ 65 ∷ 32 ∷ 50 ∷ 32 ∷ 48 ∷ 32 ∷ 49 ∷ 10 ∷ []
unfolding answer_line digits
answer_2 = refl

-- "A 0 4294967295 85688": the greatest value, after the most transfers
pub answer_greatest : answer_line 0 4294967295 85688
    ≡ 65 ∷ 32 ∷ 48 ∷ 32 ∷ 52 ∷ 50 ∷ 57 ∷ 52 ∷ 57 ∷ 54 ∷ 55 ∷ 50 ∷ 57 ∷ 53 ∷ 32 ∷ 56 ∷ 53 ∷ 54 ∷ 56 ∷ 56 ∷ 10 ∷ []
unfolding answer_line digits
answer_greatest = refl

-- "F 1 41 60 31326"
pub fields_up : fields_line (record { up = true; address = 0x29; stop = 0x3C; budget = 31326 })
    ≡ 70 ∷ 32 ∷ 49 ∷ 32 ∷ 52 ∷ 49 ∷ 32 ∷ 54 ∷ 48 ∷ 32 ∷ 51 ∷ 49 ∷ 51 ∷ 50 ∷ 54 ∷ 10 ∷ []
unfolding fields_line digits
fields_up = refl
