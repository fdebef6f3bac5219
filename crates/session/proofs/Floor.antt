-- The least number of transfers of a call that ends in success.
use mathlib.Core.Path.{◌≡◌, refl}
use mathlib.Core.Bool.{Bool, true}
use mathlib.Core.List.{List, [], ◌∷◌}
use Prim.Native.Nat.{ℕ, zero, suc, ◌+◌, ◌≤◌, min}
use native.Mathlib.Nat.{min-le_left, min-le_right}
use native.Mathlib.Omega.{arith}
use lib.Dec.{eqb}
use borrow.Author.Tests.{eqb-true}
use lib.ListN.{get_or, drop}
use Rattle.session.specs.declared.Rules.{Rules}
use Rattle.session.specs.Instructions.{Op}
use Rattle.session.specs.Calls.{ops_of, tuning, programs, program_of, arguments_ok}
use Rattle.session.specs.Claim3.{floor_in}
use Rattle.session.proofs.Table.{last_program, below_pass, by_code_lem}
use Rattle.session.proofs.Shape.{over_of}

-- the least that is left after an instruction with `over` instructions that a leap leaves out
abbrev pub least_next : ℕ → List ℕ → ℕ
least_next over ls = min (get_or ls over 0) (get_or ls 0 0)

abbrev pub push : ℕ → List ℕ → List ℕ
push over ls = suc (least_next over ls) ∷ ls

-- for each rest of the list, the least transfers of its instructions
abbrev pub leasts : List Op → List ℕ
leasts [] = 0 ∷ []
leasts (op ∷ ops) = push (over_of op) (leasts ops)

abbrev pub least : List Op → ℕ
least ops = get_or (leasts ops) 0 0

-- the claim's floor is the least that the call's instructions can send
floor_is_least : (rules : Rules) (code a b : ℕ) → arguments_ok rules code a b ≡ true → floor_in code ≡ least (ops_of (program_of rules code))
unfolding program_of programs floor_in tuning
floor_is_least rules code a b e =
    let test : ℕ → Bool = λ n. eqb (floor_in n) (least (ops_of (program_of rules n))) in
    eqb-true _ _ (by_code_lem rules (λ n. test n ≡ true) (below_pass test 1 (last_program rules) refl) code a b e)

pub floor_law : (rules : Rules) (code a b : ℕ) → arguments_ok rules code a b ≡ true → floor_in code ≤ least (ops_of (program_of rules code))
floor_law rules code a b e = omega (arith, floor_is_least rules code a b e)

leasts_drop : (n : ℕ) (ops : List Op) → get_or (leasts ops) n 0 ≡ least (drop n ops)
leasts_drop zero ops = refl
leasts_drop (suc zero) [] = refl
leasts_drop (suc (suc n)) [] = refl
leasts_drop (suc n) (op ∷ ops) = leasts_drop n ops

-- one instruction on, and past those that a leap leaves out
pub floor_next : (n m : ℕ) (op : Op) (rest : List Op) → n ≤ m + least (op ∷ rest) → n ≤ suc m + least rest
floor_next n m op rest h = omega (arith, h, min-le_right (get_or (leasts rest) (over_of op) 0) (get_or (leasts rest) 0 0))

pub floor_leap : (n m : ℕ) (op : Op) (rest : List Op) → n ≤ m + least (op ∷ rest) → n ≤ suc m + least (drop (over_of op) rest)
floor_leap n m op rest h =
    rw (← (leasts_drop (over_of op) rest)) (omega (arith, h, min-le_left (get_or (leasts rest) (over_of op) 0) (get_or (leasts rest) 0 0)))
