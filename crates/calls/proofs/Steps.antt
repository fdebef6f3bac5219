-- Laws of the steps of lists that follow one another.
use Rattle.std.proofs.Common.{◌≡◌, ℕ, ◌-◌, ◌+◌, ◌<◌, ◌≤◌, List, ◌++◌, length, get_or, drop, Bor, map, sym, ◌∙◌, refl}
use Rattle.std.specs.List.{flat_map}
use Rattle.std.proofs.lemmas.List.{get_or_append_left, get_or-append_right, get_or-map, get_or_past, length-map, at_drop_more, at_drop_all}
use Rattle.session.specs.declared.Instruction.{Instruction}
use Rattle.calls.specs.Calls.{step_of}

pub in_first : (xs ys : List Instruction) (i : ℕ) → i < length xs → step_of (xs ++ ys) i ≡ step_of xs i
unfolding step_of
in_first xs ys i h = get_or_append_left xs ys Instruction.Nowhere i h

pub in_second : (xs ys : List Instruction) (i : ℕ) → length xs ≤ i → step_of (xs ++ ys) i ≡ step_of ys (i - length xs)
unfolding step_of
in_second xs ys i h = get_or-append_right xs ys (length xs) i Instruction.Nowhere refl h

-- the steps of the tables from the k-th on
abbrev pub left : List (Bor (List Instruction)) → ℕ → ℕ → Instruction
left ts k i = step_of (flat_map (λ t. t.now) (drop k ts)) i

from_table : (ts : List (Bor (List Instruction))) (k i : ℕ) (d : Bor (List Instruction)) → k < length ts
    → left ts k i ≡ step_of ((get_or ts k d).now ++ flat_map (λ t. t.now) (drop (k + 1) ts)) i
from_table ts k i d h = at_drop_more (λ us. step_of (flat_map (λ t. t.now) us) i) ts k d h

pub in_table : (ts : List (Bor (List Instruction))) (k i : ℕ) (d : Bor (List Instruction)) → k < length ts → i < length (get_or ts k d).now
    → left ts k i ≡ step_of (get_or ts k d).now i
in_table ts k i d h lt = from_table ts k i d h ∙ in_first _ _ i lt

pub after_table : (ts : List (Bor (List Instruction))) (k i : ℕ) (d : Bor (List Instruction)) → k < length ts → length (get_or ts k d).now ≤ i
    → left ts k i ≡ left ts (k + 1) (i - length (get_or ts k d).now)
after_table ts k i d h le = from_table ts k i d h ∙ in_second _ _ i le

pub after_all : (ts : List (Bor (List Instruction))) (k i : ℕ) → length ts ≤ k → left ts k i ≡ Instruction.Nowhere
unfolding step_of
after_all ts k i h = at_drop_all (λ us. step_of (flat_map (λ t. t.now) us) i) ts k h

-- the steps that a table of other things gives
pub mapped : {A : Type 0} (f : A → Instruction) (xs : List A) (i : ℕ) (d : A) → i < length xs → f (get_or xs i d) ≡ step_of (map f xs) i
unfolding step_of
mapped f xs i d h = sym (get_or-map f xs i d Instruction.Nowhere h)

pub mapped_past : {A : Type 0} (f : A → Instruction) (xs : List A) (i : ℕ) → length xs ≤ i → Instruction.Nowhere ≡ step_of (map f xs) i
unfolding step_of
mapped_past f xs i h = sym (get_or_past (map f xs) i Instruction.Nowhere (rw length-map h))
