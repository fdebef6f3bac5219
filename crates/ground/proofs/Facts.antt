-- Small facts on tests and lists.
use mathlib.Core.Path.{◌≡◌, refl, sym, ap, ◌∙◌}
use mathlib.Core.Bool.{Bool, true, false, not, ◌||◌, ◌&&◌, cond}
use mathlib.Core.List.{List, [], ◌∷◌}
use Prim.Native.Nat.{ℕ, zero, suc, ◌≤◌}
use native.Mathlib.Omega.{arith}
use lib.ListN.{length, get_or, take, drop, get_or-eq_default}

-- a branch, with what its test tells
pub cond_case {ℓ} : {A : Type 0} (P : A → Type ℓ) (b : Bool) {x y : A} → (b ≡ true → P x) → (b ≡ false → P y) → P (cond b x y)
cond_case P true f g = f refl
cond_case P false f g = g refl

pub or_false : {a b : Bool} → a ≡ false → b ≡ false → a || b ≡ false
or_false {a} {b} p q = ap (λ t. t || b) p ∙ q

pub not_of_true : {a : Bool} → a ≡ true → not a ≡ false
not_of_true p = ap not p

pub not_of_false : {a : Bool} → a ≡ false → not a ≡ true
not_of_false p = ap not p

-- two branches of one test, seen by two functions
pub cond_same : {A B C : Type 0} (f : A → C) (g : B → C) (b : Bool) {x y : A} {u v : B} → f x ≡ g u → f y ≡ g v → f (cond b x y) ≡ g (cond b u v)
cond_same f g true p q = p
cond_same f g false p q = q

pub drop_take : (n : ℕ) (l : List ℕ) → drop n (take n l) ≡ []
drop_take zero l = refl
drop_take (suc n) [] = refl
drop_take (suc n) (x ∷ l) = drop_take n l

-- one past the head of a suffix
pub drop_next : {A : Type 0} (k : ℕ) (l : List A) {x : A} {r : List A} → drop k l ≡ x ∷ r → drop (suc k) l ≡ r
drop_next zero [] e = let z : ◌≡◌ {A = ℕ} 0 1 = cc in cc
drop_next zero (y ∷ l) e = cc
drop_next (suc k) [] e = cc
drop_next (suc k) (y ∷ l) e = drop_next k l e

pub both : (a b : Bool) → a && b ≡ true → (a ≡ true) × (b ≡ true)
both true b h = (refl, h)
both false b h = (h, cc)

-- no case: 0 is not 1
pub clash : {A : Type 0} → ◌≡◌ {A = ℕ} 0 1 → A
clash h = absurd (omega arith)

-- a test cannot be true and false
pub untrue : {A : Type 0} → false ≡ true → A
untrue h = clash cc

pub or_parts : (a b : Bool) → a || b ≡ false → (a ≡ false) × (b ≡ false)
or_parts true b h = untrue (sym h)
or_parts false b h = (refl, h)

-- past the end of a table
pub past : {A : Type 0} (l : List A) (i : ℕ) (d : A) → length l ≤ i → d ≡ get_or l i d
past l i d h = sym (get_or-eq_default l d h)
