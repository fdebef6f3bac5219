-- A law of every call: from one test that is computed over the table, or from a proof for each row.
use mathlib.Core.Path.{◌≡◌, sym, subst, ◌∙◌}
use mathlib.Core.Bool.{Bool, true, ◌&&◌}
use mathlib.Core.List.{List, [], ◌∷◌}
use Prim.Native.Nat.{ℕ, zero, suc, ◌+◌, ◌-◌, ◌%◌, ◌<◌, ◌≤◌}
use native.Mathlib.Nat.{add-zero, zero-add, add-suc, suc-add, le_of_suc-le-suc, not-suc-le-zero}
use native.Mathlib.Omega.{arith}
use lib.Dec.{leb}
use lib.ListN.{length, get_or}
use borrow.Author.Tests.{leb-true}
use Rattle.session.specs.declared.Rules.{Rules}
use Rattle.session.specs.Calls.{Program, nothing, programs, program_of, top_code, arguments_ok}
use Rattle.ground.proofs.Facts.{both}

-- the law P at each row, counted from i
abbrev pub AllFrom : (ℕ → Program → Type 0) → ℕ → List Program → Type 0
AllFrom P i [] = Unit {0}
AllFrom P i (p ∷ ps) = P i p × AllFrom P (suc i) ps

from : (P : ℕ → Program → Type 0) → ((k : ℕ) → P k nothing) → (ps : List Program) (i : ℕ) → AllFrom P i ps → (k : ℕ) → P (i + k) (get_or ps k nothing)
from P n [] i t k = n (i + k)
from P n (p ∷ ps) i t zero = subst (λ m. P m p) (sym (add-zero i)) t.0
from P n (p ∷ ps) i t (suc k) = subst (λ m. P m (get_or ps k nothing)) (suc-add i k ∙ sym (add-suc i k)) (from P n ps (suc i) t.1 k)

pub of_table : (rules : Rules) (P : ℕ → Program → Type 0) → ((k : ℕ) → P k nothing) → AllFrom P 0 (programs rules) → (code : ℕ) → P code (program_of rules code)
unfolding program_of
of_table rules P n t code = subst (λ m. P m (get_or (programs rules) code nothing)) (zero-add code) (from P n (programs rules) 0 t code)

-- a test that each row passes, counted from i
abbrev pub all_rows : (ℕ → Program → Bool) → ℕ → List Program → Bool
all_rows test i [] = true
all_rows test i (p ∷ ps) = test i p && all_rows test (suc i) ps

rows_pass : (test : ℕ → Program → Bool) (i : ℕ) (ps : List Program) → all_rows test i ps ≡ true → AllFrom (λ k p. test k p ≡ true) i ps
rows_pass test i [] e = tt
rows_pass test i (p ∷ ps) e = let q = both (test i p) (all_rows test (suc i) ps) e in (q.0, rows_pass test (suc i) ps q.1)

pub of_test : (rules : Rules) (test : ℕ → Program → Bool) → ((k : ℕ) → test k nothing ≡ true) → all_rows test 0 (programs rules) ≡ true → (code : ℕ) → test code (program_of rules code) ≡ true
of_test rules test n e = of_table rules (λ k p. test k p ≡ true) n (rows_pass test 0 (programs rules) e)

-- a claim at each number below n
abbrev pub AllBelow : (ℕ → Type 0) → ℕ → ℕ → Type 0
AllBelow P i zero = Unit {0}
AllBelow P i (suc n) = P i × AllBelow P (suc i) n

pub below : (P : ℕ → Type 0) (i n : ℕ) → AllBelow P i n → (k : ℕ) → k < n → P (i + k)
below P i zero t k h = absurd (not-suc-le-zero h)
below P i (suc n) t zero h = subst P (sym (add-zero i)) t.0
below P i (suc n) t (suc k) h = subst P (suc-add i k ∙ sym (add-suc i k)) (below P (suc i) n t.1 k (le_of_suc-le-suc h))

-- and a test
abbrev pub all_below : (ℕ → Bool) → ℕ → ℕ → Bool
all_below test i zero = true
all_below test i (suc n) = test i && all_below test (suc i) n

pub below_pass : (test : ℕ → Bool) (i n : ℕ) → all_below test i n ≡ true → AllBelow (λ k. test k ≡ true) i n
below_pass test i zero e = tt
below_pass test i (suc n) e = let q = both (test i) (all_below test (suc i) n) e in (q.0, below_pass test (suc i) n q.1)

code_in : (rules : Rules) (code a b : ℕ) → arguments_ok rules code a b ≡ true → (1 ≤ code) × (code ≤ top_code rules)
unfolding arguments_ok
code_in rules code a b e =
    let q = both (leb 1 code && leb code (top_code rules)) (leb a (program_of rules code).greatest_a && leb b (program_of rules code).greatest_b) e in
    let r = both (leb 1 code) (leb code (top_code rules)) q.0 in
    (leb-true 1 code r.0, leb-true code (top_code rules) r.1)

-- arguments that 13 lets pass are no greater than the call takes
pub fits_in : (rules : Rules) (code a b : ℕ) → arguments_ok rules code a b ≡ true → (a ≤ (program_of rules code).greatest_a) × (b ≤ (program_of rules code).greatest_b)
unfolding arguments_ok
fits_in rules code a b e =
    let q = both (leb 1 code && leb code (top_code rules)) (leb a (program_of rules code).greatest_a && leb b (program_of rules code).greatest_b) e in
    let r = both (leb a (program_of rules code).greatest_a) (leb b (program_of rules code).greatest_b) q.1 in
    (leb-true a (program_of rules code).greatest_a r.0, leb-true b (program_of rules code).greatest_b r.1)

-- so an address is one byte, a threshold two
pub address_fits : (rules : Rules) (code a b : ℕ) → (program_of rules code).greatest_a ≤ 255 → arguments_ok rules code a b ≡ true → a % 256 ≡ a
address_fits rules code a b h e = omega (arith, (fits_in rules code a b e).0)

-- the rules may have fewer calls than there are programs
abbrev pub last_program : Rules → ℕ
last_program rules = length (programs rules) - 1

pub top_within : (rules : Rules) → top_code rules ≤ last_program rules
unfolding top_code programs
top_within Rules.First = omega arith
top_within Rules.Current = omega arith

by_codes : (rules : Rules) (P : ℕ → Type 0) (n : ℕ) → top_code rules ≤ n → AllBelow P 1 n → (code a b : ℕ) → arguments_ok rules code a b ≡ true → P code
by_codes rules P n h t code a b e =
    let q = code_in rules code a b e in
    let s : 1 + (code - 1) ≡ code = omega (arith, q.0) in
    subst P s (below P 1 n t (code - 1) (omega (arith, q.0, q.1, h)))

-- a claim of every call from one for each program, and from one for each code that the rules have
pub by_code_lem : (rules : Rules) (P : ℕ → Type 0) → AllBelow P 1 (last_program rules) → (code a b : ℕ) → arguments_ok rules code a b ≡ true → P code
by_code_lem rules P = by_codes rules P (last_program rules) (top_within rules)

pub by_rules_lem : (rules : Rules) (P : ℕ → Type 0) → AllBelow P 1 (top_code rules) → (code a b : ℕ) → arguments_ok rules code a b ≡ true → P code
by_rules_lem rules P = by_codes rules P (top_code rules) (omega arith)

pub code_nonzero : (rules : Rules) (code a b : ℕ) → arguments_ok rules code a b ≡ true → code ≡ 0 → ⊥
code_nonzero rules code a b e h = omega (arith, (code_in rules code a b e).0)
