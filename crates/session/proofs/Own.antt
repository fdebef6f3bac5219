-- Demand 3's own numbers and tests against those of the machine.
use mathlib.Core.Path.{◌≡◌, refl, ap}
use mathlib.Core.Bool.{Bool, true, not, ◌&&◌}
use mathlib.Core.List.{List}
use Prim.Native.Nat.{ℕ, zero, suc, ◌*◌, ◌%◌, ◌≤◌, ◌<◌, zero-le}
use native.Mathlib.Nat.{suc-mul}
use native.Mathlib.Omega.{arith}
use lib.Dec.{eqb, leb}
use borrow.Author.Tests.{le-leb, leb-true, eqb-true}
use Rattle.session.specs.declared.Rules.{Rules}
use Rattle.session.specs.Bus.{byte, Condition, wait_limit, idle_on}
use Rattle.session.specs.Rules.{repeats_of, tries_of}
use Rattle.session.specs.Instructions.{worst}
use Rattle.session.specs.Calls.{ops_of, tuning, programs, program_of, ceiling_of, arguments_ok}
use Rattle.session.specs.Claim3.{most_in, times_in, ceiling_in, limit_in, unmet}
use Rattle.session.proofs.Table.{of_test, last_program, below_pass, by_code_lem}
use Rattle.ground.proofs.Facts.{both}

-- how often a transfer is made at most
times_are : (rules : Rules) → times_in rules ≡ tries_of rules
times_are Rules.First = refl
times_are Rules.Current = refl

pub claim_ceiling : (rules : Rules) (code : ℕ) → worst code (ops_of (program_of rules code)) ≤ ceiling_in rules code
unfolding programs most_in tuning
claim_ceiling rules code =
    let once : worst code (ops_of (program_of rules code)) ≤ most_in code =
    leb-true _ _ (of_test rules (λ k p. leb (worst k (ops_of p)) (most_in k)) (λ k. le-leb 0 (most_in k) zero-le) refl code)
    in
    rw (times_are rules) (omega (arith, once, suc-mul (repeats_of rules) (most_in code)))

-- and neither the claim's ceiling nor that of test 13 is larger than the call has transfers
ceiling_exact : (rules : Rules) (code a b : ℕ) → arguments_ok rules code a b ≡ true
    → (ceiling_in rules code ≡ tries_of rules * worst code (ops_of (program_of rules code))) × (ceiling_of rules code ≡ tries_of rules * worst code (ops_of (program_of rules code)))
unfolding program_of programs ceiling_of most_in tuning
ceiling_exact rules code a b e =
    let n = worst code (ops_of (program_of rules code)) in
    let q = both (eqb (most_in code) n) (eqb (program_of rules code).ceiling n) (by_code_lem rules (λ k. exact k ≡ true) (below_pass exact 1 (last_program rules) refl) code a b e) in
    (rw (times_are rules, eqb-true _ _ q.0) refl, ap (λ m. tries_of rules * m) (eqb-true _ _ q.1))
  where
    exact : ℕ → Bool
    exact k = eqb (most_in k) (worst k (ops_of (program_of rules k))) && eqb (program_of rules k).ceiling (worst k (ops_of (program_of rules k)))

pub unmet_is : (x : Condition) (bs : List ℕ) → unmet x bs ≡ idle_on x bs
unfolding unmet idle_on
unmet_is Condition.DetectorReady bs = refl
unmet_is Condition.StatusReady bs = refl
unmet_is Condition.Started bs = go (byte 0 bs % 2) (omega arith)
  where
    go : (m : ℕ) → m < 2 → eqb m 1 ≡ not (eqb m 0)
    go zero h = refl
    go (suc zero) h = refl
    go (suc (suc m)) h = absurd (omega arith)

pub limit_is : (code : ℕ) (x : Condition) → limit_in code x ≡ wait_limit code x
unfolding limit_in
limit_is code Condition.DetectorReady = refl
limit_is code Condition.StatusReady = refl
limit_is code Condition.Started = refl
