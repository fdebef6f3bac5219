-- A call is accepted exactly where the numbers of SCOPE 5.1 and SCOPE 9.1 say so.
use mathlib.Core.Path.{◌≡◌, refl, sym, ap, ◌∙◌}
use mathlib.Core.Logic.{◌↔◌}
use mathlib.Core.Bool.{Bool, true, false, not, ◌&&◌, cond, and-false}
use mathlib.Core.List.{List, [], ◌∷◌}
use Prim.Native.Nat.{ℕ, zero, suc, ◌+◌, ◌-◌, ◌<◌, ◌≤◌}
use native.Mathlib.Nat.{add-suc, suc-add}
use native.Mathlib.Omega.{arith}
use lib.Dec.{eqb, ltb, leb}
use lib.ListN.{length, get_or, take, drop}
use borrow.Author.Tests.{leb-true, leb-false, ltb-true, le-leb, lt-leb, lt-ltb, le-ltb, eqb-true, eqb-false, not-false}
use Rattle.std.proofs.lemmas.List.{length-take-le, get_or-take}
use Rattle.session.specs.declared.Rules.{Rules}
use Rattle.session.specs.Records.{call}
use Rattle.session.specs.History.{step_def}
use Rattle.session.specs.Calls.{Program, nothing, programs, program_of, top_code, arguments_ok}
use Rattle.session.specs.Machine.{Session, context_of, waits_now, ill_formed, begun, not_up, begin_def}
use Rattle.session.specs.Refusals.{Row, call_rows, rows_under, in_range}
use Rattle.session.specs.Claim2.{Ready, bring_up, while_up, Accepted}
use Rattle.session.specs.Claim1.{Accepts}
use Rattle.ground.proofs.Facts.{cond_case, both, untrue}
use Rattle.session.proofs.Table.{top_within}
use Rattle.session.proofs.Accepts.{decide_accepts}

-- the rows of the table of refusals against the programs, counted from code i
abbrev same_ranges : ℕ → List Program → List Row → Bool
same_ranges i [] [] = true
same_ranges i [] (r ∷ rs) = false
same_ranges i (p ∷ ps) [] = false
same_ranges i (p ∷ ps) (r ∷ rs) = (eqb i r.code && (eqb p.greatest_a r.greatest_a && eqb p.greatest_b r.greatest_b)) && same_ranges (suc i) ps rs

-- one of the programs has this code, and takes these arguments
abbrev taken : ℕ → List Program → ℕ → ℕ → ℕ → Bool
taken i [] code a b = false
taken i (p ∷ ps) code a b = cond (eqb code i) (leb a p.greatest_a && leb b p.greatest_b) (taken (suc i) ps code a b)

taken_is : (i : ℕ) (ps : List Program) (rs : List Row) → same_ranges i ps rs ≡ true → (code a b : ℕ) → taken i ps code a b ≡ in_range code a b rs
taken_is i [] [] h code a b = refl
taken_is i [] (r ∷ rs) h code a b = untrue h
taken_is i (p ∷ ps) [] h code a b = untrue h
taken_is i (p ∷ ps) (r ∷ rs) h code a b =
    let q = both (eqb i r.code && (eqb p.greatest_a r.greatest_a && eqb p.greatest_b r.greatest_b)) (same_ranges (suc i) ps rs) h in
    let c = both (eqb i r.code) (eqb p.greatest_a r.greatest_a && eqb p.greatest_b r.greatest_b) q.0 in
    let m = both (eqb p.greatest_a r.greatest_a) (eqb p.greatest_b r.greatest_b) c.1 in
    rw (eqb-true i r.code c.0, eqb-true p.greatest_a r.greatest_a m.0, eqb-true p.greatest_b r.greatest_b m.1)
    (ap (cond (eqb code r.code) (leb a r.greatest_a && leb b r.greatest_b)) (rw (eqb-true i r.code c.0) at (taken_is (suc i) ps rs q.1 code a b)))

-- in other words: the code is among them, and its program takes the arguments
abbrev within : ℕ → List Program → ℕ → ℕ → ℕ → Bool
within i ps code a b =
    (leb i code && ltb code (i + length ps))
    && (leb a (get_or ps (code - i) nothing).greatest_a && leb b (get_or ps (code - i) nothing).greatest_b)

within_is : (ps : List Program) (i code a b : ℕ) → within i ps code a b ≡ taken i ps code a b
within_is [] i code a b = go (leb i code) refl
  where
    go : (t : Bool) → leb i code ≡ t → within i [] code a b ≡ false
    go true e = rw (le-ltb code (i + 0) (omega (arith, leb-true i code e)), and-false (leb i code)) refl
    go false e = rw e refl
within_is (p ∷ ps) i code a b = go (eqb code i) refl (within_is ps (suc i) code a b)
  where
    later : (t : Bool) → leb i code ≡ t → (code ≡ i → ⊥) → within i (p ∷ ps) code a b ≡ within (suc i) ps code a b
    later true e n =
        let l : i ≤ code = leb-true i code e in
        let m : code - i ≡ suc (code - suc i) = omega arith in
        let x : suc i ≤ code = omega arith in
        rw (e, le-leb (suc i) code x, m, add-suc i (length ps), suc-add i (length ps)) refl
    later false e n =
        let l : code < i = leb-false i code e in
        rw (e, lt-leb (suc i) code (omega arith)) refl

    go : (t : Bool) → eqb code i ≡ t → within (suc i) ps code a b ≡ taken (suc i) ps code a b
        → within i (p ∷ ps) code a b ≡ cond t (leb a p.greatest_a && leb b p.greatest_b) (taken (suc i) ps code a b)
    go true e h =
        let q : code ≡ i = eqb-true code i e in
        let z : code - i ≡ 0 = omega arith in
        let l : i ≤ code = omega arith in
        let u : code < i + suc (length ps) = omega arith in
        rw (z, le-leb i code l, lt-ltb code (i + suc (length ps)) u) refl
    go false e h = later (leb i code) refl (λ q. absurd (eqb-false code i e q)) ∙ h

below_next : (k n : ℕ) → leb k n ≡ ltb k (suc n)
below_next k n = go (leb k n) refl
  where
    go : (t : Bool) → leb k n ≡ t → t ≡ ltb k (suc n)
    go true e = let l : k ≤ n = leb-true k n e in sym (lt-ltb k (suc n) (omega arith))
    go false e = let l : n < k = leb-false k n e in sym (le-ltb k (suc n) (omega arith))

-- programs past the last code that the rules have make no difference
of_those : (n : ℕ) (ps : List Program) (code a b : ℕ) → n ≤ length ps
    → (leb 1 code && ltb code (suc n)) && (leb a (get_or ps (code - 1) nothing).greatest_a && leb b (get_or ps (code - 1) nothing).greatest_b)
    ≡ within 1 (take n ps) code a b
of_those n ps code a b h = go (leb 1 code) refl (ltb code (suc n)) refl
  where
    same : (x y : Bool) → leb 1 code ≡ x → ltb code (suc n) ≡ y
        → (x && y) && (leb a (get_or ps (code - 1) nothing).greatest_a && leb b (get_or ps (code - 1) nothing).greatest_b)
        ≡ (x && y) && (leb a (get_or (take n ps) (code - 1) nothing).greatest_a && leb b (get_or (take n ps) (code - 1) nothing).greatest_b)
    same true true e e' =
        let l : 1 ≤ code = leb-true 1 code e in
        let u : code < suc n = ltb-true code (suc n) e' in
        rw (get_or-take n ps (code - 1) nothing (omega (arith, l, u)))
    same true false e e' = refl
    same false y e e' = refl

    go : (x : Bool) → leb 1 code ≡ x → (y : Bool) → ltb code (suc n) ≡ y
        → (leb 1 code && ltb code (suc n)) && (leb a (get_or ps (code - 1) nothing).greatest_a && leb b (get_or ps (code - 1) nothing).greatest_b)
        ≡ within 1 (take n ps) code a b
    go x e y e' = let one : 1 + n ≡ suc n = omega arith in rw (length-take-le n ps h, one, e, e') (same x y e e')

-- the arguments that 13 lets pass are those of the table of refusals
abbrev called : Rules → List Program
called rules = take (top_code rules) (drop 1 (programs rules))

rows_fit : (rules : Rules) → same_ranges 1 (called rules) (rows_under rules) ≡ true
unfolding programs top_code call_rows
rows_fit Rules.First = refl
rows_fit Rules.Current = refl

none_out : (rules : Rules) (a b : ℕ) → false ≡ in_range 0 a b (rows_under rules)
unfolding call_rows
none_out Rules.First a b = refl
none_out Rules.Current a b = refl

pub range_is : (rules : Rules) (code a b : ℕ) → arguments_ok rules code a b ≡ in_range code a b (rows_under rules)
unfolding arguments_ok program_of programs
range_is rules zero a b = none_out rules a b
range_is rules (suc k) a b =
    ap (λ t. (leb 1 (suc k) && t) && (leb a (program_of rules (suc k)).greatest_a && leb b (program_of rules (suc k)).greatest_b)) (below_next (suc k) (top_code rules))
    ∙ ap (λ n. (leb 1 (suc k) && ltb (suc k) (suc (top_code rules))) && (leb a (get_or (drop 1 (programs rules)) n nothing).greatest_a && leb b (get_or (drop 1 (programs rules)) n nothing).greatest_b)) (sym before)
    ∙ of_those (top_code rules) (drop 1 (programs rules)) (suc k) a b (top_within rules)
    ∙ within_is (called rules) 1 (suc k) a b
    ∙ taken_is 1 (called rules) (rows_under rules) (rows_fit rules) (suc k) a b
  where
    before : suc k - 1 ≡ k
    before = omega arith

pub ready_ok : (s : Session) (code : ℕ) → Ready s code → not_up code s.driver.up ≡ false
ready_ok s code bring_up = refl
ready_ok s code (while_up e) = go (eqb code 1)
  where
    go : (t : Bool) → cond t false (not s.driver.up) ≡ false
    go true = refl
    go false = rw e

pub ok_ready : (s : Session) (code : ℕ) → not_up code s.driver.up ≡ false → Ready s code
ok_ready s code h = go (eqb code 1) refl h
  where
    go : (t : Bool) → eqb code 1 ≡ t → cond t false (not s.driver.up) ≡ false → Ready s code
    go true e q = rw (eqb-true code 1 e) bring_up
    go false e q = while_up (not-false s.driver.up q)

-- of any session, also a waiting or an ill-formed one
pub accepted_iff : (rules : Rules) (s : Session) (code a b : ℕ) → Accepts (step_def rules s (call code a b)) ↔ Accepted rules s code a b
unfolding begin_def step_def
accepted_iff rules s code a b = (there, back)
  where
    there : Accepts (step_def rules s (call code a b)) → Accepted rules s code a b
    there =
        cond_case (λ o. Accepts o → Accepted rules s code a b) (ill_formed rules s) (λ e h. absurd h)
        (λ e. cond_case (λ o. Accepts o → Accepted rules s code a b) (not (arguments_ok rules code a b)) (λ e₁ h. absurd h)
        (λ e₁. cond_case (λ o. Accepts o → Accepted rules s code a b) (waits_now s) (λ e₂ h. absurd h)
        (λ e₂. cond_case (λ o. Accepts o → Accepted rules s code a b) (not_up code s.driver.up) (λ e₃ h. absurd h)
        (λ e₃ h. record { none_waiting = eqb-true s.code 0 (not-false (eqb s.code 0) e₂); arguments = sym (range_is rules code a b) ∙ not-false (arguments_ok rules code a b) e₁; ready = ok_ready s code e₃ }))))

    back : Accepted rules s code a b → Accepts (step_def rules s (call code a b))
    back h =
        rw (h.none_waiting, range_is rules code a b ∙ h.arguments, ready_ok s code h.ready)
        (decide_accepts ((program_of rules code).entry (context_of (begun s code a b))) (program_of rules code) (length (program_of rules code).steps) 0 (begun s code a b))
