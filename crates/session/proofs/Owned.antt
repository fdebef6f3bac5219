-- The budget that a bring-up found is kept with the first read of 0x70, and is the number of the bytes at slots 8 to 15.
use mathlib.Core.Path.{◌≡◌, refl, sym, ap, ◌∙◌}
use mathlib.Core.Bool.{Bool, true, false, ◌||◌, ◌&&◌, cond, not}
use mathlib.Core.List.{List, [], ◌∷◌}
use Prim.Native.Nat.{ℕ, zero, suc, ◌+◌, ◌<◌}
use native.Mathlib.Bridge.{le_by_compare, IsLe}
use lib.ListN.{drop}
use borrow.Author.Tests.{not-true}
use Rattle.budget.specs.Budget.{measurement_timing_budget}
use Rattle.timing.specs.Timeouts.{time_in}
use Rattle.timing.specs.Registers.{registers_of}
use Rattle.session.specs.declared.Rules.{Rules}
use Rattle.session.specs.Bus.{byte, Reply, bad, good, Condition}
use Rattle.session.specs.Instructions.{Context, Op, write, read, wait, range, timing_slot, bytes_from, put, budget_in, send_of, kept_bytes, kept_budget}
use Rattle.session.specs.Calls.{ops_of, program_of}
use Rattle.session.specs.History.{Exchange, by}
use Rattle.session.specs.Claim3.{was_read}
use Rattle.ground.proofs.Facts.{both, clash}
use Rattle.session.proofs.Shape.{asks_op, full, leaps, one_byte}
use Rattle.session.proofs.Trace.{Track, misses, untouched, GoesOn}

abbrev bytes8 : Track
bytes8 = record { reg = 0x70; slot = 8; len = 8 }

-- the read that finds the budget, and an operation that leaves both the budget and its eight bytes alone
abbrev finder : Op → Bool
finder (write reg bytes len over after) = false
finder (read reg len k finds over after) = finds
finder (wait w) = false
finder (range reg len slot over) = false

abbrev spares : Op → Bool
spares op = not (finder op) && misses bytes8 op

-- over the operations left: 0x70 is first read by the one that finds the budget, which leaves budget and bytes as they are afterwards, and the call
-- does not end before that
abbrev pub own_ok : Bool → List Op → Bool
own_ok found [] = found
own_ok found (op ∷ ops) =
    cond found (spares op) (cond (asks_op 0x70 op) (finder op) true)
    && (cond (leaps op) (found || asks_op 0x70 op) true && own_ok (found || asks_op 0x70 op) ops)

abbrev pub Owns : Rules → ℕ → Type 0
Owns rules code = own_ok false (ops_of (program_of rules code)) ≡ true

pub record Owned (found_budget : ℕ) (carried : List ℕ) (ops : List Op) (ex : List Exchange) : Type 0 where
  pub law : own_ok (was_read 0x70 ex) ops ≡ true
  pub is : was_read 0x70 ex ≡ true → found_budget ≡ budget_in timing_slot carried

eight : (l l' : List ℕ) → ((i : ℕ) → i < 8 → byte (8 + i) l' ≡ byte (8 + i) l) → bytes_from 8 8 l' ≡ bytes_from 8 8 l
unfolding IsLe
eight l l' q =
    let q0 : byte 8 l' ≡ byte 8 l = q 0 (le_by_compare _ _ tt) in
    let q1 : byte 9 l' ≡ byte 9 l = q 1 (le_by_compare _ _ tt) in
    let q2 : byte 10 l' ≡ byte 10 l = q 2 (le_by_compare _ _ tt) in
    let q3 : byte 11 l' ≡ byte 11 l = q 3 (le_by_compare _ _ tt) in
    let q4 : byte 12 l' ≡ byte 12 l = q 4 (le_by_compare _ _ tt) in
    let q5 : byte 13 l' ≡ byte 13 l = q 5 (le_by_compare _ _ tt) in
    let q6 : byte 14 l' ≡ byte 14 l = q 6 (le_by_compare _ _ tt) in
    let q7 : byte 15 l' ≡ byte 15 l = q 7 (le_by_compare _ _ tt) in
    rw (q0, q1, q2, q3, q4, q5, q6, q7)

budget_same : (l l' : List ℕ) → ((i : ℕ) → i < 8 → byte (8 + i) l' ≡ byte (8 + i) l) → budget_in timing_slot l' ≡ budget_in timing_slot l
budget_same l l' q =
    ap (λ bs. (time_in (measurement_timing_budget (registers_of bs))).0) (eight l l' q)

own_kept : (op : Op) (r : Reply) (l : List ℕ) (found_budget : ℕ) → finder op ≡ false → kept_budget op r l found_budget ≡ found_budget
own_kept (write reg bytes len over after) r l found_budget h = refl
own_kept (read reg len k finds over after) (bad e) l found_budget h = refl
own_kept (read reg len k finds over after) (good bs) l found_budget h = rw h refl
own_kept (wait w) r l found_budget h = refl
own_kept (range reg len slot over) r l found_budget h = refl

own_found : (op : Op) (r : Reply) (l : List ℕ) (found_budget : ℕ) → GoesOn op r → finder op ≡ true → kept_budget op r l found_budget ≡ budget_in timing_slot (kept_bytes op r l)
own_found (write reg bytes len over after) r l found_budget g h = cc
own_found (read reg len k finds over after) (bad e) l found_budget g h = absurd g
own_found (read reg len k finds over after) (good bs) l found_budget g h = ap (λ t. cond t (budget_in timing_slot (put l k (bytes_from 0 len bs))) found_budget) h
own_found (wait w) r l found_budget g h = cc
own_found (range reg len slot over) r l found_budget g h = cc

-- the second and third part of the law
rest_of : (found : Bool) (op : Op) (ops : List Op) → own_ok found (op ∷ ops) ≡ true
    → (cond (leaps op) (found || asks_op 0x70 op) true ≡ true) × (own_ok (found || asks_op 0x70 op) ops ≡ true)
rest_of found op ops h =
    both (cond (leaps op) (found || asks_op 0x70 op) true) (own_ok (found || asks_op 0x70 op) ops)
    (both (cond found (spares op) (cond (asks_op 0x70 op) (finder op) true)) (cond (leaps op) (found || asks_op 0x70 op) true && own_ok (found || asks_op 0x70 op) ops) h).1

first_match_lem : (found : Bool) (op : Op) (ops : List Op) → own_ok found (op ∷ ops) ≡ true → cond found (spares op) (cond (asks_op 0x70 op) (finder op) true) ≡ true
first_match_lem found op ops h =
    (both (cond found (spares op) (cond (asks_op 0x70 op) (finder op) true)) (cond (leaps op) (found || asks_op 0x70 op) true && own_ok (found || asks_op 0x70 op) ops) h).0

pub own_step : (op : Op) (rest : List Op) (c : Context) (r : Reply) (l : List ℕ) (found_budget : ℕ) (ex : List Exchange) → full op c ≡ true → GoesOn op r
    → Owned found_budget l (op ∷ rest) ex → Owned (kept_budget op r l found_budget) (kept_bytes op r l) rest (by (send_of op c) r ∷ ex)
own_step op rest c r l found_budget ex f g d =
    record {
      law = rw (one_byte 0x70 op c f) (rest_of (was_read 0x70 ex) op rest d.law).1;
      is = λ q. go (was_read 0x70 ex) (asks_op 0x70 op) refl refl (rw (one_byte 0x70 op c f) at q);
    }
  where
    go : (b a : Bool) → was_read 0x70 ex ≡ b → asks_op 0x70 op ≡ a → b || a ≡ true → kept_budget op r l found_budget ≡ budget_in timing_slot (kept_bytes op r l)
    go true a e q h =
        let m = both (not (finder op)) (misses bytes8 op) (rw e at (first_match_lem (was_read 0x70 ex) op rest d.law)) in
        own_kept op r l found_budget (not-true (finder op) m.0) ∙ d.is e ∙ sym (budget_same l (kept_bytes op r l) (untouched bytes8 op r l m.1))
    go false true e q h = own_found op r l found_budget g (rw (e, q) at (first_match_lem (was_read 0x70 ex) op rest d.law))
    go false false e q h = clash cc

pub own_again : (found_budget : ℕ) (l : List ℕ) (w : Condition) (rest : List Op) (c : Context) (r : Reply) (ex : List Exchange)
    → Owned found_budget l (wait w ∷ rest) ex → Owned found_budget l (wait w ∷ rest) (by (send_of (wait w) c) r ∷ ex)
own_again found_budget l w rest c r ex d = go (was_read 0x70 ex) (asks_op 0x70 (wait w)) refl refl
  where
    go : (b a : Bool) → was_read 0x70 ex ≡ b → asks_op 0x70 (wait w) ≡ a → Owned found_budget l (wait w ∷ rest) (by (send_of (wait w) c) r ∷ ex)
    go true a e q = record { law = rw e (rw e at d.law); is = λ h. d.is e }
    go false true e q = let y : false ≡ true = rw (e, q) at (first_match_lem (was_read 0x70 ex) (wait w) rest d.law) in clash cc
    go false false e q = record { law = rw (e, q) (rw (e, q) at d.law); is = λ h. let y : false ≡ true = rw (e, q) at h in clash cc }

own_drop : (n : ℕ) (ops : List Op) → own_ok true ops ≡ true → own_ok true (drop n ops) ≡ true
own_drop zero ops h = h
own_drop (suc n) [] h = h
own_drop (suc n) (op ∷ ops) h = own_drop n ops (rest_of true op ops h).1

-- an operation that can skip stands only after that read
pub own_leap : (op : Op) (rest : List Op) (c : Context) (r : Reply) (l : List ℕ) (found_budget n : ℕ) (ex : List Exchange) → full op c ≡ true → GoesOn op r
    → leaps op ≡ true → Owned found_budget l (op ∷ rest) ex → Owned (kept_budget op r l found_budget) (kept_bytes op r l) (drop n rest) (by (send_of op c) r ∷ ex)
own_leap op rest c r l found_budget n ex f g a d =
    let s : Owned (kept_budget op r l found_budget) (kept_bytes op r l) rest (by (send_of op c) r ∷ ex) = own_step op rest c r l found_budget ex f g d in
    let e : was_read 0x70 (by (send_of op c) r ∷ ex) ≡ true = rw (one_byte 0x70 op c f) (rw a at (rest_of (was_read 0x70 ex) op rest d.law).0) in
    record { law = rw e (own_drop n rest (rw e at s.law)); is = s.is }
