-- The fields that a bring-up leaves, and the value of call 15, are those that the bus showed.
use Rattle.session.specs.declared.Rules.{Rules}
use Rattle.session.proofs.Table.{address_fits}
use mathlib.Core.Path.{◌≡◌, refl, sym, subst, ◌∙◌, ap}
use mathlib.Core.Bool.{Bool, true, false, cond}
use mathlib.Core.List.{List, [], ◌∷◌}
use Prim.Native.Nat.{ℕ, ◌%◌}
use native.Mathlib.Bridge.{le_by_compare, IsLe}
use lib.Dec.{eqb}
use borrow.Author.Tests.{eqb-true}
use Rattle.budget.specs.Budget.{measurement_timing_budget}
use Rattle.timing.specs.Timeouts.{time_in}
use Rattle.timing.specs.Registers.{registers_of}
use Rattle.session.specs.Bus.{Driver, byte, with_driver_address, with_driver_budget}
use Rattle.session.specs.Instructions.{timing_slot, budget_in}
use Rattle.session.specs.Steps.{slot}
use Rattle.session.specs.Calls.{tuning, brought_up, programs, program_of, arguments_ok}
use Rattle.session.specs.History.{Exchange}
use Rattle.session.specs.Claim3.{first_byte, budget_of_first, up_by, after_done}
use Rattle.session.proofs.Laws.{leaves}
use Rattle.session.proofs.Trace.{Track, Sound, Traced}
use Rattle.session.proofs.Owned.{Owns, Owned}
use Rattle.session.proofs.Value.{value_is}
use Rattle.session.proofs.Up.{after_begun}

abbrev reads : ℕ → ℕ → ℕ → Track
reads reg slot len = record { reg = reg; slot = slot; len = len }

-- the six budget reads, in a call that keeps them from slot 8 on
pub record Six (rules : Rules) (code : ℕ) : Type 0 where
  pub s01 : Sound rules (reads 0x01 8 1) code
  pub s51 : Sound rules (reads 0x51 9 2) code
  pub s71 : Sound rules (reads 0x71 11 2) code
  pub s50 : Sound rules (reads 0x50 13 1) code
  pub s46 : Sound rules (reads 0x46 14 1) code
  pub s70 : Sound rules (reads 0x70 15 1) code
  pub owns : Owns rules code

module _ (rules : Rules) (code : ℕ) (six : Six rules code) (l : List ℕ) (found_budget : ℕ) (ex : List Exchange) (tr : (t : Track) → Sound rules t code → Traced t l [] ex) (ow : Owns rules code → Owned found_budget l [] ex) where
  own_is : found_budget ≡ budget_of_first ex
  unfolding IsLe
  own_is =
      let qo : found_budget ≡ budget_in timing_slot l = (ow six.owns).is (ow six.owns).law in
      let q01 : byte 8 l ≡ first_byte 0x01 0 ex = (tr (reads 0x01 8 1) six.s01).bytes 0 (le_by_compare _ _ tt) in
      let q51 : byte 9 l ≡ first_byte 0x51 0 ex = (tr (reads 0x51 9 2) six.s51).bytes 0 (le_by_compare _ _ tt) in
      let q51' : byte 10 l ≡ first_byte 0x51 1 ex = (tr (reads 0x51 9 2) six.s51).bytes 1 (le_by_compare _ _ tt) in
      let q71 : byte 11 l ≡ first_byte 0x71 0 ex = (tr (reads 0x71 11 2) six.s71).bytes 0 (le_by_compare _ _ tt) in
      let q71' : byte 12 l ≡ first_byte 0x71 1 ex = (tr (reads 0x71 11 2) six.s71).bytes 1 (le_by_compare _ _ tt) in
      let q50 : byte 13 l ≡ first_byte 0x50 0 ex = (tr (reads 0x50 13 1) six.s50).bytes 0 (le_by_compare _ _ tt) in
      let q46 : byte 14 l ≡ first_byte 0x46 0 ex = (tr (reads 0x46 14 1) six.s46).bytes 0 (le_by_compare _ _ tt) in
      let q70 : byte 15 l ≡ first_byte 0x70 0 ex = (tr (reads 0x70 15 1) six.s70).bytes 0 (le_by_compare _ _ tt) in
      qo
      ∙ (λ i. (time_in (measurement_timing_budget (registers_of (q01 i ∷ q51 i ∷ q51' i ∷ q71 i ∷ q71' i ∷ q50 i ∷ q46 i ∷ q70 i ∷ [])))).0)
      ∙ sym (value_is (first_byte 0x01 0 ex) (first_byte 0x51 0 ex) (first_byte 0x51 1 ex) (first_byte 0x71 0 ex) (first_byte 0x71 1 ex) (first_byte 0x50 0 ex) (first_byte 0x46 0 ex) (first_byte 0x70 0 ex))

six_1 : (rules : Rules) → Six rules 1
unfolding program_of programs tuning
six_1 rules = record { s01 = refl; s51 = refl; s71 = refl; s50 = refl; s46 = refl; s70 = refl; owns = refl }

six_15 : (rules : Rules) → Six rules 15
unfolding program_of programs
six_15 rules = record { s01 = refl; s51 = refl; s71 = refl; s50 = refl; s46 = refl; s70 = refl; owns = refl }

pub value_15 : (rules : Rules) (l : List ℕ) (found_budget : ℕ) (ex : List Exchange) → ((t : Track) → Sound rules t 15 → Traced t l [] ex) → (Owns rules 15 → Owned found_budget l [] ex) → found_budget ≡ budget_of_first ex
value_15 rules = own_is rules 15 (six_15 rules)

fields_1 : (rules : Rules) (l : List ℕ) (found_budget : ℕ) (ex : List Exchange) → ((t : Track) → Sound rules t 1 → Traced t l [] ex) → (Owns rules 1 → Owned found_budget l [] ex) → (a : ℕ) → brought_up a l found_budget ≡ up_by a ex
unfolding program_of programs tuning IsLe
fields_1 rules l found_budget ex tr ow a =
    let q91 : byte 1 l ≡ _ = (tr (reads 0x91 1 1) refl).bytes 0 (le_by_compare _ _ tt) in
    let qb : found_budget ≡ budget_of_first ex = own_is rules 1 (six_1 rules) l found_budget ex tr ow in
    λ i. record { up = true; address = a; stop = q91 i; budget = qb i }

-- an address that 13 lets pass is one byte
cut_1 : (rules : Rules) (code a b : ℕ) → arguments_ok rules code a b ≡ true → code ≡ 1 → a % 256 ≡ a
unfolding program_of programs IsLe
cut_1 rules code a b h e = address_fits rules 1 a b (le_by_compare _ _ tt) (rw e at h)

cut_3 : (rules : Rules) (code a b : ℕ) → arguments_ok rules code a b ≡ true → code ≡ 3 → a % 256 ≡ a
unfolding program_of programs IsLe
cut_3 rules code a b h e = address_fits rules 3 a b (le_by_compare _ _ tt) (rw e at h)

pub fields_shown : (rules : Rules) (code a b : ℕ) → arguments_ok rules code a b ≡ true → (l : List ℕ) (found_budget : ℕ) (ex : List Exchange) (d d' : Driver)
    → ((t : Track) → Sound rules t code → Traced t l [] ex) → (Owns rules code → Owned found_budget l [] ex) → d' ≡ after_begun code d → leaves code a l found_budget d' ≡ after_done code a ex d
fields_shown rules code a b fit l found_budget ex d d' tr ow h = go (eqb code 1) refl
  where
    moved : (t : Bool) → eqb code 3 ≡ t → (x y : Driver) → x ≡ y
        → cond t (with_driver_address x (a % 256)) (cond (eqb code 9) (with_driver_budget x a) x)
        ≡ cond t (with_driver_address y a) (cond (eqb code 9) (with_driver_budget y a) y)
    moved true e x y q = rw (q, cut_3 rules code a b fit (eqb-true code 3 e)) refl
    moved false e x y q = rw q refl

    go : (t : Bool) → eqb code 1 ≡ t → leaves code a l found_budget d' ≡ after_done code a ex d
    go true e =
        let p : code ≡ 1 = eqb-true code 1 e in
        rw e
        (fields_1 rules l found_budget ex (subst (λ n. (t : Track) → Sound rules t n → Traced t l [] ex) p tr) (subst (λ n. Owns rules n → Owned found_budget l [] ex) p ow) (a % 256)
        ∙ ap (λ n. up_by n ex) (cut_1 rules code a b fit p))
    go false e = rw e (moved (eqb code 3) refl d' d (rw e at h))
