-- The budget reads with their new tests only: each test once, at the read where its inputs become known, in the Rust's order.
use mathlib.Core.Bool.{cond}
use mathlib.Core.List.{List, [], ◌∷◌}
use Prim.Native.Nat.{ℕ, ◌+◌, ◌-◌, ◌*◌, ◌/◌}
use lib.Dec.{eqb, ltb}
use Rattle.std.specs.Prelude.{◌≡◌, refl, true, false, Option, None, Some, is_none}
use Rattle.clock.specs.declared.Place.{Place}
use Rattle.clock.specs.Places.{place_number}
use Rattle.clock.specs.Clock.{macro_period}
use Rattle.timing.specs.declared.TimingRegisters.{TimingRegisters}
use Rattle.timing.specs.Timeouts.{pre_share, period_clocks}
use Rattle.timing.specs.declared.Entry.{Entry}
use Rattle.timing.specs.Places.{entries_of}
use Rattle.budget.specs.declared.DssTerm.{DssTerm}
use Rattle.budget.specs.Sums.{used_sum}
use Rattle.budget.specs.Budget.{with_pre}
use Rattle.ground.proofs.Facts.{clash}
use Rattle.session.specs.declared.Setting.{Setting}
use Rattle.session.specs.Instructions.{Instruction, panics, Verdict, onward, stop, test, Op, read, timing_slot, timing_in}
use Rattle.session.specs.Steps.{budget_to_set, no_time, over_last, timing_register, timing_length, timing_place, op_of}

-- the number of a place (SCOPE 9.4), or 0
abbrev pub number : Option Place → ℕ
number None = 0
number (Some p) = place_number p

pub none_is : (p : Option Place) → is_none p ≡ true → p ≡ None
none_is None e = refl
none_is (Some p) e = clash cc

-- the places whose last reply is the n-th
abbrev pub places_at : ℕ → List Entry → List (Option Place)
places_at n [] = []
places_at n (e ∷ es) = cond (eqb e.needs n) (e.place ∷ places_at n es) (places_at n es)

-- none of these places, or the first of them; then v
abbrev pub by_places : List (Option Place) → Verdict → Verdict
by_places [] v = v
by_places (p ∷ ps) v = test (is_none p) (by_places ps v) (stop (panics (number p)))

-- the tests of set_measurement_timing_budget, in the Rust's order
abbrev pub final_macro : TimingRegisters → ℕ
final_macro r = (macro_period (period_clocks r.finalperiod)).0

abbrev pub spare_sum : DssTerm → TimingRegisters → ℕ → ℕ
spare_sum dss r budget = (budget - (used_sum r dss).0) * 1000 + final_macro r / 2

abbrev pub total_clocks : DssTerm → TimingRegisters → ℕ → ℕ
total_clocks dss r budget = with_pre (record { 0 = spare_sum dss r budget / final_macro r }) (pre_share r)

abbrev pub word_tests : DssTerm → Verdict → TimingRegisters → ℕ → Verdict
word_tests dss short r budget =
    test (ltb budget (used_sum r dss).0) short
    (test (ltb 4294967295 (spare_sum dss r budget)) (stop (panics 7))
    (test (eqb (final_macro r) 0) (stop (panics 8))
    (test (ltb 65535 (total_clocks dss r budget)) (stop (panics 9)) onward)))

abbrev pub once_timing : ℕ → ℕ → Op
once_timing n k = read (timing_register n) (timing_length n) (k + timing_place n) false 0 (λ c. by_places (places_at n (entries_of (timing_in k c.carried))) onward)

abbrev pub once_found : Op
once_found = read 0x70 1 (timing_slot + 7) true 0 (λ c. by_places (places_at 6 (entries_of (timing_in timing_slot c.carried))) onward)

abbrev pub once_last : ℕ → Setting → DssTerm → Op
once_last k x dss =
    read 0x70 1 (k + 7) false (over_last x)
    (λ c. by_places (places_at 6 (entries_of (timing_in k c.carried))) (word_tests dss (no_time x) (timing_in k c.carried) (budget_to_set x c)))

-- a budget read that makes tests again, or another instruction
pub data Kind : Instruction → Type 0 where
  timing : (n k : ℕ) → Kind (Instruction.ReadTiming n k)
  found : Kind Instruction.FindBudget
  last : (k : ℕ) (x : Setting) (dss : DssTerm) → Kind (Instruction.ReadLast k x dss)
  other : {i : Instruction} → Kind i

abbrev pub kind_of : (i : Instruction) → Kind i
kind_of Instruction.Nowhere = other
kind_of (Instruction.Write reg b) = other
kind_of (Instruction.WriteOr reg mask) = other
kind_of (Instruction.WriteAnd reg mask) = other
kind_of (Instruction.Read reg k) = other
kind_of (Instruction.ReadWord reg k) = other
kind_of Instruction.Identify = other
kind_of Instruction.ReadMap = other
kind_of Instruction.WriteMap = other
kind_of Instruction.WriteQuarter = other
kind_of Instruction.WriteRate = other
kind_of Instruction.WriteStop = other
kind_of Instruction.Prepared = other
kind_of Instruction.ReadOscillator = other
kind_of Instruction.WritePeriod = other
kind_of Instruction.WriteMode = other
kind_of Instruction.WriteAddress = other
kind_of Instruction.WriteLow = other
kind_of Instruction.WriteHigh = other
kind_of Instruction.WriteFunction = other
kind_of Instruction.WritePolarity = other
kind_of Instruction.ReadStatus = other
kind_of (Instruction.ReadTiming n k) = timing n k
kind_of Instruction.FindBudget = found
kind_of (Instruction.ReadLast k x dss) = last k x dss
kind_of Instruction.WriteSteps = other
kind_of (Instruction.WriteWord k x dss) = other
kind_of (Instruction.Await x) = other
kind_of (Instruction.ReadRange reg n k over) = other

abbrev pub once_by : {i : Instruction} → Kind i → Op
once_by (timing n k) = once_timing n k
once_by found = once_found
once_by (last k x dss) = once_last k x dss
once_by (other {i}) = op_of i

abbrev pub once_of : Instruction → Op
once_of i = once_by (kind_of i)
