-- From the first of six budget reads on, and from the oscillator's, the instructions of a session that is handed in are what lib.rs does there.
use mathlib.Core.Path.{◌≡◌, refl, sym, ap, ◌∙◌}
use mathlib.Core.Bool.{true, false}
use mathlib.Core.List.{List, [], ◌∷◌, map}
use Prim.Native.Nat.{ℕ, zero, suc}
use lib.Dec.{eqb}
use lib.ListN.{length, drop}
use Rattle.spad.specs.Map.{bits_of, byte_of}
use Rattle.spad.specs.Masks.{each_bit, or_byte}
use Rattle.timing.specs.Places.{entries_of, less_place}
use Rattle.session.specs.declared.Rules.{Rules}
use Rattle.session.specs.Bus.{byte, idle_on}
use Rattle.session.specs.Instructions.{Context, bytes_from, timing_in}
use Rattle.session.specs.Machine.{Session, address_of, held_by, context_of}
use Rattle.session.specs.Steps.{op_of}
use Rattle.session.specs.Calls.{tuning, programs, program_of}
use Rattle.session.specs.Script.{Script}
use Rattle.session.specs.RustFn.{◌>>◌, Ok, write_byte}
use Rattle.session.specs.RustCalls.{start_timed, get_measurement_timing_budget, set_budget_from_reads, set_measurement_timing_budget}
use Rattle.session.specs.RustBringUp.{method, constructed, number, flag, unit, calibration, budget_and_calibration}
use Rattle.session.specs.AnySession.{resume, chip_in}
use Rattle.session.proofs.Once.{once_of}
use Rattle.session.proofs.Tests.{none_known}
use Rattle.session.proofs.Eager.{ordered, once}
use Rattle.session.proofs.BudgetCalls.{tested, get_is, set_is, rest_is}
use Rattle.session.proofs.SixReads.{six}
use Rattle.session.proofs.Formulas.{period_is}
use Rattle.session.proofs.Bits.{or_is, no_interrupt_is}

-- a list is its bytes
shifted : (i n x : ℕ) (l : List ℕ) → bytes_from (suc i) n (x ∷ l) ≡ bytes_from i n l
shifted i zero x l = refl
shifted i (suc n) x l = ap (λ bs. byte i l ∷ bs) (shifted (suc i) n x l)

its_bytes : (l : List ℕ) → bytes_from 0 (length l) l ≡ l
its_bytes [] = refl
its_bytes (x ∷ l) = ap (λ bs. x ∷ bs) (shifted 0 (length l) x l ∙ its_bytes l)

-- instructions of a call from the j-th on, and with each test made once
abbrev pub from_step : Rules → ℕ → ℕ → Context → Script
from_step rules code j c = resume (program_of rules code).final zero (map op_of (drop j (program_of rules code).steps)) c

abbrev once_from : Rules → ℕ → ℕ → Context → Script
once_from rules code j c = resume (program_of rules code).final zero (map once_of (drop j (program_of rules code).steps)) c

made_once : (rules : Rules) (code j : ℕ) (c : Context) → ordered 0 0 (drop j (program_of rules code).steps) ≡ true → from_step rules code j c ≡ once_from rules code j c
made_once rules code j c h = once (program_of rules code).final (drop j (program_of rules code).steps) 0 0 c h (none_known (timing_in 0 c.carried))

module _ (rules : Rules) (s : Session) where
  -- what the call of a session sees, by its code, with 24 bytes carried
  abbrev pub view : ℕ → Context
  view code =
      record {
        code = code;
        driver = held_by code s.driver;
        address = address_of code s.a s.driver;
        a = s.a;
        b = s.b;
        failed = s.failed;
        found_budget = s.found_budget;
        carried = bytes_from 0 24 s.carried;
      }

  pub view_is : length s.carried ≡ 24 → context_of s ≡ view s.code
  view_is h =
      let whole : bytes_from 0 24 s.carried ≡ s.carried = ap (λ n. bytes_from 0 n s.carried) (sym h) ∙ its_bytes s.carried in
      rw whole refl

  pub from_15 : from_step rules 15 0 (view 15) ≡ method number s.driver get_measurement_timing_budget
  unfolding program_of programs entries_of less_place
  from_15 = made_once rules 15 0 (view 15) refl ∙ go
    where
      go : once_from rules 15 0 (view 15) ≡ method number s.driver get_measurement_timing_budget
      go = rw get_is

  pub from_9 : from_step rules 9 0 (view 9) ≡ method flag s.driver (set_budget_from_reads rules s.a)
  unfolding program_of programs entries_of less_place
  from_9 = made_once rules 9 0 (view 9) refl ∙ ap (λ f. method flag s.driver (f s.a)) (sym (rest_is rules))

  pub from_1 : from_step rules 1 129 (view 1) ≡ constructed (chip_in s 0) (budget_and_calibration rules)
  unfolding program_of programs tuning idle_on entries_of less_place or_byte each_bit bits_of byte_of
  from_1 = made_once rules 1 129 (view 1) refl ∙ go
    where
      go : once_from rules 1 129 (view 1) ≡ constructed (chip_in s 0) (budget_and_calibration rules)
      go = rw (or_is, no_interrupt_is, get_is, set_is rules)

  pub again_from_1 : from_step rules 1 136 (view 1) ≡ constructed (chip_in s s.found_budget) (set_budget_from_reads rules s.found_budget >> calibration)
  unfolding program_of programs tuning idle_on entries_of less_place or_byte each_bit bits_of byte_of
  again_from_1 = made_once rules 1 136 (view 1) refl ∙ go ∙ ap (λ f. constructed (chip_in s s.found_budget) (f s.found_budget >> calibration)) (sym (rest_is rules))
    where
      go : once_from rules 1 136 (view 1) ≡ constructed (chip_in s s.found_budget) (six (λ r. tested rules r s.found_budget) >> calibration)
      go = rw (or_is, no_interrupt_is)

  pub steps_from_1 : from_step rules 1 135 (view 1) ≡ constructed (chip_in s s.found_budget) (write_byte 0x01 0xE8 >> (set_measurement_timing_budget rules s.found_budget >> calibration))
  unfolding program_of programs tuning idle_on entries_of less_place or_byte each_bit bits_of byte_of
  steps_from_1 = made_once rules 1 135 (view 1) refl ∙ go
    where
      go : once_from rules 1 135 (view 1) ≡ constructed (chip_in s s.found_budget) (write_byte 0x01 0xE8 >> (set_measurement_timing_budget rules s.found_budget >> calibration))
      go = rw (or_is, no_interrupt_is, set_is rules)

  pub from_4 : eqb s.a 0 ≡ false → from_step rules 4 7 (view 4) ≡ method unit s.driver (start_timed s.a >> Ok tt)
  unfolding program_of programs
  from_4 e = rw (period_is, e)
