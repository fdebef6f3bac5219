-- The instructions of each call, each test made once, are its Rust function.
use mathlib.Core.Path.{◌≡◌, refl, fun_ext}
use mathlib.Core.Bool.{Bool, true, false, not}
use mathlib.Core.List.{List, [], ◌∷◌, map}
use Prim.Native.Nat.{ℕ}
use lib.Dec.{eqb, ltb}
use lib.ListN.{length}
use Rattle.spad.specs.Map.{bits_of, byte_of, selected}
use Rattle.spad.specs.Masks.{each_bit, or_byte}
use Rattle.spad.proofs.Loop.{loop_selects}
use Rattle.timing.specs.Places.{entries_of, less_place}
use Rattle.session.specs.declared.Rules.{Rules}
use Rattle.session.specs.Bus.{Driver, byte, idle_on, absent}
use Rattle.session.specs.Instructions.{Context}
use Rattle.session.specs.Calls.{tuning, programs, program_of}
use Rattle.session.specs.Machine.{zeros}
use Rattle.session.specs.Script.{Script}
use Rattle.session.specs.RustFn.{Fn, ◌>>◌, Ok, write_byte}
use Rattle.session.specs.RustClocks.{limit_contained}
use Rattle.session.specs.RustBringUp.{as_u8, as_u16, enable_ref_spads, load_tuning_settings, calls}
use Rattle.session.specs.LaterCalls.{later_calls, rust}
use Rattle.session.specs.AnySession.{decided, resume}
use Rattle.session.proofs.Once.{once_of}
use Rattle.session.proofs.Formulas.{period_is}
use Rattle.session.proofs.Bits.{or_is, and_is, no_interrupt_is, start_bit_is, spad_count_is, aperture_is, raw_is, mm_is}
use Rattle.session.proofs.RateLimit.{accepted_is, refused_is, quarter_in, quarter_word, read_is}
use Rattle.session.proofs.BudgetCalls.{get_is, set_is}

abbrev pub fresh : ℕ → Driver → ℕ → ℕ → ℕ → Context
fresh code d adr a b = record { code = code; driver = d; address = adr; a = a; b = b; failed = 0; found_budget = 0; carried = zeros }

-- a call from its start, each test made once
abbrev pub script : Rules → ℕ → Context → Script
script rules code c = decided ((program_of rules code).entry c) (length (program_of rules code).steps) c (λ n. resume (program_of rules code).final n (map once_of (program_of rules code).steps) c)

pub spads_are : enable_ref_spads
    ≡ (λ count aperture bytes. selected (byte 0 bytes ∷ byte 1 bytes ∷ byte 2 bytes ∷ byte 3 bytes ∷ byte 4 bytes ∷ byte 5 bytes ∷ []) count (not (eqb aperture 0)))
unfolding enable_ref_spads
spads_are =
    fun_ext (λ count. fun_ext (λ aperture. fun_ext (λ bytes.
    loop_selects (byte 0 bytes) (byte 1 bytes) (byte 2 bytes) (byte 3 bytes) (byte 4 bytes) (byte 5 bytes) count aperture)))

-- the tuning list, a write for each row
abbrev writes : List (ℕ × ℕ) → Fn Unit
writes [] = Ok tt
writes (x ∷ xs) = write_byte x.0 x.1 >> writes xs

tuning_is : load_tuning_settings ≡ writes tuning
unfolding load_tuning_settings tuning
tuning_is = refl

-- the tuning list is put in last, so that nothing else is looked for in it
bring_up_is : (rules : Rules) (d : Driver) (a b : ℕ) (x : Script) → x ≡ script rules 1 (fresh 1 absent (as_u8 a) a b) → x ≡ rust rules d 1 a b
unfolding program_of programs rust calls idle_on tuning entries_of less_place or_byte each_bit bits_of byte_of
bring_up_is rules d a b x e =
    rw (or_is, and_is, no_interrupt_is, spad_count_is, aperture_is) (rw (spads_are, quarter_in, quarter_word, get_is, set_is rules) (rw tuning_is e))

pub same_1 : (rules : Rules) (d : Driver) (a b : ℕ) → script rules 1 (fresh 1 absent (as_u8 a) a b) ≡ rust rules d 1 a b
same_1 rules d a b = bring_up_is rules d a b (script rules 1 (fresh 1 absent (as_u8 a) a b)) refl

pub same_2 : (rules : Rules) (d : Driver) (a b : ℕ) → script rules 2 (fresh 2 d d.address a b) ≡ rust rules d 2 a b
unfolding program_of programs rust calls
same_2 rules d a b = refl

pub same_3 : (rules : Rules) (d : Driver) (a b : ℕ) → script rules 3 (fresh 3 d d.address a b) ≡ rust rules d 3 a b
unfolding program_of programs rust calls
same_3 rules d a b = refl

pub same_4 : (rules : Rules) (d : Driver) (a b : ℕ) → script rules 4 (fresh 4 d d.address a b) ≡ rust rules d 4 a b
unfolding program_of programs rust calls
same_4 rules d a b = go (eqb a 0) refl
  where
    go : (t : Bool) → eqb a 0 ≡ t → script rules 4 (fresh 4 d d.address a b) ≡ rust rules d 4 a b
    go true e = rw (period_is, e)
    go false e = rw (period_is, e)

pub same_5 : (rules : Rules) (d : Driver) (a b : ℕ) → script rules 5 (fresh 5 d d.address a b) ≡ rust rules d 5 a b
unfolding program_of programs rust calls
same_5 rules d a b = refl

pub same_6 : (rules : Rules) (d : Driver) (a b : ℕ) → script rules 6 (fresh 6 d d.address a b) ≡ rust rules d 6 a b
unfolding program_of programs rust calls
same_6 rules d a b = rw no_interrupt_is

pub same_7 : (rules : Rules) (d : Driver) (a b : ℕ) → script rules 7 (fresh 7 d d.address a b) ≡ rust rules d 7 a b
unfolding program_of programs rust calls idle_on
same_7 rules d a b = rw no_interrupt_is

pub same_8 : (rules : Rules) (d : Driver) (a b : ℕ) → script rules 8 (fresh 8 d d.address a b) ≡ rust rules d 8 a b
unfolding program_of programs rust calls idle_on
same_8 rules d a b = rw (no_interrupt_is, start_bit_is)

pub same_9 : (rules : Rules) (d : Driver) (a b : ℕ) → script rules 9 (fresh 9 d d.address a b) ≡ rust rules d 9 a b
unfolding program_of programs rust calls entries_of less_place
same_9 rules d a b = rw (set_is rules)

pub same_10 : (rules : Rules) (d : Driver) (a b : ℕ) → script rules 10 (fresh 10 d d.address a b) ≡ rust rules d 10 a b
unfolding program_of programs rust calls
same_10 rules d a b = go (ltb b (as_u16 a)) (ltb 8190 (as_u16 a)) (ltb 8190 b) refl refl refl
  where
    go : (t u v : Bool) → ltb b (as_u16 a) ≡ t → ltb 8190 (as_u16 a) ≡ u → ltb 8190 b ≡ v → script rules 10 (fresh 10 d d.address a b) ≡ rust rules d 10 a b
    go true u v e f g = rw (raw_is, e)
    go false true v e f g = rw (raw_is, e, f)
    go false false true e f g = rw (raw_is, e, f, g)
    go false false false e f g = rw (raw_is, e, f, g)

pub same_11 : (rules : Rules) (d : Driver) (a b : ℕ) → script rules 11 (fresh 11 d d.address a b) ≡ rust rules d 11 a b
unfolding program_of programs rust calls
same_11 rules d a b = rw mm_is

pub same_12 : (rules : Rules) (d : Driver) (a b : ℕ) → script rules 12 (fresh 12 d d.address a b) ≡ rust rules d 12 a b
unfolding program_of programs rust calls
same_12 rules d a b = rw (or_is, and_is)

pub same_13 : (rules : Rules) (d : Driver) (a b : ℕ) → script rules 13 (fresh 13 d d.address a b) ≡ rust rules d 13 a b
unfolding program_of programs rust calls
same_13 rules d a b = refl

pub same_14 : (rules : Rules) (d : Driver) (a b : ℕ) → script rules 14 (fresh 14 d d.address a b) ≡ rust rules d 14 a b
unfolding program_of programs rust calls
same_14 rules d a b = go (limit_contained a) refl
  where
    go : (t : Bool) → limit_contained a ≡ t → script rules 14 (fresh 14 d d.address a b) ≡ rust rules d 14 a b
    go true e = rw (accepted_is a e, e) refl
    go false e = rw (refused_is a e, e)

pub same_15 : (rules : Rules) (d : Driver) (a b : ℕ) → script rules 15 (fresh 15 d d.address a b) ≡ rust rules d 15 a b
unfolding program_of programs rust calls entries_of less_place
same_15 rules d a b = rw get_is

pub same_16 : (rules : Rules) (d : Driver) (a b : ℕ) → script rules 16 (fresh 16 d d.address a b) ≡ rust rules d 16 a b
unfolding program_of programs rust calls later_calls
same_16 rules d a b = rw read_is

pub ruleset each_call = (same_1, same_2, same_3, same_4, same_5, same_6, same_7, same_8, same_9, same_10, same_11, same_12, same_13, same_14, same_15, same_16)
