-- The meaning of each instruction. Arithmetic is that of the leaves: clocks, budget, map, rate, thresholds.
use Rattle.std.specs.Prelude.{Bool, true, false, not, ◌&&◌, cond, List, [], ◌∷◌, ℕ, ◌+◌, ◌*◌, ◌/◌, ◌%◌, eqb, ltb, get_or, Option, None, Some, Result, Ok, Err, unwrap_or}
use Rattle.std.specs.Result.{result_unwrap_or}
use Rattle.clock.specs.declared.Place.{Place}
use Rattle.clock.specs.Places.{place_number}
use Rattle.spad.specs.Map.{selected}
use Rattle.spad.specs.Masks.{or_byte, and_byte}
use Rattle.rate.specs.Rate.{signal_rate_limit_word}
use Rattle.threshold.specs.Threshold.{encode_threshold}
use Rattle.ground.specs.Numbers.{word_of}
use Rattle.timing.specs.Places.{first_place}
use Rattle.budget.specs.declared.DssTerm.{DssTerm}
use Rattle.budget.specs.declared.NoWord.{NoWord}
use Rattle.budget.specs.Budget.{too_short, final_range_word}
use Rattle.session.specs.declared.Setting.{Setting}
use Rattle.session.specs.Bus.{byte}
use Rattle.session.specs.Instructions.{Instruction, Context, declines, wrong_device, unready, panics, Verdict, onward, leap, stop, test, Op, write, read, wait, range, identity_slot, mask_slot, spad_slot, timing_slot, map_slot, bytes_from, timing_in}

abbrev pub slot : ℕ → Context → ℕ
slot k c = byte k c.carried

abbrev pub slot_word : ℕ → Context → ℕ
slot_word k c = word_of (slot k c) (slot (k + 1) c)

-- SCOPE 4.1: words are sent high byte first
abbrev pub word_bytes : ℕ → List ℕ
word_bytes w = w / 256 % 256 ∷ w % 256 ∷ []

abbrev pub long_bytes : ℕ → List ℕ
long_bytes w = w / 16777216 % 256 ∷ w / 65536 % 256 ∷ w / 256 % 256 ∷ w % 256 ∷ []

abbrev pub pass : Context → Verdict
pass c = onward

-- an address is one byte, a threshold two: what lib.rs's functions take. A session that no run leaves may hold more
abbrev pub address_in : Context → ℕ
address_in c = c.a % 256

abbrev pub low_in : Context → ℕ
low_in c = c.a % 65536

-- SCOPE 4.1: a write to a register reads one byte back (six for the map, none in set_address), which is ignored
abbrev pub writes : ℕ → (Context → List ℕ) → Op
writes reg bytes = write reg bytes 1 0 pass

abbrev pub keeps : ℕ → ℕ → ℕ → Op
keeps reg len k = read reg len k false 0 pass

-- a place of the arithmetic ends the call
abbrev pub by_place : Option Place → Verdict
by_place None = onward
by_place (Some p) = stop (panics (place_number p))

-- so does a final range word that cannot be had; `short` is what follows where no time is left for the final range
abbrev pub by_word : Verdict → Result ℕ NoWord → Verdict
by_word short (Ok w) = onward
by_word short (Err NoWord.NoTime) = short
by_word short (Err (NoWord.Panic p)) = stop (panics (place_number p))

-- the word, or 0 where there is none: only a session that no run leaves stands there
abbrev pub word_in : Result ℕ NoWord → ℕ
word_in x = result_unwrap_or x 0

abbrev pub rate_in : Option ℕ → ℕ
rate_in x = unwrap_or x 0

-- the budget that is set: a bring-up sets the one that it found, call 9 its argument
abbrev pub budget_to_set : Setting → Context → ℕ
budget_to_set Setting.Found c = c.found_budget
budget_to_set Setting.Asked c = c.a

-- by the instruction's DSS term (SCOPE 5.4)
abbrev pub word_to_set : ℕ → Setting → DssTerm → Context → Result ℕ NoWord
word_to_set k x dss c = final_range_word (timing_in k c.carried) (record { 0 = budget_to_set x c }) dss

-- SCOPE 5.2: an answer 1 of the budget step is dropped: a bring-up leaps over the write, call 9 is answered 1
abbrev pub no_time : Setting → Verdict
no_time Setting.Found = leap
no_time Setting.Asked = stop declines

-- the write that is left out
abbrev pub over_last : Setting → ℕ
over_last Setting.Found = 1
over_last Setting.Asked = 0

-- SCOPE 5.3: the budget reads by number: register, length and place among the eight bytes
abbrev pub timing_register : ℕ → ℕ
timing_register n = get_or (0x00 ∷ 0x01 ∷ 0x51 ∷ 0x71 ∷ 0x50 ∷ 0x46 ∷ 0x70 ∷ []) n 0

abbrev pub timing_length : ℕ → ℕ
timing_length n = get_or (0 ∷ 1 ∷ 2 ∷ 2 ∷ 1 ∷ 1 ∷ 1 ∷ []) n 0

abbrev pub timing_place : ℕ → ℕ
timing_place n = get_or (0 ∷ 0 ∷ 1 ∷ 3 ∷ 5 ∷ 6 ∷ 7 ∷ []) n 0

-- SCOPE 5.7: an oscillator word of 0 leaves the period as it is
abbrev pub timed_period : Context → ℕ
timed_period c = cond (eqb (slot_word timing_slot c) 0) c.a (c.a * slot_word timing_slot c)

-- SCOPE 5.7: period × oscillator word above 32 bits is place 1
abbrev pub period_too_long : Context → Bool
period_too_long c = not (eqb (slot_word timing_slot c) 0) && ltb 4294967295 (c.a * slot_word timing_slot c)

-- the new map: count in the low seven bits of 0x92's byte, the aperture flag above them
abbrev pub new_map : Context → List ℕ
new_map c = bytes_from 0 6 (selected (bytes_from map_slot 6 c.carried) (slot spad_slot c % 128) (not (eqb (slot spad_slot c / 128 % 2) 0)))

abbrev pub op_of : Instruction → Op
op_of Instruction.Nowhere = writes 0x00 (λ c. [])
op_of (Instruction.Write reg b) = writes reg (λ c. b ∷ [])
op_of (Instruction.WriteOr reg mask) = writes reg (λ c. or_byte (slot mask_slot c) mask ∷ [])
op_of (Instruction.WriteAnd reg mask) = writes reg (λ c. and_byte (slot mask_slot c) mask ∷ [])
op_of (Instruction.Read reg k) = keeps reg 1 k
op_of (Instruction.ReadWord reg k) = keeps reg 2 k
op_of Instruction.Identify = read 0xC0 1 identity_slot false 0 (λ c. test (eqb (slot identity_slot c) 0xEE) onward (stop (wrong_device (slot identity_slot c))))
op_of Instruction.ReadMap = keeps 0xB0 6 map_slot
op_of Instruction.WriteMap = write 0xB0 new_map 6 0 pass
op_of Instruction.WriteQuarter = writes 0x44 (λ c. word_bytes 32)
op_of Instruction.WriteRate = writes 0x44 (λ c. word_bytes (rate_in (signal_rate_limit_word c.a)))
op_of Instruction.WriteStop = writes 0x91 (λ c. c.driver.stop ∷ [])
op_of Instruction.Prepared = write 0x80 (λ c. 0x00 ∷ []) 1 2 (λ c. test (not (eqb c.a 0)) onward leap)
op_of Instruction.ReadOscillator = read 0xF8 2 timing_slot false 0 (λ c. test (period_too_long c) (stop (panics 1)) onward)
op_of Instruction.WritePeriod = writes 0x04 (λ c. long_bytes (timed_period c))
op_of Instruction.WriteMode = writes 0x00 (λ c. cond (eqb c.a 0) 0x02 0x04 ∷ [])
op_of Instruction.WriteAddress = write 0x8A (λ c. address_in c ∷ []) 0 0 pass
op_of Instruction.WriteLow = writes 0x0E (λ c. word_bytes (encode_threshold (record { 0 = low_in c })).0)
op_of Instruction.WriteHigh = writes 0x0C (λ c. word_bytes (encode_threshold (record { 0 = c.b })).0)
op_of Instruction.WriteFunction = writes 0x0A (λ c. get_or (0x04 ∷ 0x01 ∷ 0x02 ∷ 0x03 ∷ []) c.a 0 ∷ [])
op_of Instruction.WritePolarity = writes 0x84 (λ c. cond (eqb c.b 0) (and_byte (slot mask_slot c) 0xEF) (or_byte (slot mask_slot c) 0x10) ∷ [])
op_of Instruction.ReadStatus = read 0x13 1 mask_slot false 0 (λ c. test (eqb (slot mask_slot c % 8) 0) (stop unready) onward)
op_of (Instruction.ReadTiming n k) = read (timing_register n) (timing_length n) (k + timing_place n) false 0 (λ c. by_place (first_place (timing_in k c.carried) n))
op_of Instruction.FindBudget = read 0x70 1 (timing_slot + 7) true 0 (λ c. by_place (first_place (timing_in timing_slot c.carried) 6))
op_of (Instruction.ReadLast k x dss) = read 0x70 1 (k + 7) false (over_last x) (λ c. by_word (no_time x) (word_to_set k x dss c))
op_of Instruction.WriteSteps = write 0x01 (λ c. 0xE8 ∷ []) 1 7 (λ c. test (too_short c.found_budget) leap onward)
op_of (Instruction.WriteWord k x dss) = writes 0x71 (λ c. word_bytes (word_in (word_to_set k x dss c)))
op_of (Instruction.Await x) = wait x
op_of (Instruction.ReadRange reg n k over) = range reg n k over
