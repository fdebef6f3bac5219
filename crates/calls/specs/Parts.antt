-- Parts of the lists of instructions, as the code has them. That they make up the calls is proved.
use Rattle.std.specs.Prelude.{List, [], ◌∷◌, ◌++◌, ℕ, get_or}
use Rattle.budget.specs.declared.DssTerm.{DssTerm}
use Rattle.session.specs.declared.Instruction.{Instruction}
use Rattle.session.specs.declared.Setting.{Setting}
use Rattle.session.specs.Instructions.{mask_slot, stop_slot, second_slot}
use Rattle.session.specs.Calls.{rows, budget_reads, budget_steps, gpio_steps, calibration, tuning, spad_steps}

-- lib.rs: set_measurement_timing_budget after its first five reads
abbrev pub budget_write : ℕ → Setting → DssTerm → List Instruction
budget_write k x dss = Instruction.ReadLast k x dss ∷ Instruction.WriteWord k x dss ∷ []

-- lib.rs: set_gpio_config without its clearing
abbrev pub gpio_writes : Instruction → Instruction → List Instruction
gpio_writes function polarity = function ∷ Instruction.Read 0x84 mask_slot ∷ polarity ∷ []

-- a calibration and the sequence that is written before it
abbrev pub stage : ℕ → ℕ → List Instruction
stage sequence b = Instruction.Write 0x01 sequence ∷ calibration b

-- a bring-up from its pin on
abbrev pub from_gpio : DssTerm → List Instruction
from_gpio dss =
    gpio_steps (Instruction.Write 0x0A 0x04) (Instruction.WriteAnd 0x84 0xEF)
    ++ budget_reads
    ++ Instruction.WriteSteps
    ∷ budget_steps second_slot Setting.Found dss
    ++ stage 0x01 0x41
    ++ stage 0x02 0x01
    ++ Instruction.Write 0x01 0xE8
    ∷ []

-- a bring-up from its tuning settings on
abbrev pub from_tuning : DssTerm → List Instruction
from_tuning dss = rows tuning ++ from_gpio dss

-- a bring-up up to there
abbrev pub before_tuning : List Instruction
before_tuning =
    Instruction.Identify ∷ Instruction.Read 0x89 mask_slot ∷ Instruction.WriteOr 0x89 0x01
    ∷ rows ((0x88, 0x00) ∷ (0x80, 0x01) ∷ (0xFF, 0x01) ∷ (0x00, 0x00) ∷ [])
    ++ Instruction.Read 0x91 stop_slot
    ∷ rows ((0x00, 0x01) ∷ (0xFF, 0x00) ∷ (0x80, 0x00) ∷ [])
    ++ Instruction.Read 0x60 mask_slot ∷ Instruction.WriteOr 0x60 0x12 ∷ Instruction.WriteQuarter ∷ Instruction.Write 0x01 0xFF
    ∷ spad_steps
    ++ Instruction.ReadMap
    ∷ rows ((0xFF, 0x01) ∷ (0x4F, 0x00) ∷ (0x4E, 0x2C) ∷ (0xFF, 0x00) ∷ (0xB6, 0xB4) ∷ [])
    ++ Instruction.WriteMap ∷ []

-- the write of a row of the tuning list, as two bytes
abbrev pub row_write : List ℕ → Instruction
row_write r = Instruction.Write (get_or r 0 0) (get_or r 1 0)
