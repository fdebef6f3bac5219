-- The interrupt thresholds. SCOPE 5.9; lib.rs: set_interrupt_thresholds_mm, get_interrupt_thresholds_mm.
use Rattle.std.specs.Prelude.{Bool, true, false, ◌||◌, ◌*◌, ◌/◌, ◌%◌, ltb, Result, Ok, Err}
use Rattle.threshold.specs.declared.Millimeters.{Millimeters}
use Rattle.threshold.specs.declared.RawThreshold.{RawThreshold}
use Rattle.threshold.specs.declared.InvalidArgument.{InvalidArgument}

-- half the millimetres, in 12 bits. lib.rs: (low_mm >> 1) & 0x0FFF. Above 8190 the bits above the twelfth are dropped
abbrev pub encode_threshold : Millimeters → RawThreshold
encode_threshold mm = record { 0 = mm.0 / 2 % 4096 }

-- the low 12 bits, doubled. lib.rs: (low_raw & 0x0FFF) << 1
abbrev pub decode_threshold : RawThreshold → Millimeters
decode_threshold raw = record { 0 = raw.0 % 4096 * 2 }

-- what the test of the arguments gives
abbrev pub refuse_if : Bool → Result Unit InvalidArgument
refuse_if true = Err (record {})
refuse_if false = Ok tt

-- SCOPE 5.9: low above high, or one of them above 8190, is answer 6
abbrev pub check_thresholds : Millimeters → Millimeters → Result Unit InvalidArgument
check_thresholds low high = refuse_if (ltb high.0 low.0 || ltb 8190 low.0 || ltb 8190 high.0)
