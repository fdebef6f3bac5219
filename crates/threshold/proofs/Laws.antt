-- Laws of the threshold word: it fits 12 bits, a word is written back as it was read, and a distance is read back even.
use mathlib.Core.Path.{◌≡◌, ap}
use Prim.Native.Nat.{ℕ, ◌-◌, ◌%◌, ◌≤◌, ◌<◌}
use native.Mathlib.Omega.{arith}
use Rattle.threshold.specs.declared.Millimeters.{Millimeters}
use Rattle.threshold.specs.declared.RawThreshold.{RawThreshold}
use Rattle.threshold.specs.Threshold.{encode_threshold, decode_threshold}

-- an encoded word has 12 bits, for every distance
pub raw_fits : (mm : Millimeters) → (encode_threshold mm).0 < 4096
raw_fits mm = omega arith

-- up to 8190 a distance reads back as its even part: 301 reads back 300
pub read_back : (mm : Millimeters) → mm.0 ≤ 8190 → (decode_threshold (encode_threshold mm)).0 ≡ mm.0 - mm.0 % 2
read_back mm h = omega arith

-- every word of 12 bits is written back as it was read
pub write_back : (raw : RawThreshold) → raw.0 < 4096 → encode_threshold (decode_threshold raw) ≡ raw
write_back raw h = ap (λ (k : ℕ). record { 0 = k }) (omega arith)
