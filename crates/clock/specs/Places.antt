-- The places of the arithmetic at which the Rust, built with overflow checks, panics.
use Rattle.std.specs.Prelude.{ℕ}
use Rattle.clock.specs.declared.Place.{Place}

-- the number of each (SCOPE 9.4)
abbrev pub place_number : Place → ℕ
place_number Place.TimedPeriod = 1
place_number Place.TimeoutShift = 2
place_number Place.FinalBelowPre = 3
place_number Place.VcselPeriod = 4
place_number Place.MsrcTimeout = 5
place_number Place.ToMicroseconds = 6
place_number Place.ToMclks = 7
place_number Place.NoMacroPeriod = 8
place_number Place.FinalTimeout = 9
