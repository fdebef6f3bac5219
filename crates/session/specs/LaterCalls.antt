-- The calls that were asked for later, which lib.rs does not have: as its author would have written them (SCOPE 5.12). And with them the function of
-- every call.
use Rattle.std.specs.Prelude.{false, List, [], ◌∷◌, ◌++◌, ℕ, ◌%◌, pos, get_or}
use Rattle.std.specs.Float.{binary32}
use Rattle.std.specs.Float.Ieee.{round, to_bits, of_int, div}
use Rattle.session.specs.declared.Rules.{Rules}
use Rattle.session.specs.Bus.{Driver, Answer}
use Rattle.session.specs.Script.{Script, done}
use Rattle.session.specs.Registers.{FINAL_RANGE_CONFIG_MIN_COUNT_RATE_RTN_LIMIT}
use Rattle.session.specs.RustFn.{Fn, ◌>>=◌, Ok, read_16bit}
use Rattle.session.specs.RustBringUp.{Call, calls, method, number}

-- `raw as f32 / ((1 << 7) as f32)`, of a u16; a float is given by its bits
unfoldable pub limit_of_raw : ℕ → ℕ
limit_of_raw raw = to_bits binary32 (div binary32 (of_int binary32 (pos (raw % 65536))) (round binary32 false 128 1))

-- SCOPE 5.12: get_signal_rate_limit, beside set_signal_rate_limit
abbrev pub get_signal_rate_limit : Fn ℕ
get_signal_rate_limit = do
  raw ← read_16bit FINAL_RANGE_CONFIG_MIN_COUNT_RATE_RTN_LIMIT
  Ok (limit_of_raw raw)

-- SCOPE 5.1: from code 16 on
unfoldable pub later_calls : List Call
later_calls = (λ d a b. method number d get_signal_rate_limit) ∷ []

-- SCOPE 5.1: by its code; 0 is no call's. The first rules accept no call past 15
unfoldable pub rust : Rules → Driver → ℕ → ℕ → ℕ → Script
rust rules d code a b = get_or (calls rules ++ later_calls) code (λ d' a' b'. done Answer.False d') d a b
