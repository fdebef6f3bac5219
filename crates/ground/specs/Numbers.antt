-- Bytes as numbers.
use Rattle.std.specs.Prelude.{ℕ, ◌+◌, ◌*◌}

-- SCOPE 4.1: the high byte of a word comes first. lib.rs: read_16bit
abbrev pub word_of : ℕ → ℕ → ℕ
word_of high low = high * 256 + low
