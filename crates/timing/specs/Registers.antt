-- The six budget replies and the steps of the sequence.
use Rattle.std.specs.Prelude.{Bool, cond, List, ℕ, ◌/◌, ◌%◌, ◌^◌, eqb, get_or}
use Rattle.ground.specs.Numbers.{word_of}
use Rattle.timing.specs.declared.TimingRegisters.{TimingRegisters}
use Rattle.timing.specs.declared.SeqStepEnables.{SeqStepEnables}

-- SCOPE 5.3: the replies to 0x01, 0x51, 0x71, 0x50, 0x46, 0x70, in this order
abbrev pub registers_of : List ℕ → TimingRegisters
registers_of bytes = record {
  sequence = get_or bytes 0 0;
  pretimeout = word_of (get_or bytes 1 0) (get_or bytes 2 0);
  finaltimeout = word_of (get_or bytes 3 0) (get_or bytes 4 0);
  preperiod = get_or bytes 5 0;
  msrctimeout = get_or bytes 6 0;
  finalperiod = get_or bytes 7 0;
}

-- ((byte >> k) & 1) == 1
abbrev pub bit_at : ℕ → ℕ → Bool
bit_at k byte = eqb (byte / 2 ^ k % 2) 1

-- lib.rs: get_sequence_step_enables
abbrev pub sequence_step_enables : ℕ → SeqStepEnables
sequence_step_enables sequence = record {
  tcc = bit_at 4 sequence;
  dss = bit_at 3 sequence;
  msrc = bit_at 2 sequence;
  prerange = bit_at 6 sequence;
  finalrange = bit_at 7 sequence;
}

-- what a step counts while it is on
abbrev pub when_on : Bool → ℕ → ℕ
when_on on n = cond on n 0
