-- Call 9 whole, over good replies: the budget's crate says in `set_budget` what it comes to, from the budget and the six budget replies. SCOPE 5.5.
-- lib.rs: set_measurement_timing_budget
use Rattle.std.specs.Prelude.{◌≡◌, cond, List, [], ◌∷◌, ℕ, zero, suc, ◌+◌, ◌/◌, ◌%◌, take, is_none, Result, Ok, Err}
use Rattle.clock.specs.Places.{place_number}
use Rattle.timing.specs.declared.TimingRegisters.{TimingRegisters}
use Rattle.timing.specs.Registers.{registers_of}
use Rattle.timing.specs.Places.{first_place}
use Rattle.budget.specs.declared.DssTerm.{DssTerm}
use Rattle.budget.specs.declared.NoWord.{NoWord}
use Rattle.budget.specs.Budget.{too_short, set_budget}
use Rattle.session.specs.declared.Rules.{Rules}
use Rattle.session.specs.Bus.{Driver, Transfer, Answer, byte, transfer_of, with_driver_budget}
use Rattle.session.specs.Records.{call}
use Rattle.session.specs.Machine.{Session}
use Rattle.session.specs.History.{step_def}
use Rattle.session.specs.Script.{Raw, Trace, sends, ends, play}
use Rattle.session.specs.LaterCalls.{rust}
use Rattle.session.specs.Claim2.{Accepted, drive}
use Rattle.session.specs.Claim3.{good1, good2}

-- the six budget replies by their eight bytes, and the reply to the write, whose byte is ignored
abbrev pub good_replies : List ℕ → ℕ → List Raw
good_replies bytes ignored =
    good1 (byte 0 bytes)
    ∷ good2 (byte 1 bytes) (byte 2 bytes)
    ∷ good2 (byte 3 bytes) (byte 4 bytes)
    ∷ good1 (byte 5 bytes)
    ∷ good1 (byte 6 bytes)
    ∷ good1 (byte 7 bytes)
    ∷ good1 ignored
    ∷ []

-- SCOPE 5.3: the six reads
abbrev pub read_transfers : ℕ → List Transfer
read_transfers address =
    transfer_of address (0x01 ∷ []) 1
    ∷ transfer_of address (0x51 ∷ []) 2
    ∷ transfer_of address (0x71 ∷ []) 2
    ∷ transfer_of address (0x50 ∷ []) 1
    ∷ transfer_of address (0x46 ∷ []) 1
    ∷ transfer_of address (0x70 ∷ []) 1
    ∷ []

-- how many of the first n reads are made: each one before which no reply has shown a place
abbrev pub made_of : TimingRegisters → ℕ → ℕ
made_of r zero = 0
made_of r (suc n) = made_of r n + cond (is_none (first_place r n)) 1 0

-- a budget below 20,000 ends the call before any read
abbrev pub reads_made : TimingRegisters → ℕ → ℕ
reads_made r budget = cond (too_short budget) 0 (made_of r 6)

abbrev pub sends_all : List Transfer → Trace → Trace
sends_all [] x = x
sends_all (t ∷ ts) x = sends t (sends_all ts x)

-- what comes after the reads. A word is written to 0x71, high byte first, and then the budget is stored; without one nothing is written, and the
-- fields stay as they were: answer 1, or a panic's place
abbrev pub by_result : Driver → ℕ → Result ℕ NoWord → Trace
by_result d budget (Ok w) =
    sends (transfer_of d.address (0x71 ∷ w / 256 % 256 ∷ w % 256 ∷ []) 1) (ends (Answer.Done 0) (with_driver_budget d budget))
by_result d budget (Err NoWord.NoTime) = ends Answer.False d
by_result d budget (Err (NoWord.Panic p)) = ends (Answer.Panic (place_number p)) d

-- SCOPE 2.6, SCOPE 5.4: how call 9 counts DSS
abbrev pub dss_counted : Rules → DssTerm
dss_counted Rules.First = DssTerm.Once
dss_counted Rules.Current = DssTerm.Once

-- the trace of call 9
unfoldable pub trace_of_call9 : Rules → Driver → ℕ → List ℕ → Trace
trace_of_call9 rules d budget bytes =
    sends_all (take (reads_made (registers_of bytes) budget) (read_transfers d.address))
    (by_result d budget (set_budget (registers_of bytes) (record { 0 = budget }) (dss_counted rules)))

-- lib.rs's function has this trace, whatever the fields, the budget and the bytes
abbrev pub RustSetsBudget : Rules → Driver → ℕ → List ℕ → ℕ → Type 0
RustSetsBudget rules d budget bytes ignored = play (rust rules d 9 budget 0) (good_replies bytes ignored) ≡ trace_of_call9 rules d budget bytes

-- and so has every session that accepts the call
abbrev pub SessionSetsBudget : Rules → Session → ℕ → List ℕ → ℕ → Type 0
SessionSetsBudget rules s budget bytes ignored =
    Accepted rules s 9 budget 0 → drive rules (good_replies bytes ignored) (step_def rules s (call 9 budget 0)) ≡ trace_of_call9 rules s.driver budget bytes
