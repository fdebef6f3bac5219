-- What an instruction is: a transfer, what is kept of its reply, and what a good reply decides.
-- The machine and the proofs go through a call by these definitions alone.
use Rattle.std.specs.Prelude.{Bool, true, false, cond, List, [], ◌∷◌, ℕ, zero, suc, ◌+◌, eqb}
use Rattle.std.proofs.lemmas.List.Edits.{sets}
use Rattle.timing.specs.declared.TimingRegisters.{TimingRegisters}
use Rattle.timing.specs.Registers.{registers_of}
use Rattle.timing.specs.Timeouts.{time_in}
use Rattle.budget.specs.Budget.{measurement_timing_budget}
pub use Rattle.session.specs.declared.Instruction.{Instruction}
use Rattle.session.specs.Bus.{Condition, wait_register, wait_limit, byte, Transfer, transfer_of, Reply, bad, good, Answer, Driver}

-- what an instruction can see: the call, the driver's fields, the address of its transfers, the failure code of the
-- range read (or 0), the budget that the budget reads gave, and the carried bytes
pub record Context : Type 0 where
  pub code : ℕ
  pub driver : Driver
  pub address : ℕ
  pub a : ℕ
  pub b : ℕ
  pub failed : ℕ
  pub found_budget : ℕ
  pub carried : List ℕ

-- the answers that a good reply, or the arguments of a call, can end a call with
pub data Stop : Type 0 where
  declines : Stop
  wrong_device : ℕ → Stop
  wrong_address : ℕ → Stop
  wrong_argument : Stop
  unready : Stop
  panics : ℕ → Stop

abbrev pub stop_answer : Stop → Answer
stop_answer declines = Answer.False
stop_answer (wrong_device b) = Answer.InvalidDevice b
stop_answer (wrong_address a) = Answer.InvalidAddress a
stop_answer wrong_argument = Answer.InvalidArgument
stop_answer unready = Answer.WouldBlock
stop_answer (panics p) = Answer.Panic p

-- the call goes on with the next instruction, leaps over some, or ends; `test b v w` is v where b holds, else w
pub data Verdict : Type 0 where
  onward : Verdict
  leap : Verdict
  stop : Stop → Verdict
  test : Bool → Verdict → Verdict → Verdict

pub data Op : Type 0 where
  -- register, the bytes after it, bytes read back, instructions that a leap leaves out, what a good reply decides
  write : ℕ → (Context → List ℕ) → ℕ → ℕ → (Context → Verdict) → Op
  -- register, length, slot of the bytes, whether it finds the budget, instructions that a leap leaves out, what a good reply decides
  read : ℕ → ℕ → ℕ → Bool → ℕ → (Context → Verdict) → Op
  wait : Condition → Op
  -- SCOPE 5.8: after a failed range read the interrupt is cleared all the same: the failure is kept, and the call goes on.
  -- Register, length, slot of the bytes, instructions that a failed one leaves out
  range : ℕ → ℕ → ℕ → ℕ → Op

-- how a call ends after its last instruction
pub data Final : Type 0 where
  success : ℕ → Driver → Final
  failure : ℕ → Final

-- slots of the carried bytes: identity, stop byte, a byte to be masked, detector byte of 0x92, range word,
-- first budget reads (also the oscillator word, the thresholds and the word of the signal limit), second budget reads, detector map
abbrev pub identity_slot : ℕ
identity_slot = 0

abbrev pub stop_slot : ℕ
stop_slot = 1

abbrev pub mask_slot : ℕ
mask_slot = 2

abbrev pub spad_slot : ℕ
spad_slot = 3

abbrev pub range_slot : ℕ
range_slot = 4

abbrev pub timing_slot : ℕ
timing_slot = 8

abbrev pub second_slot : ℕ
second_slot = 16

abbrev pub map_slot : ℕ
map_slot = 16

abbrev pub bytes_from : ℕ → ℕ → List ℕ → List ℕ
bytes_from i zero bs = []
bytes_from i (suc n) bs = byte i bs ∷ bytes_from (suc i) n bs

abbrev pub put : List ℕ → ℕ → List ℕ → List ℕ
put carried slot bs = sets carried slot bs

-- the six budget replies that are carried from slot k on
abbrev pub timing_in : ℕ → List ℕ → TimingRegisters
timing_in k carried = registers_of (bytes_from k 8 carried)

-- call 15's value for them, 0 where the arithmetic has a place: the call ends there
abbrev pub budget_in : ℕ → List ℕ → ℕ
budget_in k carried = (time_in (measurement_timing_budget (timing_in k carried))).0

abbrev pub send_of : Op → Context → Transfer
send_of (write reg bytes n over after) c = transfer_of c.address (reg ∷ bytes c) n
send_of (read reg n slot finds over after) c = transfer_of c.address (reg ∷ []) n
send_of (wait x) c = transfer_of c.address (wait_register x ∷ []) 1
send_of (range reg n slot over) c = transfer_of c.address (reg ∷ []) n

-- what is kept of a reply: bytes, and the failure code of the range read
abbrev pub kept_bytes : Op → Reply → List ℕ → List ℕ
kept_bytes (write reg bytes n over after) r carried = carried
kept_bytes (read reg n slot finds over after) (bad e) carried = carried
kept_bytes (read reg n slot finds over after) (good bs) carried = put carried slot (bytes_from 0 n bs)
kept_bytes (wait x) r carried = carried
kept_bytes (range reg n slot over) (bad e) carried = carried
kept_bytes (range reg n slot over) (good bs) carried = put carried slot (bytes_from 0 n bs)

abbrev pub kept_failure : Op → Reply → ℕ → ℕ
kept_failure (write reg bytes n over after) r failed = failed
kept_failure (read reg n slot finds over after) r failed = failed
kept_failure (wait x) r failed = failed
kept_failure (range reg n slot over) (bad e) failed = suc e
kept_failure (range reg n slot over) (good bs) failed = 0

-- the budget, at the read that finds it: what call 15 gives for the eight bytes from the first budget slot on
abbrev pub kept_budget : Op → Reply → List ℕ → ℕ → ℕ
kept_budget (write reg bytes n over after) r carried found_budget = found_budget
kept_budget (read reg n slot finds over after) (bad e) carried found_budget = found_budget
kept_budget (read reg n slot finds over after) (good bs) carried found_budget = cond finds (budget_in timing_slot (put carried slot (bytes_from 0 n bs))) found_budget
kept_budget (wait x) r carried found_budget = found_budget
kept_budget (range reg n slot over) r carried found_budget = found_budget

-- SCOPE 5.8: if the clearing fails too, call 6 reports the read's code, calls 7 and 8 the clearing's
abbrev pub read_wins : ℕ → Bool
read_wins code = eqb code 6

-- the code that a failed write reports, after a range read that failed with the code `failed` (or 0)
abbrev pub report_of : Bool → ℕ → ℕ → ℕ
report_of false failed e = e
report_of true zero e = e
report_of true (suc k) e = suc k

-- the most transfers that the instructions of a call can make
abbrev pub cost_of : ℕ → Op → ℕ
cost_of code (write reg bytes n over after) = 1
cost_of code (read reg n slot finds over after) = 1
cost_of code (wait x) = wait_limit code x
cost_of code (range reg n slot over) = 1

abbrev pub worst : ℕ → List Op → ℕ
worst code [] = 0
worst code (op ∷ ops) = cost_of code op + worst code ops
