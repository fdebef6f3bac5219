-- The words of the bus: transfers, replies, waits, answers and the driver's fields.
-- SCOPE 4 and SCOPE 9.1.
use Rattle.std.specs.Prelude.{Bool, true, false, not, ◌&&◌, List, [], ◌∷◌, ℕ, zero, suc, ◌%◌, eqb, length, take, get_or}
pub use Rattle.session.specs.declared.Driver.{Driver}
pub use Rattle.session.specs.declared.Transfer.{Transfer}
pub use Rattle.session.specs.declared.Answer.{Answer}
pub use Rattle.session.specs.declared.Condition.{Condition}

-- the byte at i; 0 past the end
abbrev pub byte : ℕ → List ℕ → ℕ
byte i bs = get_or bs i 0

-- the first n bytes, with zeros where there are fewer
abbrev pub pad_to : ℕ → List ℕ → List ℕ
pad_to zero bs = []
pad_to (suc n) [] = 0 ∷ pad_to n []
pad_to (suc n) (b ∷ bs) = b ∷ pad_to n bs

-- SCOPE 4.1: a transfer has an address, 1 to 7 bytes to be written, and a read length
abbrev pub transfer_of : ℕ → List ℕ → ℕ → Transfer
transfer_of address bytes reads = record { address = address; count = length bytes; written = pad_to 7 bytes; reads = reads }

-- the bytes that a transfer writes
abbrev pub bytes_of : Transfer → List ℕ
bytes_of t = take t.count t.written

-- what the bus answers: `bad e` is the failure code e + 1
pub data Reply : Type 0 where
  bad : ℕ → Reply
  good : List ℕ → Reply

-- a reply's failure code or 0, and its data
abbrev pub failure_in : Reply → ℕ
failure_in (bad e) = suc e
failure_in (good bs) = 0

abbrev pub data_in : Reply → List ℕ
data_in (bad e) = []
data_in (good bs) = bs

-- the bytes from the n-th on are zero
abbrev pub zero_from : ℕ → List ℕ → Bool
zero_from n [] = true
zero_from zero (x ∷ xs) = eqb x 0 && zero_from zero xs
zero_from (suc n) (x ∷ xs) = zero_from n xs

-- SCOPE 7.2: data past the read length has to be zero, and all data beside a failure code
abbrev pub clean_from : ℕ → ℕ → ℕ
clean_from zero n = n
clean_from (suc e) n = 0

-- SCOPE 4.2: the register that a wait reads
abbrev pub wait_register : Condition → ℕ
wait_register Condition.DetectorReady = 0x83
wait_register Condition.StatusReady = 0x13
wait_register Condition.Started = 0x00

-- by the call's code too: a call may have limits of its own
abbrev pub wait_limit : ℕ → Condition → ℕ
wait_limit code Condition.DetectorReady = 65535
wait_limit code Condition.StatusReady = 10000
wait_limit code Condition.Started = 10000

-- SCOPE 4.2: a wait's condition is unmet. The detector wait is met when 0x83 is not 0, the status wait when one of the low three bits of 0x13 is
-- set, the start wait when bit 0 of 0x00 is clear
unfoldable pub idle_on : Condition → List ℕ → Bool
idle_on Condition.DetectorReady bs = eqb (byte 0 bs) 0
idle_on Condition.StatusReady bs = eqb (byte 0 bs % 8) 0
idle_on Condition.Started bs = not (eqb (byte 0 bs % 2) 0)

-- SCOPE 9.1: the number of each answer, and its values, one today (SCOPE 2.3)
abbrev pub number_and_values : Answer → ℕ × List ℕ
number_and_values (Answer.Done value) = (0, value ∷ [])
number_and_values Answer.False = (1, 0 ∷ [])
number_and_values (Answer.InvalidDevice byte) = (2, byte ∷ [])
number_and_values (Answer.BusError code) = (3, code ∷ [])
number_and_values Answer.Timeout = (4, 0 ∷ [])
number_and_values (Answer.InvalidAddress address) = (5, address ∷ [])
number_and_values Answer.InvalidArgument = (6, 0 ∷ [])
number_and_values Answer.WouldBlock = (7, 0 ∷ [])
number_and_values (Answer.Panic place) = (8, place ∷ [])
number_and_values Answer.NotUp = (9, 0 ∷ [])
number_and_values Answer.CallWaits = (10, 0 ∷ [])
number_and_values Answer.NoCallWaits = (11, 0 ∷ [])
number_and_values Answer.StrayByte = (12, 0 ∷ [])
number_and_values Answer.IllFormedRecord = (13, 0 ∷ [])
number_and_values Answer.SpareBytes = (14, 0 ∷ [])
number_and_values Answer.IllFormedSession = (15, 0 ∷ [])

abbrev pub number_of : Answer → ℕ
number_of x = (number_and_values x).0

abbrev pub values_of : Answer → List ℕ
values_of x = (number_and_values x).1

-- SCOPE 6: while the session is not up all three are 0
abbrev pub absent : Driver
absent = record { up = false; address = 0; stop = 0; budget = 0 }

abbrev pub with_driver_address : Driver → ℕ → Driver
with_driver_address d a = record { up = d.up; address = a; stop = d.stop; budget = d.budget }

abbrev pub with_driver_budget : Driver → ℕ → Driver
with_driver_budget d b = record { up = d.up; address = d.address; stop = d.stop; budget = b }
