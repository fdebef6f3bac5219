-- In the order of belief. Everything that goes by the rules takes them first (`Rules`, in src/lib.rt; SCOPE 2.6), and each text says by itself what
-- they change in it. First what a reader has to believe: the bus, records of bytes, and the table of refusals
pub mod Bus
pub mod Records
pub mod Refusals
-- the Rust as a script
pub mod Script
pub mod Registers
pub mod RustFn
pub mod RustClocks
pub mod RustCalls
pub mod RustBringUp
-- and the calls that it does not have, in its manner
pub mod LaterCalls
-- runs and their history. What a record gives a session is the machine's, below; so are the names for a fresh session, one at rest, an ill-formed
-- one and the transfer that is out
pub mod History
-- and the three demands
pub mod Claim1
pub mod Claim2
pub mod Claim3
-- Then the machine, which the code meets and the demands pin down: what the rules change in it, instructions, their meaning, the calls as lists of
-- them, what a call and a reply do to a session, and that as the code returns it
pub mod Rules
pub mod Instructions
pub mod Steps
pub mod Calls
pub mod Machine
pub mod Given
-- Then what is beyond the demands: what holds of every session that is handed in
pub mod Parts
pub mod AnySession
-- call 9 whole, from its budget and its replies
pub mod SetBudget
-- call 16 whole, and call 14 with what it read
pub mod ReadLimit
-- waits over any limit, and values
pub mod AnyLimit
pub mod Bench
