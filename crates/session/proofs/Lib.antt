-- common
pub mod Table
pub mod Unchanged
pub mod Slots
pub mod Good
pub mod Cut
pub mod Accepts
-- demand 1
pub mod Strays
pub mod AcceptedIff
pub mod Sized
pub mod Single
pub mod Refused
pub mod Demand1
pub mod AtOnce
pub mod Ill
pub mod Runs
-- demand 2: the machine is the script of its instructions
pub mod Scripts
pub mod OneStep
pub mod EveryList
pub mod Once
pub mod Tests
pub mod Later
pub mod Eager
-- the Rust's formulas are the leaves'
pub mod Formulas
pub mod Bits
pub mod RateLimit
pub mod Encoding
pub mod BudgetSums
pub mod SixReads
pub mod BudgetCalls
-- and each call's script its Rust function
pub mod Same
pub mod Demand2
-- the budget reads of a session that is handed in
pub mod FromReads
pub mod FirstPlace
-- demand 3: laws of the tables
pub mod Laws
pub mod Shape
pub mod Floor
pub mod Own
-- what the session carries is what the bus showed
pub mod Phase
pub mod Told
pub mod Trace
pub mod Owned
pub mod Value
pub mod Up
pub mod Fields
-- one reply, one record, one list
pub mod Lawful
pub mod Arrivals
pub mod React
pub mod Keeps
pub mod Demand3
pub mod Corollaries
-- every session that is handed in
pub mod Uses
pub mod Kept
pub mod Pairs
pub mod Needed
pub mod Course
pub mod Rest
pub mod Failed
pub mod Carried
-- call 9 whole
pub mod SetBudget
pub mod ReadLimit
-- waits over any limit, and values
pub mod Waits
pub mod Bench
