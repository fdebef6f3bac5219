pub mod Registers
pub mod Timeouts
pub mod Places
