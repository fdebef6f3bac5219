pub mod Exports
pub mod Stepping
