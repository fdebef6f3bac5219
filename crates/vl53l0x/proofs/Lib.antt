pub mod Keeps
pub mod Fitting
pub mod Stepping
