pub mod Doubling
pub mod Halving
