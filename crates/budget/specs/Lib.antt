pub mod Sums
pub mod Budget
