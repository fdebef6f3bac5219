pub mod InOrder
pub mod Agrees
