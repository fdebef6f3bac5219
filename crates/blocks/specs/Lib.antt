pub mod Blocks
pub mod Input
pub mod Laws
