pub mod Reactions
pub mod Standing
