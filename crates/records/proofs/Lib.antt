pub mod Chunks
pub mod Counting
pub mod Decoded
pub mod Turns
pub mod Meets
