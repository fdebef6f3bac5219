pub mod Bytes
pub mod Loop
pub mod Map
pub mod Masks
pub mod Walk
