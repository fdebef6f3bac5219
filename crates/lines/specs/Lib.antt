pub mod Lines
pub mod Put
pub mod Cursor
