pub mod Meets
pub mod New
