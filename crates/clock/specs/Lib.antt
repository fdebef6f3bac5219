pub mod Places
pub mod Clock
