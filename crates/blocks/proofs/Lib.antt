pub mod Texts
pub mod Laws
pub mod After
