pub mod Fields
pub mod Whole
pub mod Product
pub mod Word
pub mod ReadBack
pub mod Laws
