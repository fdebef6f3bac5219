pub mod Steps
pub mod Programs
