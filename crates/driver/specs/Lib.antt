pub mod Replies
pub mod New
