pub mod Joined
pub mod Rest
