pub mod Cores
pub mod Following
pub mod Nexts
