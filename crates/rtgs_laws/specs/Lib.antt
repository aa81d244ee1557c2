pub mod Quiet
pub mod Through
pub mod repeats
