pub mod Outcomes
pub mod Readings
