pub mod Stops
pub mod Staging
pub mod Building
