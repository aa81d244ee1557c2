pub mod Between
pub mod Building
pub mod Faults
pub mod Loading
pub mod Migrating
