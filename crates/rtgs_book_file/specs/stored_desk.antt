pub mod Migrated
pub mod Stored
