pub mod Settling
pub mod NewBook
pub mod KeepingLooks
pub mod Accounts
pub mod Together
pub mod Judging
pub mod Migrating
