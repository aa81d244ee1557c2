pub mod Accounts
pub mod Queues
pub mod Readings
pub mod Status
pub mod Waiting
pub mod Written
