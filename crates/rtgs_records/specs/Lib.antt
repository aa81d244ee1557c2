pub mod Held
pub mod Records
pub mod accounts
pub mod queues
