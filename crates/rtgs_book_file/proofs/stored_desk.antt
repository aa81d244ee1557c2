pub mod Migrations
pub mod Older
pub mod Resting
