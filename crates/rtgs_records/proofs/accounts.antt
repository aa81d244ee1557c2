pub mod AccountLemmas
pub mod Indexes
pub mod Settling
