pub mod Batches
pub mod Sent
