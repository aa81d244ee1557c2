pub mod Batch
pub mod Kept
pub mod Lasting
pub mod Lives
pub mod Once
pub mod Repeats
