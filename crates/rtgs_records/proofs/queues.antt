pub mod Among
pub mod Numbering
pub mod OrderLemmas
pub mod QueueLemmas
pub mod Reading
