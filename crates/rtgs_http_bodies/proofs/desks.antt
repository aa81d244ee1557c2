pub mod Leaving
mod NoFloat
mod QueueSums
mod QueueValues
mod WaitingValues
pub mod Writing
