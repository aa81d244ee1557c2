pub mod BytesRead
pub mod ForReading
pub mod Shown
pub mod Stated
