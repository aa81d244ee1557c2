pub mod Failures
pub mod Lines
pub mod Texts
pub mod SentTo
