pub mod CommandLine
pub mod Invocation
pub mod requests
