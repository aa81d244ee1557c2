pub mod Causes
pub mod Imports
