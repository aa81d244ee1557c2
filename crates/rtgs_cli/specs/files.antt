pub mod Done
pub mod Printing
pub mod Touching
