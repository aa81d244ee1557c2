pub mod ByIndex
pub mod Closing
pub mod OneByOne
pub mod Settling
pub mod Joining
pub mod Ceilings
