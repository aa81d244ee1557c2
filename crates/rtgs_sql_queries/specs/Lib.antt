pub mod Records
pub mod Answering
pub mod Faults
pub mod Displaying
pub mod TableQueries
pub mod Laws
