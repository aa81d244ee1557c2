pub mod Commands
pub mod DayCommands
pub mod Numbers
pub mod Served
