pub mod Dates
mod Debits
mod Padding
