pub mod IntSum
