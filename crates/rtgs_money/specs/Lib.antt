pub mod Amounts
pub mod Date
pub mod Digits
pub mod Forms
pub mod Lexical
pub mod Padding
pub mod Units
