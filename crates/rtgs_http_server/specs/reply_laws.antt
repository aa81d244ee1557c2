pub mod Again
pub mod Alike
pub mod Own
