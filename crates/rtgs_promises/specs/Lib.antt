pub mod Headline
pub mod Keys
pub mod Numbers
pub mod Openings
pub mod Program
pub mod Stops
