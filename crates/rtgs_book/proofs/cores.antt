pub mod Following
pub mod Lists
