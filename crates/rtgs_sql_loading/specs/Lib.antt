pub mod Joining
pub mod Laws
pub mod Accounts
pub mod Displaying
pub mod Loading
