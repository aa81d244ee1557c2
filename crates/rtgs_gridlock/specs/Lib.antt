pub mod Choices
pub mod Fundings
pub mod Laws
pub mod Listed
pub mod Workspaces
pub mod Slack
pub mod Resolving
