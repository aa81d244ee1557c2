pub mod Requests
pub mod exchange
pub mod input
pub mod reply_laws
