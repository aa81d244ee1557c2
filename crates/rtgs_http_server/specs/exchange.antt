pub mod Handling
pub mod Exchange
pub mod ReplyMessages
pub mod Serving
