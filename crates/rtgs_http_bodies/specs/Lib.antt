pub mod Answers
pub mod Readings
pub mod Refusals
pub mod Spellings
pub mod Statuses
pub mod desks
pub mod replies
