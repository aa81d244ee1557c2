mod Exchanged
mod Finding
mod Inputs
mod Joining
mod Undetailed
mod ReadingReplies
