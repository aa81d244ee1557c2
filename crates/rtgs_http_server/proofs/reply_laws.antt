mod Callers
mod Determined
mod OwnReplies
mod OwnRows
mod RepeatedRequests
