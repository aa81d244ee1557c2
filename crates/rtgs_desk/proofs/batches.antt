mod Rows
mod Stopped
mod Sending
