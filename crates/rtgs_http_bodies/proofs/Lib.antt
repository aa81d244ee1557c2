mod Auto
mod Dated
mod InRange
mod NoFloat
mod Spelled
mod Undetailed
