pub mod PrintedAfter
pub mod Served
pub mod ServerPrints
