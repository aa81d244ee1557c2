pub mod Imported
pub mod OrdersRead
