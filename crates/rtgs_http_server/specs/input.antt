pub mod Input
pub mod Known
