pub mod Tables
pub mod Numbers
pub mod OneTable
pub mod Blank
