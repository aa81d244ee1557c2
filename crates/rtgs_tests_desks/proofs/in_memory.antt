pub mod CodeOrder
pub mod OrderNumbers
pub mod Credits
pub mod Making
