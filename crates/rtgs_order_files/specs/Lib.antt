pub mod BatchFaults
pub mod OrderFile
pub mod Plain
pub mod Reading
pub mod Results
