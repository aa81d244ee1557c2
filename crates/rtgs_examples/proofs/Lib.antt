pub mod Automatic
pub mod Computed
pub mod Held
pub mod WholeRuns
