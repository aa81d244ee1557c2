pub mod Passing
pub mod FindingTexts
pub mod FindingLemmas
pub mod SeekingLemmas
pub mod DueLemmas
pub mod ListingLemmas
pub mod SkippingLemmas
