pub mod Sums
pub mod ChoiceLemmas
pub mod ListedLemmas
pub mod FundingLemmas
pub mod Resolving
pub mod LawLemmas
pub mod RaisedLemmas
pub mod SlackLemmas
