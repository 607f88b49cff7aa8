pub mod CallerLemmas
pub mod ActiveStates
pub mod Tallying
pub mod Cutting
pub mod BlockLemmas
pub mod SplitAll
