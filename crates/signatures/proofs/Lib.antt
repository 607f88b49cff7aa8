pub mod CallerLemmas
pub mod Ascending
pub mod Cuts
pub mod Storing
pub mod Uniting
pub mod Marking
pub mod ExtendedLists
