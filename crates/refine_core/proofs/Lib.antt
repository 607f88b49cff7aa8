pub mod CallerLemmas
pub mod Signatures
pub mod Searching
pub mod Rounds
