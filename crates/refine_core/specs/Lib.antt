pub mod Index
pub mod Rounds
