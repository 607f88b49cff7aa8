pub mod Signed
pub mod Steps
pub mod Search
pub mod SearchMoves
