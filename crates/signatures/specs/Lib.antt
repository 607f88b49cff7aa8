pub mod Lists
pub mod Marks
pub mod Cuts
pub mod Nodes
pub mod Hashed
pub mod Unions
pub mod Extensions
