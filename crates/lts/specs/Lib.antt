pub mod Labels
pub mod Meter
pub mod Lts
pub mod Rows
pub mod Visited
pub mod Incoming
pub mod Union
