pub mod Runs
pub mod InOrder
pub mod Ending
