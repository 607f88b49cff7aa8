pub mod Partition
pub mod Splitting
pub mod Sizes
pub mod Blocks
pub mod Spans
pub mod Layout
pub mod Tally
pub mod Renumberings
