pub mod System
pub mod Bisimulation
pub mod Blocks
pub mod Quotient
pub mod Alike
pub mod Union
pub mod Unaffected
