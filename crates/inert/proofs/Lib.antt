pub mod Invariant
pub mod Forward
pub mod Signatures
pub mod Back
pub mod Reading
pub mod Resting
