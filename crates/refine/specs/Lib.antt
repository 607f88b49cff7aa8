pub mod Signed
pub mod Spans
pub mod Search
