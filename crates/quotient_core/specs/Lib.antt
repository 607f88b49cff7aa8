-- Definitions that other crates use.
pub mod Numbers
-- Definitions that are private to this crate.
pub mod Search
pub mod Triples
