-- These are the definitions that other crates use.
pub mod Visits
