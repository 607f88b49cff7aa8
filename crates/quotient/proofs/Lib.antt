pub mod Visible
pub mod Visits
