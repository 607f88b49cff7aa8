pub mod Files
pub mod Reports
pub mod Runs
pub mod Comparisons
pub mod Ends
pub mod Jobs
pub mod Opened
pub mod Programs
