pub mod CallerLemmas
pub mod Table
pub mod Filters
pub mod Rows
pub mod StoredRows
pub mod Indexing
pub mod Visits
