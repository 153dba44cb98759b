pub mod Counts
pub mod Each
pub mod Exact
pub mod Many
pub mod Reading
mod Rows
pub mod Splits
