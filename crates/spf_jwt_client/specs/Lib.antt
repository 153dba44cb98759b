pub mod Fetching
pub mod Requests
