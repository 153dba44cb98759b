pub mod ClaimLemmas
pub mod Added
pub mod Counted
pub mod Holds
pub mod Laid
pub mod Last
pub mod Lists
pub mod Payloads
mod Rows
pub mod Rules
pub mod Spelled
pub mod Stays
pub mod Utf8
pub mod Written
