pub mod Numbers
pub mod Reports
pub mod Streams
pub mod Live
pub mod Pairs
pub mod Values
