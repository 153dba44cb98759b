pub mod Ends
pub mod Printing
pub mod Runs
