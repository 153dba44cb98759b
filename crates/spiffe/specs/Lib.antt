pub mod Building
pub mod Reads
pub mod Records
pub mod Updating
pub mod Laws
pub mod Passes
pub mod Steps
pub mod States
