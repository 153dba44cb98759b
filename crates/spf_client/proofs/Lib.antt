pub mod Never
pub mod Refusals
