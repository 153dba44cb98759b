pub mod Causes
pub mod Defaults
pub mod EndLemmas
pub mod Served
