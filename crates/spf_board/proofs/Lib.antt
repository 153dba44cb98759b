mod Keeping
mod Reading
mod Adding
pub mod Prefixes
mod Seeing
pub mod Passing
pub mod Publishing
