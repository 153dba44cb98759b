pub mod Frames
pub mod Sessions
pub mod Views
pub mod Steps
pub mod Standing
pub mod Keeping
