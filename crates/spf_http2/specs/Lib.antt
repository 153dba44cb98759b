pub mod Frames
pub mod Reading
pub mod Contents
pub mod Settings
pub mod Windows
