pub mod Filled
pub mod Parts
pub mod Sizes
pub mod Whole
