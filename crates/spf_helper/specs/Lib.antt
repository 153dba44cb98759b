pub mod Completing
pub mod Generations
pub mod Helping
pub mod Keeping
pub mod Runs
pub mod Watching
