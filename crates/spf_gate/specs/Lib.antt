pub mod Answers
pub mod Lines
pub mod Policies
pub mod Reading
pub mod Rules
pub mod Serving
pub mod Verdicts
