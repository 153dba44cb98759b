pub mod HeaderLemmas
pub mod Ipv4
pub mod AnswerLemmas
pub mod Covers
pub mod PassedLemmas
pub mod Reached
