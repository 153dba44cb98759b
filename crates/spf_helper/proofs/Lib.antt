pub mod Completeness
pub mod Followings
pub mod KeepingLemmas
pub mod Ready
pub mod RunLemmas
pub mod Statuses
pub mod Stepped
pub mod WatchLemmas
