pub mod Known
pub mod ViewLemmas
pub mod HeldLemmas
pub mod RevisionLemmas
pub mod GrowthLemmas
pub mod StandsLemmas
pub mod AfterLemmas
pub mod EventLemmas
pub mod FrameLemmas
pub mod FrontLemmas
pub mod SessionLemmas
pub mod AllSteps
pub mod FollowLemmas
mod ExistsLemmas
mod Rows
pub mod KeepingLemmas
pub mod Replaying
