pub mod Failing
pub mod FeedLemmas
pub mod RunLemmas
mod Posting
mod UsableLemmas
