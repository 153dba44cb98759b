pub mod Failing
mod Posting
