pub mod Claims
pub mod Folded
pub mod Members
pub mod Message
pub mod Numbers
pub mod Requests
pub mod Responses
pub mod Wire
