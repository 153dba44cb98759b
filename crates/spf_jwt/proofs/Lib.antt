pub mod Entries
pub mod Floats
mod Found
pub mod Kept
pub mod Keys
pub mod Later
pub mod Octets
pub mod Required
pub mod Shared
pub mod Signature
pub mod Texts
