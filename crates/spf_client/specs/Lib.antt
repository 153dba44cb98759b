pub mod Asking
pub mod Causes
pub mod Connecting
pub mod Lending
pub mod Reading
pub mod Streams
