pub mod Rule
pub mod Option
pub mod Exact
pub mod Memory
pub mod Outside
pub mod formers
