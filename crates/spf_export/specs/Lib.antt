pub mod Pem
pub mod Files
