pub mod Interceptors
