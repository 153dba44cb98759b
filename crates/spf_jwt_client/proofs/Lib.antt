mod Caused
mod Fetched
mod Never
mod Plain
mod Unsent
