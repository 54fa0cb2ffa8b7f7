pub mod Acting
pub mod Arrays
pub mod Emptiness
pub mod Logs
pub mod Tallying
