pub mod Numbers
pub mod Sound
pub mod Models
pub mod Acts
pub mod Founding
pub mod Rounds
